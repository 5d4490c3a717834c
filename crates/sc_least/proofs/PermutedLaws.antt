-- Values for all cells, with the elements permuted: they are in range, and consistent where the values are.
use Rattle.std.proofs.Common.{◌≡◌, ◌∙◌, sym, ap, subst, refl, ℕ, zero, suc, ◌<◌, ◌==◌, ◌||◌, Bool, true, false, true≢false, if◌then◌else◌, List, [], ◌∷◌, length, map, nat_eq, get_or, slice_get, Option, Some, None, IsSomeAnd, option_map, arith}
use Rattle.std.specs.Prelude.{◌&&◌, unwrap_or}
use Rattle.std.specs.List.{All, AllZip, AllByRecursion, list_any, list_all}
use Rattle.std.proofs.lemmas.Bool.{eqb-true, eqb-false, eq-eqb}
use Rattle.std.proofs.lemmas.List.{length-map, take_all}
use Rattle.std.proofs.lemmas.List.Folds.{list_all-map}
use Rattle.std.proofs.lemmas.List.Elements.{All-map, All-weaker, All-contains, All-from_recursion, recursion_from_All}
use Rattle.std.proofs.lemmas.Option.{slice_get_within, slice_get-get_or, get_or_from_slice_get}
use Rattle.sc_term.specs.declared.SymId.{SymId}
use Rattle.sc_term.specs.declared.Term.{Term, Var}
use Rattle.sc_term.specs.declared.Term.TheVariants.{App}
use Rattle.sc_term.specs.declared.Literal.{Literal}
use Rattle.sc_term.specs.declared.Clause.{Clause}
use Rattle.sc_term.specs.Interpretation.{Assignment, are_equal}
use Rattle.sc_term.proofs.TermLaws.{term_ind, fold-Var, fold-App}
use Rattle.sc_term.specs.declared.symbol.Role.{Role}
use Rattle.sc_term.specs.declared.symbol.Role.TheVariants.{Function, Predicate}
use Rattle.sc_term.specs.declared.symbol.Symbol.{Symbol}
use Rattle.sc_term.specs.Symbol.{role_number}
use Rattle.sc_input_rules.specs.WellFormed.{is_used_as, over_step, term_is_over, literal_is_over, IsOver}
use Rattle.sc_input_rules.proofs.Booleans.{parts_hold, neither}
use Rattle.sc_interp.specs.Structure.{values_below as entries_below}
use Rattle.sc_cells.specs.Cells.{Entry, Prefix, IsCell, AreCells, AreValues, below_of, values_below, same_numbers, is_cell_of, given_among, given_value, onto, all_given, given_step, given_term, given_atom, IsFalseBy, IsConsistent}
use Rattle.sc_least.proofs.ExchangeLaws.{differs}

pub none_is_not : {A : Type 0} {B : Type 0} (a : A) → ◌≡◌ {A = Option A} None (Some a) → B
none_is_not a e = cc

-- ---- entries among cells

abbrev pub cell_of : SymId → List ℕ → Entry
cell_of f args = record { symbol = f.0; indices = args }

same_lists : (ms ns : List ℕ) → same_numbers ms ns ≡ true → ms ≡ ns
same_lists [] [] e = refl
same_lists [] (n ∷ ns) e = absurd cc
same_lists (m ∷ ms) [] e = absurd cc
same_lists (m ∷ ms) (n ∷ ns) e =
    let p = parts_hold (nat_eq m n) (same_numbers ms ns) e in
    let head = eqb-true m n p.0 in
    let rest = same_lists ms ns p.1 in
    (λ i. head i ∷ rest i)

lists_same : (ns : List ℕ) → same_numbers ns ns ≡ true
lists_same [] = refl
lists_same (n ∷ ns) = ap (λ r. r && same_numbers ns ns) (eq-eqb n n refl) ∙ lists_same ns

pub cell_is : (f : SymId) (args : List ℕ) (cell : Entry) → is_cell_of f args cell ≡ true → cell ≡ cell_of f args
cell_is f args cell e =
    let p = parts_hold (nat_eq f.0 cell.symbol) (same_numbers args cell.indices) e in
    let s : cell.symbol ≡ f.0 = sym (eqb-true f.0 cell.symbol p.0) in
    let k : cell.indices ≡ args = sym (same_lists args cell.indices p.1) in
    (λ i. record { symbol = s i; indices = k i })

pub is_itself : (f : SymId) (args : List ℕ) → is_cell_of f args (cell_of f args) ≡ true
is_itself f args = ap (λ r. r && same_numbers args args) (eq-eqb f.0 f.0 refl) ∙ lists_same args

-- whether the entry is one of the cells
abbrev is_among : SymId → List ℕ → List Entry → Bool
is_among f args cells = list_any (is_cell_of f args) cells

abbrev some_if : Bool → ℕ → Option ℕ
some_if true v = Some v
some_if false v = None

-- values that are made of the cells
given_of_made : (h : Entry → ℕ) (f : SymId) (args : List ℕ) (cells : List Entry) (r : Bool) → is_among f args cells ≡ r
    → given_among f args cells (map h cells) ≡ some_if r (h (cell_of f args))
given_of_made h f args [] r e = ap (λ b. some_if b (h (cell_of f args))) e
given_of_made h f args (cell ∷ cells) r e = by (is_cell_of f args cell) refl (given_of_made h f args cells)
  where
    by : (b : Bool) → is_cell_of f args cell ≡ b
        → ((s : Bool) → is_among f args cells ≡ s → given_among f args cells (map h cells) ≡ some_if s (h (cell_of f args)))
        → given_among f args (cell ∷ cells) (map h (cell ∷ cells)) ≡ some_if r (h (cell_of f args))
    by true k rest =
        let here : true ≡ r = sym (ap (λ b. b || is_among f args cells) k) ∙ e in
        ap (λ b. if b then Some (h cell) else given_among f args cells (map h cells)) k
        ∙ ap (λ (c : Entry). Some (h c)) (cell_is f args cell k) ∙ ap (λ b. some_if b (h (cell_of f args))) here
    by false k rest =
        ap (λ b. if b then Some (h cell) else given_among f args cells (map h cells)) k ∙ rest r (sym (ap (λ b. b || is_among f args cells) k) ∙ e)

given_where : (f : SymId) (args : List ℕ) (cells : List Entry) (values : List ℕ) → length values ≡ length cells → is_among f args cells ≡ true
    → (v : ℕ) × (given_among f args cells values ≡ Some v)
given_where f args [] values long e = absurd cc
given_where f args (cell ∷ cells) [] long e = absurd (omega (arith, long))
given_where f args (cell ∷ cells) (v ∷ vs) long e = by (is_cell_of f args cell) refl (given_where f args cells vs (omega (arith, long)))
  where
    by : (b : Bool) → is_cell_of f args cell ≡ b → (is_among f args cells ≡ true → (w : ℕ) × (given_among f args cells vs ≡ Some w))
        → (w : ℕ) × (given_among f args (cell ∷ cells) (v ∷ vs) ≡ Some w)
    by true k rest = (v, ap (λ b. if b then Some v else given_among f args cells vs) k)
    by false k rest =
        let more = rest (sym (ap (λ b. b || is_among f args cells) k) ∙ e) in
        (more.0, ap (λ b. if b then Some v else given_among f args cells vs) k ∙ more.1)

given_nowhere : (f : SymId) (args : List ℕ) (cells : List Entry) (values : List ℕ) → is_among f args cells ≡ false → given_among f args cells values ≡ None
given_nowhere f args [] values e = refl
given_nowhere f args (cell ∷ cells) [] e = refl
given_nowhere f args (cell ∷ cells) (v ∷ vs) e =
    let p = neither (is_cell_of f args cell) (is_among f args cells) e in
    ap (λ b. if b then Some v else given_among f args cells vs) p.0 ∙ given_nowhere f args cells vs p.1

among_at : (f : SymId) (args : List ℕ) (cells : List Entry) → is_among f args cells ≡ true → (k : ℕ) × (slice_get cells k ≡ Some (cell_of f args))
among_at f args [] e = absurd cc
among_at f args (cell ∷ cells) e = by (is_cell_of f args cell) refl (among_at f args cells)
  where
    by : (b : Bool) → is_cell_of f args cell ≡ b → (is_among f args cells ≡ true → (k : ℕ) × (slice_get cells k ≡ Some (cell_of f args)))
        → (k : ℕ) × (slice_get (cell ∷ cells) k ≡ Some (cell_of f args))
    by true k rest = (0, ap (λ (c : Entry). Some c) (cell_is f args cell k))
    by false k rest = let more = rest (sym (ap (λ b. b || is_among f args cells) k) ∙ e) in (suc more.0, more.1)

or_true : (b : Bool) → (b || true) ≡ true
or_true true = refl
or_true false = refl

is_there : (f : SymId) (args : List ℕ) (cells : List Entry) (k : ℕ) → slice_get cells k ≡ Some (cell_of f args) → is_among f args cells ≡ true
is_there f args [] k e = none_is_not (cell_of f args) e
is_there f args (cell ∷ cells) zero e =
    let same : cell ≡ cell_of f args = cc in
    ap (λ (c : Entry). is_cell_of f args c || is_among f args cells) same ∙ ap (λ b. b || is_among f args cells) (is_itself f args)
is_there f args (cell ∷ cells) (suc k) e = ap (λ r. is_cell_of f args cell || r) (is_there f args cells k e) ∙ or_true (is_cell_of f args cell)

given_below : (sig : List Symbol) (size : ℕ) (f : SymId) (args : List ℕ) (cells : List Entry) (values : List ℕ) (v : ℕ)
    → AllZip (λ cell v. v < values_below sig size cell) cells values → given_among f args cells values ≡ Some v → v < below_of size (slice_get sig f.0)
given_below sig size f args [] values v h e = none_is_not v e
given_below sig size f args (cell ∷ cells) [] v h e = none_is_not v e
given_below sig size f args (cell ∷ cells) (w ∷ ws) v h e = by (is_cell_of f args cell) refl e (given_below sig size f args cells ws v h.1)
  where
    by : (b : Bool) → is_cell_of f args cell ≡ b → (if b then Some w else given_among f args cells ws) ≡ Some v
        → (given_among f args cells ws ≡ Some v → v < below_of size (slice_get sig f.0)) → v < below_of size (slice_get sig f.0)
    by true k e rest =
        let same : w ≡ v = cc in
        subst (λ n. n < below_of size (slice_get sig f.0)) same (subst (λ (c : Entry). w < below_of size (slice_get sig c.symbol)) (cell_is f args cell k) h.0)
    by false k e rest = rest e

zip_made : (R : Entry → ℕ → Type 0) (h : Entry → ℕ) (cs : List Entry) → AllByRecursion (λ c. R c (h c)) cs → AllZip R cs (map h cs)
zip_made R h [] k = tt
zip_made R h (c ∷ cs) k = (k.0, zip_made R h cs k.1)

-- ---- values moved: those of functions are elements

abbrev pub moved_as : (ℕ → ℕ) → Role → ℕ → ℕ
moved_as swap Function v = swap v
moved_as swap Predicate v = v

abbrev pub moved_by : (ℕ → ℕ) → Option Symbol → ℕ → ℕ
moved_by swap None v = v
moved_by swap (Some s) v = moved_as swap s.role v

role_is : (sig : List Symbol) (role : Role) (f : SymId) (n : ℕ) → is_used_as sig role f n ≡ true
    → (s : Symbol) × (slice_get sig f.0 ≡ Some s) × (role_number s.role ≡ role_number role)
role_is sig role f n e = by (slice_get sig f.0) refl e
  where
    by : (o : Option Symbol) → slice_get sig f.0 ≡ o → (elim o [ None ↦ false | Some s ↦ role_number s.role == role_number role && s.arity == n ]) ≡ true
        → (s : Symbol) × (slice_get sig f.0 ≡ Some s) × (role_number s.role ≡ role_number role)
    by None h e = absurd cc
    by (Some s) h e =
        let p = parts_hold (role_number s.role == role_number role) (s.arity == n) e in
        (s, h, eqb-true (role_number s.role) (role_number role) p.0)

function_moves : (swap : ℕ → ℕ) (sig : List Symbol) (f : SymId) (n : ℕ) → is_used_as sig Function f n ≡ true → (v : ℕ) → moved_by swap (slice_get sig f.0) v ≡ swap v
function_moves swap sig f n e v = let s = role_is sig Function f n e in ap (λ o. moved_by swap o v) s.1 ∙ by s.0.role s.2
  where
    by : (r : Role) → role_number r ≡ 0 → moved_as swap r v ≡ swap v
    by Function h = refl
    by Predicate h = absurd (omega (arith, h))

predicate_stays : (swap : ℕ → ℕ) (sig : List Symbol) (f : SymId) (n : ℕ) → is_used_as sig Predicate f n ≡ true → (v : ℕ) → moved_by swap (slice_get sig f.0) v ≡ v
predicate_stays swap sig f n e v = let s = role_is sig Predicate f n e in ap (λ o. moved_by swap o v) s.1 ∙ by s.0.role s.2
  where
    by : (r : Role) → role_number r ≡ 1 → moved_as swap r v ≡ v
    by Function h = absurd (omega (arith, h))
    by Predicate h = refl

onto_moved : (swap : ℕ → ℕ) (o : Option ℕ) (os : Option (List ℕ)) → onto (option_map swap o) (option_map (map swap) os) ≡ option_map (map swap) (onto o os)
onto_moved swap None os = refl
onto_moved swap (Some n) None = refl
onto_moved swap (Some n) (Some ms) = refl

-- ---- all cells

module _ (sig : List Symbol) (size : ℕ) (cells : List Entry) (are : AreCells sig size cells)
    (swap : ℕ → ℕ) (twice : (n : ℕ) → swap (swap n) ≡ n) (within : (n : ℕ) → n < size → swap n < size) where
  is_cell : (f : SymId) (args : List ℕ) → is_among f args cells ≡ true → IsCell sig size (cell_of f args)
  is_cell f args e =
      let at = among_at f args cells e in
      subst (IsCell sig size) (get_or_from_slice_get cells at.0 (cell_of f args) (cell_of f args) at.1)
      (are.only at.0 (cell_of f args) (slice_get_within cells at.0 (cell_of f args) at.1))

  among_cells : (f : SymId) (args : List ℕ) → IsCell sig size (cell_of f args) → is_among f args cells ≡ true
  among_cells f args c =
      let there = are.all (cell_of f args) c in
      is_there f args cells there.0 (slice_get-get_or cells there.0 (cell_of f args) there.1 ∙ ap (λ (e : Entry). Some e) there.2)

  swap_cell : (f : SymId) (args : List ℕ) → IsCell sig size (cell_of f args) → IsCell sig size (cell_of f (map swap args))
  swap_cell f args c = (
    c.0,
    subst (λ n. IsSomeAnd (slice_get sig f.0) (λ s. n ≡ s.arity)) (sym (length-map args swap)) c.1,
    All-map (λ i. i < size) swap args (λ k d lt. within (get_or args k d) (c.2 k d lt)),
  )

  swap_all_twice : (ns : List ℕ) → map swap (map swap ns) ≡ ns
  swap_all_twice [] = refl
  swap_all_twice (n ∷ ns) = let one = twice n in let rest = swap_all_twice ns in (λ i. one i ∷ rest i)

  among_swapped : (f : SymId) (args : List ℕ) (r : Bool) → is_among f args cells ≡ r → is_among f (map swap args) cells ≡ r
  among_swapped f args true e = among_cells f (map swap args) (swap_cell f args (is_cell f args e))
  among_swapped f args false e = by (is_among f (map swap args) cells) refl
    where
      by : (b : Bool) → is_among f (map swap args) cells ≡ b → is_among f (map swap args) cells ≡ false
      by false k = k
      by true k =
          let back : is_among f (map swap (map swap args)) cells ≡ true
          = among_cells f (map swap (map swap args)) (swap_cell f (map swap args) (is_cell f (map swap args) k)) in
          let wrong : true ≡ false = sym back ∙ ap (λ ns. is_among f ns cells) (swap_all_twice args) ∙ e in
          absurd (true≢false wrong)

  moved_below : (o : Option Symbol) (v : ℕ) → v < below_of size o → moved_by swap o v < below_of size o
  moved_below None v h = h
  moved_below (Some s) v h = by s.role h
    where
      by : (r : Role) → v < entries_below r size → moved_as swap r v < entries_below r size
      by Function h = within v h
      by Predicate h = h

  same_moved : (m n : ℕ) → nat_eq (swap m) (swap n) ≡ nat_eq m n
  same_moved m n = by (nat_eq m n) refl
    where
      by : (b : Bool) → nat_eq m n ≡ b → nat_eq (swap m) (swap n) ≡ nat_eq m n
      by true e = eq-eqb (swap m) (swap n) (ap swap (eqb-true m n e)) ∙ sym e
      by false e = differs (swap m) (swap n) (λ k. eqb-false m n e (sym (twice m) ∙ ap swap k ∙ twice n)) ∙ sym e

  equal_moved : (ns : List ℕ) → are_equal (map swap ns) ≡ are_equal ns
  equal_moved [] = refl
  equal_moved (m ∷ []) = refl
  equal_moved (m ∷ n ∷ []) = same_moved m n
  equal_moved (m ∷ n ∷ k ∷ ks) = refl

  equals_moved : (o : Option (List ℕ)) → option_map are_equal (option_map (map swap) o) ≡ option_map are_equal o
  equals_moved None = refl
  equals_moved (Some ns) = ap (λ (r : Bool). Some r) (equal_moved ns)

  module _ (values : List ℕ) (long : length values ≡ length cells) where
    -- the value that the cell gets: that of the entry with permuted arguments, itself permuted where it is an element
    abbrev pub permuted_value : Entry → ℕ
    permuted_value cell =
        moved_by swap (slice_get sig cell.symbol) (unwrap_or (given_among (record { 0 = cell.symbol }) (map swap cell.indices) cells values) 0)

    abbrev pub permuted : List ℕ
    permuted = map permuted_value cells

    permuted_given : (f : SymId) (args : List ℕ) → given_among f args cells permuted ≡ option_map (moved_by swap (slice_get sig f.0)) (given_among f (map swap args) cells values)
    permuted_given f args = by (is_among f args cells) refl
      where
        by : (r : Bool) → is_among f args cells ≡ r → given_among f args cells permuted ≡ option_map (moved_by swap (slice_get sig f.0)) (given_among f (map swap args) cells values)
        by true e =
            let was = given_where f (map swap args) cells values long (among_swapped f args true e) in
            given_of_made permuted_value f args cells true e
            ∙ ap (λ o. Some (moved_by swap (slice_get sig f.0) (unwrap_or o 0))) was.1
            ∙ sym (ap (option_map (moved_by swap (slice_get sig f.0))) was.1)
        by false e =
            given_of_made permuted_value f args cells false e
            ∙ sym (ap (option_map (moved_by swap (slice_get sig f.0))) (given_nowhere f (map swap args) cells values (among_swapped f args false e)))

    -- ---- they are in range

    permuted_below : AllZip (λ cell v. v < values_below sig size cell) cells values → (cell : Entry) → IsCell sig size cell → permuted_value cell < values_below sig size cell
    permuted_below range cell c =
        let f : SymId = record { 0 = cell.symbol } in
        let args = map swap cell.indices in
        let was = given_where f args cells values long (among_cells f args (swap_cell f cell.indices c)) in
        let below = given_below sig size f args cells values was.0 range was.1 in
        subst (λ o. moved_by swap (slice_get sig cell.symbol) (unwrap_or o 0) < values_below sig size cell) (sym was.1)
        (moved_below (slice_get sig cell.symbol) was.0 below)

    pub permuted_values : AllZip (λ cell v. v < values_below sig size cell) cells values → AreValues sig size cells permuted
    permuted_values range =
        let each = All-weaker (IsCell sig size) (λ c. permuted_value c < values_below sig size c) (permuted_below range) cells are.only in
        let all = recursion_from_All (λ c. permuted_value c < values_below sig size c) cells each in
        let as_long = length-map cells permuted_value in
        subst (λ cs. AllZip (λ cell v. v < values_below sig size cell) cs permuted) (sym (take_all (length permuted) cells (omega (arith, as_long))))
        (zip_made (λ cell v. v < values_below sig size cell) permuted_value cells all)

    -- ---- they are consistent

    abbrev given : Prefix
    given = record { cells = cells; values = values }

    abbrev now : Prefix
    now = record { cells = cells; values = permuted }

    value_moves : (f : SymId) (o : Option (List ℕ)) → ((v : ℕ) → moved_by swap (slice_get sig f.0) v ≡ swap v)
        → given_value given f (option_map (map swap) o) ≡ option_map swap (given_value now f o)
    value_moves f None m = refl
    value_moves f (Some args) m = sym (ap (option_map swap) (permuted_given f args) ∙ undone (given_among f (map swap args) cells values))
      where
        undone : (o : Option ℕ) → option_map swap (option_map (moved_by swap (slice_get sig f.0)) o) ≡ o
        undone None = refl
        undone (Some v) = ap (λ (n : ℕ). Some n) (ap swap (m v) ∙ twice v)

    value_stays : (f : SymId) (o : Option (List ℕ)) → ((v : ℕ) → moved_by swap (slice_get sig f.0) v ≡ v)
        → given_value given f (option_map (map swap) o) ≡ given_value now f o
    value_stays f None m = refl
    value_stays f (Some args) m = sym (permuted_given f args ∙ same (given_among f (map swap args) cells values))
      where
        same : (o : Option ℕ) → option_map (moved_by swap (slice_get sig f.0)) o ≡ o
        same None = refl
        same (Some v) = ap (λ (n : ℕ). Some n) (m v)

    module _ (a : Assignment) where
      abbrev turned : Assignment
      turned n = swap (a n)

      abbrev Moves : Term → Type 0
      Moves t = term_is_over sig t ≡ true → given_term given turned t ≡ option_map swap (given_term now a t)

      all_move : (ts : List Term) → AllByRecursion Moves ts → list_all (term_is_over sig) ts ≡ true
          → all_given (map (given_term given turned) ts) ≡ option_map (map swap) (all_given (map (given_term now a) ts))
      all_move [] h e = refl
      all_move (t ∷ ts) h e =
          let parts = parts_hold (term_is_over sig t) (list_all (term_is_over sig) ts) e in
          let one = h.0 parts.0 in
          let rest = all_move ts h.1 parts.1 in
          (λ i. onto (one i) (rest i)) ∙ onto_moved swap (given_term now a t) (all_given (map (given_term now a) ts))

      term_moves : (t : Term) → Moves t
      term_moves t = term_ind Moves at_variable at_symbol t
        where
          at_variable : (n : ℕ) → Moves (Var n)
          at_variable n e = fold-Var (Option ℕ) (given_step given turned) n ∙ sym (ap (option_map swap) (fold-Var (Option ℕ) (given_step now a) n))

          at_symbol : (f : SymId) (ts : List Term) → AllByRecursion Moves ts → Moves (App f ts)
          at_symbol f ts h e =
              let over = fold-App Bool (over_step sig) f ts in
              let parts = parts_hold (is_used_as sig Function f (length (map (term_is_over sig) ts))) (list_all (λ b. b) (map (term_is_over sig) ts)) (sym over ∙ e) in
              let all = all_move ts h (sym (list_all-map (λ b. b) (term_is_over sig) ts) ∙ parts.1) in
              fold-App (Option ℕ) (given_step given turned) f ts ∙ ap (given_value given f) all
              ∙ value_moves f (all_given (map (given_term now a) ts)) (function_moves swap sig f (length (map (term_is_over sig) ts)) parts.0)
              ∙ sym (ap (option_map swap) (fold-App (Option ℕ) (given_step now a) f ts))

      every : (ts : List Term) → AllByRecursion Moves ts
      every [] = tt
      every (t ∷ ts) = (term_moves t, every ts)

      atom_stays : (l : Literal) → literal_is_over sig l ≡ true
          → given_atom given l.pred (all_given (map (given_term given turned) l.args)) ≡ given_atom now l.pred (all_given (map (given_term now a) l.args))
      atom_stays l e =
          let parts = parts_hold (is_used_as sig Predicate l.pred (length l.args)) (list_all (term_is_over sig) l.args) e in
          let all = all_move l.args (every l.args) parts.1 in
          let os = all_given (map (given_term now a) l.args) in
          let equals = equals_moved os in
          let truth = ap (option_map (nat_eq 1)) (value_stays l.pred os (predicate_stays swap sig l.pred (length l.args) parts.0)) in
          ap (given_atom given l.pred) all ∙ (λ i. if nat_eq l.pred.0 0 then equals i else truth i)

      all_false : (ls : List Literal) → list_all (literal_is_over sig) ls ≡ true → AllByRecursion (IsFalseBy now a) ls → AllByRecursion (IsFalseBy given turned) ls
      all_false [] over h = tt
      all_false (l ∷ ls) over h =
          let parts = parts_hold (literal_is_over sig l) (list_all (literal_is_over sig) ls) over in
          (atom_stays l parts.0 ∙ h.0, all_false ls parts.1 h.1)

    pub permuted_consistent : (clauses : List Clause) → All (IsOver sig) clauses → IsConsistent clauses size given → IsConsistent clauses size now
    permuted_consistent clauses over h c a there elements all =
        h c (λ n. swap (a n)) there (λ n. within (a n) (elements n))
        (All-from_recursion (IsFalseBy given (λ n. swap (a n))) c.literals
        (all_false a c.literals (All-contains (IsOver sig) clauses c over there) (recursion_from_All (IsFalseBy now a) c.literals all)))
