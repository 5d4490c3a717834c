-- What rows with the number of each cell find is what the cells have as values.
use Rattle.std.proofs.Common.{◌≡◌, ◌∙◌, sym, ap, refl, ℕ, zero, suc, ◌<◌, ◌≤◌, ◌⊎◌, inl, inr, Bool, true, false, ◌&&◌, if◌then◌else◌, List, [], ◌∷◌, map, length, nat_eq, Option, Some, None, slice_get, not, arith}
use Rattle.std.proofs.lemmas.Bool.{eqb-true, eq-eqb, cases_lt}
use Rattle.std.proofs.lemmas.Option.{slice_get_within, slice_get_past}
use Rattle.sc_term.specs.declared.SymId.{SymId}
use Rattle.sc_term.specs.declared.Term.{fold-Term}
use Rattle.sc_term.specs.declared.Term.TheOpen.{Term-F}
use Rattle.sc_term.specs.declared.Term.TheOpen as at
use Rattle.sc_term.specs.declared.Literal.{Literal}
use Rattle.sc_term.specs.Interpretation.{Assignment}
use Rattle.sc_cells.specs.Cells.{Entry, Prefix, same_numbers, is_cell_of, given_among, given_value, all_given, given_step, given_term, given_atom, IsFalseBy}
use Rattle.sc_find_given.specs.declared.row.Row.{Row}
use Rattle.sc_find_given.specs.Lookup.{number_for, value_at, look_up, found_step, found_term, IsFoundFalse}
use Rattle.sc_find_given.specs.Keeping.{AreIndexed}

-- ---- a cell by its symbol and arguments

abbrev pub cell_of : SymId → List ℕ → Entry
cell_of f args = record { symbol = f.0; indices = args }

both : (a b : Bool) → (a && b) ≡ true → (a ≡ true) × (b ≡ true)
both true b e = (refl, e)
both false b e = cc

pub same_lists : (ms ns : List ℕ) → same_numbers ms ns ≡ true → ms ≡ ns
same_lists [] [] e = refl
same_lists [] (n ∷ ns) e = cc
same_lists (m ∷ ms) [] e = cc
same_lists (m ∷ ms) (n ∷ ns) e =
    let parts = both (nat_eq m n) (same_numbers ms ns) e in
    let first : m ≡ n = eqb-true m n parts.0 in
    let rest : ms ≡ ns = same_lists ms ns parts.1 in
    λ i. first i ∷ rest i

itself : (ns : List ℕ) → same_numbers ns ns ≡ true
itself [] = refl
itself (n ∷ ns) = (λ i. eq-eqb n n refl i && same_numbers ns ns) ∙ itself ns

pub is_cell : (f : SymId) (args : List ℕ) (cell : Entry) → is_cell_of f args cell ≡ true → cell ≡ cell_of f args
is_cell f args cell e =
    let parts = both (nat_eq f.0 cell.symbol) (same_numbers args cell.indices) e in
    let symbol : f.0 ≡ cell.symbol = eqb-true f.0 cell.symbol parts.0 in
    let indices : args ≡ cell.indices = same_lists args cell.indices parts.1 in
    λ i. record { symbol = sym symbol i; indices = sym indices i }

pub its_cell : (f : SymId) (args : List ℕ) → is_cell_of f args (cell_of f args) ≡ true
its_cell f args = (λ i. eq-eqb f.0 f.0 refl i && same_numbers args args) ∙ itself args

-- ---- its value

-- it is the one cell of that number
among_one : (f : SymId) (args : List ℕ) (cells : List Entry) (values : List ℕ) (n : ℕ) → slice_get cells n ≡ Some (cell_of f args)
    → ((m : ℕ) → slice_get cells m ≡ Some (cell_of f args) → m ≡ n) → given_among f args cells values ≡ slice_get values n
among_one f args [] values n here one = cc
among_one f args (c ∷ cs) [] n here one = refl
among_one f args (c ∷ cs) (v ∷ vs) zero here one =
    let is : c ≡ cell_of f args = cc in
    ap (λ x. if is_cell_of f args x then Some v else given_among f args cs vs) is ∙ ap (λ b. if b then Some v else given_among f args cs vs) (its_cell f args)
among_one f args (c ∷ cs) (v ∷ vs) (suc n) here one =
    by (is_cell_of f args c) refl (among_one f args cs vs n here (λ m at_m. let more : suc m ≡ suc n = one (suc m) at_m in omega arith))
  where
    by : (b : Bool) → is_cell_of f args c ≡ b → given_among f args cs vs ≡ slice_get vs n → given_among f args (c ∷ cs) (v ∷ vs) ≡ slice_get vs n
    by true e rest = let bad : 0 ≡ suc n = one 0 (ap Some (is_cell f args c e)) in absurd (omega arith)
    by false e rest = ap (λ b. if b then Some v else given_among f args cs vs) e ∙ rest

-- it is no cell
among_none : (f : SymId) (args : List ℕ) (cells : List Entry) (values : List ℕ) → ((m : ℕ) → slice_get cells m ≡ Some (cell_of f args) → ⊥)
    → given_among f args cells values ≡ None
among_none f args [] values none = refl
among_none f args (c ∷ cs) [] none = refl
among_none f args (c ∷ cs) (v ∷ vs) none = by (is_cell_of f args c) refl (among_none f args cs vs (λ m. none (suc m)))
  where
    by : (b : Bool) → is_cell_of f args c ≡ b → given_among f args cs vs ≡ None → given_among f args (c ∷ cs) (v ∷ vs) ≡ None
    by true e rest = absurd (none 0 (ap Some (is_cell f args c e)))
    by false e rest = ap (λ b. if b then Some v else given_among f args cs vs) e ∙ rest

module _ (size : ℕ) (rows : List Row) (cells : List Entry) (values : List ℕ) (indexed : AreIndexed size rows cells) (few : length values ≤ length cells) where
  value_is : (f : SymId) (args : List ℕ) → value_at values (number_for size rows f args) ≡ given_among f args cells values
  value_is f args = by (number_for size rows f args) refl
    where
      by : (o : Option ℕ) → number_for size rows f args ≡ o → value_at values o ≡ given_among f args cells values
      by None e = sym (among_none f args cells values (λ m at_m. let is : number_for size rows f args ≡ Some m = indexed.there m (cell_of f args) at_m in cc))
      by (Some n) e = split (cases_lt n (length cells))
        where
          split : (n < length cells) ⊎ (length cells ≤ n) → slice_get values n ≡ given_among f args cells values
          split (inl lt) = sym (among_one f args cells values n (indexed.right f args n e lt)
              (λ m at_m. let is : number_for size rows f args ≡ Some m = indexed.there m (cell_of f args) at_m in cc))
          split (inr past) = slice_get_past values n (omega arith)
              ∙ sym (among_none f args cells values (λ m at_m.
              let is : number_for size rows f args ≡ Some m = indexed.there m (cell_of f args) at_m in
              let one : n ≡ m = cc in
              let within : m < length cells = slice_get_within cells m (cell_of f args) at_m in
              absurd (omega arith)))

  abbrev prefix : Prefix
  prefix = record { cells = cells; values = values }

  look_is : (f : SymId) (o : Option (List ℕ)) → look_up size rows values f o ≡ given_value prefix f o
  look_is f None = refl
  look_is f (Some args) = value_is f args

  looks_are : look_up size rows values ≡ given_value prefix
  looks_are = λ i f o. look_is f o i

  step_is : (a : Assignment) (x : Term-F (Option ℕ)) → found_step (given_value prefix) a x ≡ given_step prefix a x
  step_is a (at.Var n) = refl
  step_is a (at.App f vs) = refl

  term_is : (a : Assignment) → found_term (given_value prefix) a ≡ given_term prefix a
  term_is a = λ i. fold-Term (Option ℕ) (λ x. step_is a x i)

  -- a literal is found false where it is false by the values
  pub false_is : (a : Assignment) → IsFoundFalse (look_up size rows values) a ≡ IsFalseBy prefix a
  false_is a = (λ i. IsFoundFalse (looks_are i) a) ∙ (λ i l. at_literal l i)
    where
      at_literal : (l : Literal) → IsFoundFalse (given_value prefix) a l ≡ IsFalseBy prefix a l
      at_literal l = λ i. given_atom prefix l.pred (all_given (map (term_is a i) l.args)) ≡ Some (not l.positive)
