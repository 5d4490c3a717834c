-- Terms and atoms over the signature have the same values by values for all cells as in tables that have these values.
use Rattle.std.proofs.Common.{◌≡◌, ◌∙◌, sym, ap, subst, refl, ℕ, ◌<◌, ◌==◌, Bool, true, false, if◌then◌else◌, List, [], ◌∷◌, map, length, nat_eq, Option, Some, None, option_map, IsSomeAnd, slice_get, arith}
use Rattle.std.specs.Prelude.{◌&&◌}
use Rattle.std.specs.List.{AllByRecursion, list_all}
use Rattle.std.proofs.lemmas.Bool.{eqb-true, eqb-false}
use Rattle.std.proofs.lemmas.List.{length-map}
use Rattle.std.proofs.lemmas.List.Folds.{list_all-map}
use Rattle.std.proofs.lemmas.List.Elements.{All-from_recursion}
use Rattle.sc_term.specs.declared.SymId.{SymId}
use Rattle.sc_term.specs.declared.Term.{Term, Var}
use Rattle.sc_term.specs.declared.Term.TheVariants.{App}
use Rattle.sc_term.specs.declared.Literal.{Literal}
use Rattle.sc_term.specs.Interpretation.{Assignment, are_equal, value_step, value, atom_holds}
use Rattle.sc_term.proofs.TermLaws.{term_ind, fold-Var, fold-App}
use Rattle.sc_term.specs.declared.symbol.Role.{Role}
use Rattle.sc_term.specs.declared.symbol.Role.TheVariants.{Function, Predicate}
use Rattle.sc_term.specs.declared.symbol.Symbol.{Symbol}
use Rattle.sc_term.specs.Symbol.{IsSignature, role_number, equality}
use Rattle.sc_input_rules.specs.WellFormed.{is_used_as, over_step, term_is_over, literal_is_over}
use Rattle.sc_input_rules.proofs.Booleans.{parts_hold}
use Rattle.sc_interp.specs.Structure.{Structure, entry, meaning_of}
use Rattle.sc_cells.specs.Cells.{Entry, Prefix, IsCell, below_of, values_below, given_among, given_value, onto, all_given, given_step, given_term, given_atom}

-- ---- symbols of a signature

abbrev pub cell_of : SymId → List ℕ → Entry
cell_of f args = record { symbol = f.0; indices = args }

-- the symbol is there, in the role, with so many arguments
pub record IsUsed (sig : List Symbol) (role : Role) (f : SymId) (n : ℕ) : Type 0 where
  pub symbol : Symbol
  pub there : slice_get sig f.0 ≡ Some symbol
  pub role_is : role_number symbol.role ≡ role_number role
  pub arity_is : symbol.arity ≡ n

pub used : (sig : List Symbol) (role : Role) (f : SymId) (n : ℕ) → is_used_as sig role f n ≡ true → IsUsed sig role f n
used sig role f n e = by (slice_get sig f.0) refl e
  where
    by : (o : Option Symbol) → slice_get sig f.0 ≡ o → (elim o [ None ↦ false | Some s ↦ role_number s.role == role_number role && s.arity == n ]) ≡ true → IsUsed sig role f n
    by None h e = absurd cc
    by (Some s) h e =
        let p = parts_hold (role_number s.role == role_number role) (s.arity == n) e in
        record {
          symbol = s;
          there = h;
          role_is = eqb-true (role_number s.role) (role_number role) p.0;
          arity_is = eqb-true s.arity n p.1;
        }

-- a function isn't `=`
function_is_other : (sig : List Symbol) (f : SymId) (n : ℕ) → IsSignature sig → IsUsed sig Function f n → 0 < f.0
function_is_other sig f n s u = by (nat_eq f.0 0) refl
  where
    by : (b : Bool) → nat_eq f.0 0 ≡ b → 0 < f.0
    by true e =
        let here : Some u.symbol ≡ Some equality = sym u.there ∙ ap (slice_get sig) (eqb-true f.0 0 e) ∙ s.first in
        let same : u.symbol ≡ equality = cc in
        let bad : role_number Function ≡ role_number Predicate = sym u.role_is ∙ ap (λ (x : Symbol). role_number x.role) same in
        absurd (omega (arith, bad))
    by false e = omega (arith, eqb-false f.0 0 e)

is_cell : (sig : List Symbol) (size : ℕ) (role : Role) (f : SymId) (n : ℕ) (args : List ℕ) → IsUsed sig role f n → 0 < f.0 → length args ≡ n
    → AllByRecursion (λ i. i < size) args → IsCell sig size (cell_of f args)
is_cell sig size role f n args u more long below = (
  more,
  subst (λ o. IsSomeAnd o (λ s. length args ≡ s.arity)) (sym u.there) (long ∙ sym u.arity_is),
  All-from_recursion (λ i. i < size) args below,
)

-- ---- values of all cells

-- the prefix gives each cell the value that the tables have there, and it is in the cell's range
pub record HasValues (sig : List Symbol) (size : ℕ) (p : Prefix) (t : Structure) : Type 0 where
  pub size_is : t.size ≡ size
  pub given : (f : SymId) (args : List ℕ) → IsCell sig size (cell_of f args) → given_among f args p.cells p.values ≡ Some (entry t f args)
  pub below : (f : SymId) (args : List ℕ) → IsCell sig size (cell_of f args) → entry t f args < values_below sig size (cell_of f args)

function_below : (size v : ℕ) (o : Option Symbol) (s : Symbol) → o ≡ Some s → role_number s.role ≡ 0 → v < below_of size o → v < size
function_below size v o s e is h = by s.role is (subst (λ o. v < below_of size o) e h)
  where
    by : (r : Role) → role_number r ≡ 0 → v < below_of size (Some (record s { role = r })) → v < size
    by Function is h = h
    by Predicate is h = absurd (omega (arith, is))

turned : (m n : ℕ) → nat_eq m n ≡ nat_eq n m
turned m n = by (nat_eq m n) (nat_eq n m) refl refl
  where
    by : (b c : Bool) → nat_eq m n ≡ b → nat_eq n m ≡ c → nat_eq m n ≡ nat_eq n m
    by true true e k = e ∙ sym k
    by false false e k = e ∙ sym k
    by true false e k = absurd (eqb-false n m k (sym (eqb-true m n e)))
    by false true e k = absurd (eqb-false m n e (sym (eqb-true n m k)))

module _ (sig : List Symbol) (size : ℕ) (p : Prefix) (t : Structure) (signature : IsSignature sig) (has : HasValues sig size p t)
    (a : Assignment) (elements : (n : ℕ) → a n < size) where
  abbrev value_in : Term → ℕ
  value_in = value (meaning_of t) a

  -- the value is given, and is an element
  record IsGiven (u : Term) : Type 0 where
    value_is : given_term p a u ≡ Some (value_in u)
    below : value_in u < size

  record AreGiven (us : List Term) : Type 0 where
    values_are : all_given (map (given_term p a) us) ≡ Some (map value_in us)
    below : AllByRecursion (λ v. v < size) (map value_in us)

  abbrev Evaluates : Term → Type 0
  Evaluates u = term_is_over sig u ≡ true → IsGiven u

  each_evaluates : (us : List Term) → AllByRecursion Evaluates us → list_all (term_is_over sig) us ≡ true → AreGiven us
  each_evaluates [] h e = record { values_are = refl; below = tt }
  each_evaluates (u ∷ us) h e =
      let parts = parts_hold (term_is_over sig u) (list_all (term_is_over sig) us) e in
      let one = h.0 parts.0 in
      let rest = each_evaluates us h.1 parts.1 in
      record { values_are = λ i. onto (one.value_is i) (rest.values_are i); below = (one.below, rest.below) }

  term_evaluates : (u : Term) → Evaluates u
  term_evaluates u = term_ind Evaluates at_variable at_symbol u
    where
      at_variable : (n : ℕ) → Evaluates (Var n)
      at_variable n e =
          let is : value_in (Var n) ≡ a n = fold-Var ℕ (value_step (meaning_of t) a) n in
          record {
            value_is = fold-Var (Option ℕ) (given_step p a) n ∙ ap (λ (v : ℕ). Some v) (sym is);
            below = subst (λ v. v < size) (sym is) (elements n);
          }

      at_symbol : (f : SymId) (us : List Term) → AllByRecursion Evaluates us → Evaluates (App f us)
      at_symbol f us h e =
          let over = fold-App Bool (over_step sig) f us in
          let parts = parts_hold (is_used_as sig Function f (length (map (term_is_over sig) us))) (list_all (λ b. b) (map (term_is_over sig) us)) (sym over ∙ e) in
          let all = each_evaluates us h (sym (list_all-map (λ b. b) (term_is_over sig) us) ∙ parts.1) in
          let u = used sig Function f (length (map (term_is_over sig) us)) parts.0 in
          let vs = map value_in us in
          let long : length vs ≡ length (map (term_is_over sig) us) = length-map us value_in ∙ sym (length-map us (term_is_over sig)) in
          let cell = is_cell sig size Function f (length (map (term_is_over sig) us)) vs u (function_is_other sig f _ signature u) long all.below in
          let is : value_in (App f us) ≡ entry t f vs = fold-App ℕ (value_step (meaning_of t) a) f us in
          record {
            value_is = fold-App (Option ℕ) (given_step p a) f us ∙ ap (given_value p f) all.values_are ∙ has.given f vs cell ∙ ap (λ (v : ℕ). Some v) (sym is);
            below = subst (λ v. v < size) (sym is) (function_below size (entry t f vs) (slice_get sig f.0) u.symbol u.there u.role_is (has.below f vs cell));
          }

  every : (us : List Term) → AllByRecursion Evaluates us
  every [] = tt
  every (u ∷ us) = (term_evaluates u, every us)

  pub atom_evaluates : (l : Literal) → literal_is_over sig l ≡ true
      → given_atom p l.pred (all_given (map (given_term p a) l.args)) ≡ Some (atom_holds (meaning_of t) l.pred (map value_in l.args))
  atom_evaluates l e = ap (given_atom p l.pred) all.values_are ∙ by (nat_eq l.pred.0 0) refl
    where
      parts : (is_used_as sig Predicate l.pred (length l.args) ≡ true) × (list_all (term_is_over sig) l.args ≡ true)
      parts = parts_hold (is_used_as sig Predicate l.pred (length l.args)) (list_all (term_is_over sig) l.args) e

      all : AreGiven l.args
      all = each_evaluates l.args (every l.args) parts.1

      vs : List ℕ
      vs = map value_in l.args

      looked : Bool → Option Bool
      looked b = if b then Some (are_equal vs) else option_map (nat_eq 1) (given_value p l.pred (Some vs))

      holds : Bool → Option Bool
      holds b = Some (if b then are_equal vs else nat_eq (entry t l.pred vs) 1)

      by : (b : Bool) → nat_eq l.pred.0 0 ≡ b → looked (nat_eq l.pred.0 0) ≡ holds (nat_eq l.pred.0 0)
      by true z = ap looked z ∙ sym (ap holds z)
      by false z =
          let u = used sig Predicate l.pred (length l.args) parts.0 in
          let cell = is_cell sig size Predicate l.pred (length l.args) vs u (omega (arith, eqb-false l.pred.0 0 z)) (length-map l.args value_in) all.below in
          ap looked z ∙ ap (option_map (nat_eq 1)) (has.given l.pred vs cell) ∙ ap (λ (b : Bool). Some b) (turned 1 (entry t l.pred vs)) ∙ sym (ap holds z)
