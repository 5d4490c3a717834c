-- The value of a clause under an assignment depends on the elements of its variables alone. So it is enough to try the
-- lists of as many elements as the clause is wide.
use Rattle.std.proofs.Common.{◌≡◌, ◌∙◌, sym, ap, subst, refl, ℕ, zero, suc, ◌+◌, ◌^◌, ◌<◌, ◌≤◌, Bool, true, false, true≢false, not, ◌||◌, if◌then◌else◌, List, [], ◌∷◌, length, map, replicate, get_or, slice_index, max, fold, nat_eq, arith}
use Rattle.std.specs.List.{AllByRecursion, list_any, range_with_len}
use Rattle.std.proofs.lemmas.List.FromFn.{length-map-range_with_len, get_or-map-range_with_len}
use Rattle.std.proofs.lemmas.Bool.{eqb-true, eqb-false}
use Rattle.sc_term.specs.declared.SymId.{SymId}
use Rattle.sc_term.specs.declared.Term.{Term, Var}
use Rattle.sc_term.specs.declared.Term.TheVariants.{App}
use Rattle.sc_term.specs.declared.Literal.{Literal}
use Rattle.sc_term.specs.declared.Clause.{Clause}
use Rattle.sc_term.specs.Term.{term_width}
use Rattle.sc_term.specs.Clause.{literal_width, width}
use Rattle.sc_term.specs.Interpretation.{Meaning, Assignment, value_step, value, atom_holds, literal_holds}
use Rattle.sc_term.proofs.TermLaws.{term_ind, fold-Var, fold-App, width-Var, width-App}
use Rattle.sc_interp.specs.declared.table.Table.{Table}
use Rattle.sc_interp.specs.Structure.{tables_of_size, Satisfies}
use Rattle.sc_interp.specs.Assignments.{AreElements, assignment_number, holds_at, HoldsBefore}
use Rattle.sc_interp.proofs.Assignments.{head, tail, one_number, bounded, first_number}

-- the largest of a list is at most n: each is
under : (a : ℕ) (ws : List ℕ) (n : ℕ) → fold max a ws ≤ n → AllByRecursion (λ w. w ≤ n) ws
under a [] n h = tt
under a (w ∷ ws) n h = (omega (arith, first (max a w) ws h), under (max a w) ws n h)
  where
    first : (b : ℕ) (vs : List ℕ) → fold max b vs ≤ n → b ≤ n
    first b [] h = h
    first b (v ∷ vs) h = omega (arith, first (max b v) vs h)

-- two assignments that agree below n
module _ (meaning : Meaning) (a b : Assignment) (n : ℕ) (agree : (k : ℕ) → k < n → a k ≡ b k) where
  abbrev Agrees : Term → Type 0
  Agrees t = term_width t ≤ n → value meaning a t ≡ value meaning b t

  each_agrees : (ts : List Term) → AllByRecursion Agrees ts → AllByRecursion (λ w. w ≤ n) (map term_width ts) → map (value meaning a) ts ≡ map (value meaning b) ts
  each_agrees [] h k = refl
  each_agrees (t ∷ ts) h k = let one = h.0 k.0 in let rest = each_agrees ts h.1 k.1 in (λ i. one i ∷ rest i)

  term_agrees : (t : Term) → Agrees t
  term_agrees t = term_ind Agrees at_variable at_symbol t
    where
      at_variable : (m : ℕ) → Agrees (Var m)
      at_variable m h =
          let below : m < n = omega (arith, width-Var m, h) in
          fold-Var ℕ (value_step meaning a) m ∙ agree m below ∙ sym (fold-Var ℕ (value_step meaning b) m)

      at_symbol : (f : SymId) (ts : List Term) → AllByRecursion Agrees ts → Agrees (App f ts)
      at_symbol f ts h k =
          let small = under 0 (map term_width ts) n (subst (λ w. w ≤ n) (width-App f ts) k) in
          fold-App ℕ (value_step meaning a) f ts ∙ ap (meaning.function f) (each_agrees ts h small) ∙ sym (fold-App ℕ (value_step meaning b) f ts)

  terms_agree : (ts : List Term) → AllByRecursion (λ w. w ≤ n) (map term_width ts) → map (value meaning a) ts ≡ map (value meaning b) ts
  terms_agree [] k = refl
  terms_agree (t ∷ ts) k = let one = term_agrees t k.0 in let rest = terms_agree ts k.1 in (λ i. one i ∷ rest i)

  literal_agrees : (l : Literal) → literal_width l ≤ n → literal_holds meaning a l ≡ literal_holds meaning b l
  literal_agrees l h =
      ap (λ values. if l.positive then atom_holds meaning l.pred values else not (atom_holds meaning l.pred values))
      (terms_agree l.args (under 0 (map term_width l.args) n h))

  literals_agree : (ls : List Literal) → AllByRecursion (λ w. w ≤ n) (map literal_width ls) → list_any (literal_holds meaning a) ls ≡ list_any (literal_holds meaning b) ls
  literals_agree [] k = refl
  literals_agree (l ∷ ls) k = let one = literal_agrees l k.0 in let rest = literals_agree ls k.1 in (λ i. one i || rest i)

-- each list of as many elements as there are places makes some literal true
abbrev pub HoldsEverywhere : ℕ → List Table → Clause → List ℕ → Type 0
HoldsEverywhere size tables c values =
    (others : List ℕ) → length others ≡ length values → AreElements size others → holds_at size tables c others ≡ true

pub satisfied : (size : ℕ) (tables : List Table) (c : Clause) (values : List ℕ) → width c ≤ length values
    → HoldsEverywhere size tables c values → Satisfies (record { size = size; tables = tables }) c
satisfied size tables c values wide h a elements =
    let n = length values in
    let others = map a (range_with_len 0 n) in
    let there : holds_at size tables c others ≡ true
    = h others (length-map-range_with_len a 0 n)
    (λ k d lt. let at : get_or others k d ≡ a k = get_or-map-range_with_len a 0 n k k d (subst (λ m. k < m) (length-map-range_with_len a 0 n) lt) (omega arith) in
    subst (λ v. v < size) (sym at) (elements k)) in
    sym (literals_agree (tables_of_size size tables) (slice_index others) a n (λ k lt. get_or-map-range_with_len a 0 n k k 0 lt (omega arith))
    c.literals (under 0 (map literal_width c.literals) n wide)) ∙ there

-- an assignment that makes no literal true
pub falsified : (size : ℕ) (tables : List Table) (c : Clause) (values : List ℕ) → 1 ≤ size → AreElements size values
    → holds_at size tables c values ≡ false → Satisfies (record { size = size; tables = tables }) c → ⊥
falsified size tables c values some elements none all = true≢false (sym (all (slice_index values) below) ∙ none)
  where
    from : (vs : List ℕ) (n : ℕ) → AreElements size vs → slice_index vs n < size
    from [] n h = omega arith
    from (v ∷ vs) zero h = head (λ v. v < size) v vs h
    from (v ∷ vs) (suc n) h = from vs n (tail (λ v. v < size) v vs h)

    below : (n : ℕ) → slice_index values n < size
    below n = from values n elements

-- one more assignment was tried
pub tried : (size : ℕ) (tables : List Table) (c : Clause) (values : List ℕ) → AreElements size values → HoldsBefore size tables c values
    → holds_at size tables c values ≡ true → (others : List ℕ) → length others ≡ length values → AreElements size others
    → assignment_number size others < assignment_number size values + 1 → holds_at size tables c others ≡ true
tried size tables c values elements before here others long are lt = by (nat_eq (assignment_number size others) (assignment_number size values)) refl
  where
    by : (b : Bool) → nat_eq (assignment_number size others) (assignment_number size values) ≡ b → holds_at size tables c others ≡ true
    by true e = ap (holds_at size tables c) (one_number size others values long are elements (eqb-true (assignment_number size others) (assignment_number size values) e)) ∙ here
    by false e = let other = eqb-false (assignment_number size others) (assignment_number size values) e in before others long are (omega arith)

-- all assignments were tried
pub all_tried : (size : ℕ) (tables : List Table) (c : Clause) (values : List ℕ) → AreElements size values → HoldsBefore size tables c values
    → holds_at size tables c values ≡ true → assignment_number size values + 1 ≡ size ^ length values → HoldsEverywhere size tables c values
all_tried size tables c values elements before here last others long are =
    tried size tables c values elements before here others long are
    (omega (arith, bounded size others are, ap (λ n. size ^ n) long, last))

-- none was tried before the first one
pub none_tried : (size : ℕ) (tables : List Table) (c : Clause) (n : ℕ) → HoldsBefore size tables c (replicate n 0)
none_tried size tables c n others long are lt = absurd (omega (arith, first_number size n))
