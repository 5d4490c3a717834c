-- A clause is rewritten in one way, and so by the change that was found.
use Rattle.std.proofs.Common.{◌≡◌, ◌∙◌, sym, ap, subst, refl, ℕ, suc, ◌<◌, ◌≤◌, ◌⊎◌, inl, inr, max, List, [], ◌∷◌, ◌++◌, map, true, Some, arith}
use Rattle.std.specs.Prelude.{IsSomeAnd}
use Rattle.std.specs.List.{AllByRecursion, Contains, fold}
use Rattle.std.proofs.lemmas.List.{append-nil}
use Rattle.sc_term.specs.declared.Term.{Term, Var}
use Rattle.sc_term.specs.declared.Term.TheVariants.{App}
use Rattle.sc_term.specs.declared.Literal.{Literal}
use Rattle.sc_term.specs.declared.Clause.{Clause}
use Rattle.sc_term.specs.declared.Line.{Line}
use Rattle.sc_term.specs.declared.Numbered.{Numbered}
use Rattle.sc_term.specs.declared.Step.TheVariants.{Para}
use Rattle.sc_term.specs.declared.Side.TheVariants.{Left}
use Rattle.sc_term.specs.Numbering.{numbered, with_element, without}
use Rattle.sc_term.specs.Path.{IsReplaced}
use Rattle.sc_term.specs.Term.{value_of, joined, largest, term_width, term_variables, term_instance}
use Rattle.sc_term.specs.Clause.{width, literal_width, variables, instance, literal_instance}
use Rattle.sc_term.specs.Refuted.{equation}
use Rattle.sc_term.specs.Proof.{Follows, clause_of, IsParamodulant, chosen, other}
use Rattle.sc_term.proofs.TermLaws.{term_ind, width-Var, width-App}
use Rattle.sc_term.proofs.TermSteps.{variables-Var, variables-App}
use Rattle.sc_term.proofs.SubstitutionLaws.{term_laws, all_split, all_join}
use Rattle.sc_steps.proofs.LineLaws.{some_so}
use Rattle.sc_unify.proofs.TermFacts.{all_so}
use Rattle.sc_unify.proofs.Rows.{at_least}
use Rattle.sc_core_rules.specs.Derivation.{AreTermsTo}
use Rattle.sc_core_rules.specs.Rewriting.{IsEquation, IsRedex, IsFirstRedex, IsBeforeInPostOrder, IsDemodulator}
use Rattle.sc_core_rules.proofs.DerivationLaws.{compared, at_found}
use Rattle.sc_core_rules.proofs.FilterLaws.{in_first}
use Rattle.sc_core_rules.proofs.SimplifyLaws.{subterm_one, same_sides}
use Rattle.sc_term.specs.Path.{IsSubtermAt}
use Rattle.sc_demod.specs.Fitting.{FitsBy}
use Rattle.sc_demod.specs.Rewriting.{IsPutIn}
use Rattle.sc_demod.proofs.CutLaws.{absent_any}

-- ---- the first redex is one

post_total : (p q : List ℕ) → IsBeforeInPostOrder p q ⊎ (p ≡ q) ⊎ IsBeforeInPostOrder q p
post_total [] [] = inr (inl refl)
post_total [] (j ∷ q) = inr (inr tt)
post_total (i ∷ p) [] = inl tt
post_total (i ∷ p) (j ∷ q) = by (compared i j) (post_total p q)
  where
    by : (i < j) ⊎ (i ≡ j) ⊎ (j < i) → IsBeforeInPostOrder p q ⊎ (p ≡ q) ⊎ IsBeforeInPostOrder q p
        → IsBeforeInPostOrder (i ∷ p) (j ∷ q) ⊎ (i ∷ p ≡ j ∷ q) ⊎ IsBeforeInPostOrder (j ∷ q) (i ∷ p)
    by (inl less) rest = inl (inl less)
    by (inr (inr less)) rest = inr (inr (inl less))
    by (inr (inl e)) (inl h) = inl (inr (e, h))
    by (inr (inl e)) (inr (inl f)) = inr (inl (λ n. e n ∷ f n))
    by (inr (inl e)) (inr (inr h)) = inr (inr (inr (sym e, h)))

pub first_redex_one : (demods : List Numbered) (c : Clause) (b d : ℕ) (p q : List ℕ) (s t : Term) → IsFirstRedex demods c b p s → IsFirstRedex demods c d q t
    → (b ≡ d) × (p ≡ q) × (s ≡ t)
first_redex_one demods c b d p q s t h k = (literal, path, term)
  where
    by : (b < d) ⊎ (b ≡ d) ⊎ (d < b) → b ≡ d
    by (inl less) = absurd (k.first_literal b p s less h.redex)
    by (inr (inl e)) = e
    by (inr (inr less)) = absurd (h.first_literal d q t less k.redex)

    literal : b ≡ d
    literal = by (compared b d)

    or : IsBeforeInPostOrder p q ⊎ (p ≡ q) ⊎ IsBeforeInPostOrder q p → p ≡ q
    or (inl less) = absurd (k.first_path p s less (subst (λ n. IsRedex demods c n p s) literal h.redex))
    or (inr (inl e)) = e
    or (inr (inr less)) = absurd (h.first_path q t less (subst (λ n. IsRedex demods c n q t) (sym literal) k.redex))

    path : p ≡ q
    path = or (post_total p q)

    moved : IsRedex demods c d q s
    moved = subst (λ r. IsRedex demods c d r s) path (subst (λ n. IsRedex demods c n p s) literal h.redex)

    term : s ≡ t
    term =
        let l : moved.literal ≡ k.redex.literal = let e : Some moved.literal ≡ Some (k.redex).literal = sym moved.literal_there ∙ k.redex.literal_there in cc in
        subterm_one k.redex.literal.args q s t (subst (λ (m : Literal). IsSubtermAt m.args q s) l moved.subterm) k.redex.subterm

-- ---- the value of a redex is one

all_within : (P : ℕ → Type 0) (ms ns : List ℕ) → ((v : ℕ) → Contains ms v → Contains ns v) → AllByRecursion P ns → AllByRecursion P ms
all_within P [] ns sub h = tt
all_within P (m ∷ ms) ns sub h = (at_found P ns m h (sub m (0, omega arith, refl)), all_within P ms ns (λ v k. sub v (suc k.0, omega (arith, k.1), k.2)) h)

pub value_one : (c : Clause) (ts us : List Term) (x v w : Term) → IsDemodulator c → IsEquation (instance ts c) x v → IsEquation (instance us c) x w → v ≡ w
value_one c ts us x v w d h k =
    let first = same_sides (term_instance ts d.left) (term_instance ts d.right) x v (sym (ap (map (literal_instance ts)) d.equates) ∙ h) in
    let second = same_sides (term_instance us d.left) (term_instance us d.right) x w (sym (ap (map (literal_instance us)) d.equates) ∙ k) in
    let agree = all_within (λ n. value_of ts n ≡ value_of us n) (term_variables d.right) (term_variables d.left) d.no_other
    ((term_laws d.left).exact (value_of ts) (value_of us) (first.0 ∙ sym second.0)) in
    sym first.1 ∙ (term_laws d.right).agree (value_of ts) (value_of us) agree ∙ second.1

-- ---- the terms of a fit take the demodulator to its instance

below_row : (a : ℕ) (ts : List Term) → AllByRecursion (λ t. AllByRecursion (λ n. n < term_width t) (term_variables t)) ts
    → AllByRecursion (λ n. n < fold max a (map term_width ts)) (joined (map term_variables ts))
below_row a [] h = tt
below_row a (t ∷ ts) h =
    all_join (λ n. n < fold max (max a (term_width t)) (map term_width ts)) (term_variables t) (joined (map term_variables ts))
    (all_so (λ n. n < term_width t) (λ n. n < fold max (max a (term_width t)) (map term_width ts)) (λ n less. omega (arith, at_least (max a (term_width t)) (map term_width ts), less)) (term_variables t) h.0)
    (below_row (max a (term_width t)) ts h.1)

term_below : (t : Term) → AllByRecursion (λ n. n < term_width t) (term_variables t)
term_below t = term_ind (λ t. AllByRecursion (λ n. n < term_width t) (term_variables t))
    (λ n. subst (AllByRecursion (λ k. k < term_width (Var n))) (sym (variables-Var n)) (omega (arith, width-Var n), tt))
    (λ f xs h. subst (λ w. AllByRecursion (λ n. n < w) (term_variables (App f xs))) (sym (width-App f xs))
    (subst (AllByRecursion (λ n. n < largest (map term_width xs))) (sym (variables-App f xs)) (below_row 0 xs h)))
    t

narrow_row : (n a : ℕ) (ts : List Term) → AllByRecursion (λ t. AllByRecursion (λ v. v < n) (term_variables t) → term_width t ≤ n) ts
    → AllByRecursion (λ v. v < n) (joined (map term_variables ts)) → a ≤ n → fold max a (map term_width ts) ≤ n
narrow_row n a [] h all le = le
narrow_row n a (t ∷ ts) h all le =
    let both = all_split (λ v. v < n) (term_variables t) (joined (map term_variables ts)) all in
    narrow_row n (max a (term_width t)) ts h.1 both.1 (omega (arith, h.0 both.0, le))

narrow : (n : ℕ) (t : Term) → AllByRecursion (λ v. v < n) (term_variables t) → term_width t ≤ n
narrow n t = term_ind (λ t. AllByRecursion (λ v. v < n) (term_variables t) → term_width t ≤ n)
    (λ v all. omega (arith, width-Var v, (subst (AllByRecursion (λ v. v < n)) (variables-Var v) all).0))
    (λ f xs h all. subst (λ w. w ≤ n) (sym (width-App f xs)) (narrow_row n 0 xs h (subst (AllByRecursion (λ v. v < n)) (variables-App f xs) all) (omega arith)))
    t

pub demodulator_width : (c : Clause) (left right : Term) → IsEquation c left right → ((v : ℕ) → Contains (term_variables right) v → Contains (term_variables left) v) → width c ≡ term_width left
demodulator_width c left right e sub =
    let le = narrow (term_width left) right (all_within (λ v. v < term_width left) (term_variables right) (term_variables left) sub (term_below left)) in
    ap (λ (ls : List Literal). largest (map literal_width ls)) e ∙ omega (arith, le)

pub fit_width : (d : Numbered) (s : Term) (terms : List Term) (h : FitsBy d s terms) → IsDemodulator d.clause → width d.clause ≡ term_width h.left
fit_width d s terms h is =
    let both = same_sides is.left is.right h.left h.right (sym is.equates ∙ h.equates) in
    demodulator_width d.clause h.left h.right h.equates
    (subst (λ t. (v : ℕ) → Contains (term_variables h.right) v → Contains (term_variables t) v) both.0 (subst (λ t. (v : ℕ) → Contains (term_variables t) v → Contains (term_variables is.left) v) both.1 is.no_other))

pub terms_of_fit : (d : Numbered) (s : Term) (terms : List Term) → FitsBy d s terms → IsDemodulator d.clause → AreTermsTo d.clause (instance terms d.clause) terms
terms_of_fit d s terms h is = record {
  many = h.long ∙ sym wide;
  gives = refl;
  rest = λ n less out. h.absent n (subst (λ k. n < k) wide less) (absent_any n (term_variables h.left) (λ there. out (subst (λ ns. Contains ns n) (sym occurring)
      (in_first n (joined (map term_variables (h.left ∷ h.right ∷ []))) [] (in_first n (term_variables h.left) (joined (map term_variables (h.right ∷ []))) there)))));
}
  where
    wide : width d.clause ≡ term_width h.left
    wide = fit_width d s terms h is

    occurring : variables d.clause ≡ joined (map term_variables (h.left ∷ h.right ∷ [])) ++ []
    occurring = ap (λ (ls : List Literal). joined (map (λ (l : Literal). joined (map term_variables l.args)) ls)) h.equates

-- the instance is an equation of the redex and a value
pub value_of_fit : (d : Numbered) (s : Term) (terms : List Term) (h : FitsBy d s terms) → IsEquation (instance terms d.clause) s (term_instance terms h.right)
value_of_fit d s terms h = ap (map (literal_instance terms)) h.equates ∙ ap (λ (t : Term). equation true t (term_instance terms h.right) ∷ []) (sym h.equal)

-- ---- the para line

pub para_follows : (mid : List Line) (n k b : ℕ) (path : List ℕ) (clause part after : Clause) (redex value : Term) → clause_of mid k ≡ Some part → clause_of mid n ≡ Some clause
    → IsEquation part redex value → IsPutIn clause b path redex value after → Follows [] mid after (Para k 1 Left n b path)
para_follows mid n k b path clause part after redex value from into is put =
    some_so (clause_of mid k) (λ from. IsSomeAnd (clause_of mid n) (λ into. IsParamodulant from 1 Left into b path after)) part from
    (some_so (clause_of mid n) (λ into. IsParamodulant part 1 Left into b path after) clause into (
      redex,
      value,
      ap (λ (ls : List Literal). numbered ls 1) is,
      some_so (numbered clause.literals b) (λ m. (args : List Term) × IsReplaced m.args path (chosen Left redex value) (other Left redex value) args
          × (after.literals ≡ with_element clause.literals b (record m { args = args }) ++ without part.literals 1)) put.literal put.literal_there
          (put.args, put.replaced, put.put ∙ sym (append-nil (with_element clause.literals b (record put.literal { args = put.args }))) ∙ ap (λ (ls : List Literal). with_element clause.literals b (record put.literal { args = put.args }) ++ without ls 1) (sym is)),
    ))
