-- Worked: a = f(a) is flipped; p(a) | q is cut to q by the unit -p(x0); what becomes a demodulator.
use Rattle.std.proofs.Common.{◌≡◌, ◌∙◌, ap, refl, sym, subst, ℕ, zero, suc, ◌<◌, ◌≤◌, inl, List, [], ◌∷◌, arith, Bool, true, false, Some, get_or}
use Rattle.std.specs.Prelude.{count_by, nat_eq}
use Rattle.std.specs.List.{Contains}
use Rattle.sc_term.specs.declared.Term.{Term, Var}
use Rattle.sc_term.specs.declared.Term.TheVariants.{App}
use Rattle.sc_term.specs.declared.Literal.{Literal}
use Rattle.sc_term.specs.declared.Clause.{Clause}
use Rattle.sc_term.specs.declared.Line.{Line}
use Rattle.sc_term.specs.declared.Numbered.{Numbered}
use Rattle.sc_term.specs.declared.Step.TheVariants.{Input, Instance, Resolve, Flip}
use Rattle.sc_term.specs.Numbering.{numbered}
use Rattle.sc_term.specs.Term.{term_weight, weight_step, term_variables}
use Rattle.sc_term.specs.Clause.{instance, width}
use Rattle.sc_term.specs.Refuted.{equation, Atom}
use Rattle.sc_term.proofs.TermLaws.{fold-Var, weight-App, width-Var, instance-Var}
use Rattle.sc_term.proofs.TermSteps.{variables-Var, variables-App}
use Rattle.sc_core_rules.specs.Order.{IsBefore, Exhausts, ends, goes}
use Rattle.sc_core_rules.specs.Derivation.{AddsPart}
use Rattle.sc_core_rules.specs.Rewriting.{number_of, IsEquation, BecomesDemodulator}
use Rattle.sc_core_rules.specs.Simplification.{IsUphill, Orients, Removes, IsRemovable, DeletesOnce}
use Rattle.sc_core_rules.proofs.Enumerations.{in_one, numbered_one}
use Rattle.sc_core_rules.proofs.DerivationCases.{adds_input, adds_instance, terms_of_one}
use Rattle.sc_core_rules.proofs.OrderLaws.{not_before_itself}

weight-Var : (n : ℕ) → term_weight (Var n) ≡ 1
weight-Var n = fold-Var ℕ weight_step n

abbrev pub a : Term
a = App (record { 0 = 4 }) []

abbrev b : Term
b = App (record { 0 = 5 }) []

abbrev pub f : List Term → Term
f ts = App (record { 0 = 3 }) ts

abbrev unit_of : Literal → Clause
unit_of l = record { literals = l ∷ [] }

-- ---- flip

abbrev uphill : Clause
uphill = unit_of (equation true a (f (a ∷ [])))

abbrev pub downhill : Clause
downhill = unit_of (equation true (f (a ∷ [])) a)

abbrev first_line : Line
first_line = record { step = Input 1; clause = uphill }

is_uphill : IsUphill uphill
is_uphill = (a, f (a ∷ []), refl, simp weight-App (omega arith))

-- one `flip` line is added
pub flipped : Orients (first_line ∷ []) (first_line ∷ record { step = Flip 1 1; clause = downhill } ∷ [])
flipped = inl (is_uphill, (downhill, (a, f (a ∷ []), refl, refl, refl), refl))

-- ---- unit deletion

abbrev p : Bool → Term → Literal
p positive t = record { positive = positive; pred = record { 0 = 1 }; args = t ∷ [] }

abbrev q : Literal
q = record { positive = true; pred = record { 0 = 2 }; args = [] }

abbrev p_or_q : Clause
p_or_q = record { literals = p true a ∷ q ∷ [] }

abbrev cutter : Numbered
cutter = record { number = 1; clause = unit_of (p false (Var 0)) }

abbrev lines_before : List Line
lines_before = record { step = Input 7; clause = p_or_q } ∷ []

abbrev lines_input : List Line
lines_input = record { step = Input 7; clause = p_or_q } ∷ record { step = Input 1; clause = cutter.clause } ∷ []

abbrev lines_instance : List Line
lines_instance =
    record { step = Input 7; clause = p_or_q }
    ∷ record { step = Input 1; clause = cutter.clause }
    ∷ record { step = Instance 2 (a ∷ []); clause = unit_of (p false a) } ∷ []

abbrev lines_after : List Line
lines_after =
    record { step = Input 7; clause = p_or_q }
    ∷ record { step = Input 1; clause = cutter.clause }
    ∷ record { step = Instance 2 (a ∷ []); clause = unit_of (p false a) }
    ∷ record { step = Resolve 1 1 3 1; clause = unit_of q } ∷ []

removes : Removes (p true a) cutter
removes = (p false (Var 0), a ∷ [], refl, refl, sym (simp instance-Var))

wide : width cutter.clause ≡ 1
wide = simp width-Var

gives : instance (a ∷ []) cutter.clause ≡ unit_of (p false a)
gives = simp instance-Var

other_part : ¬ (unit_of (p false a) ≡ cutter.clause)
other_part h = let same : a ≡ Var 0 = ap (λ (c : Clause). get_or (get_or c.literals 0 q).args 0 (Var 0)) h in cc

shows : AddsPart lines_before cutter (unit_of (p false a)) lines_instance 3
shows = adds_instance lines_before cutter (unit_of (p false a)) lines_input 2 (a ∷ []) lines_instance (adds_input lines_before cutter refl) other_part
    (terms_of_one cutter.clause (unit_of (p false a)) a [] wide (simp variables-Var) gives) (unit_of (p false a), (sym wide, sym gives), refl)

-- the first literal is removed, with its three lines
pub deleted : DeletesOnce (cutter ∷ []) lines_before lines_after
deleted = record {
  clause = p_or_q;
  clause_last = refl;
  a = 1;
  literal = p true a;
  literal_there = refl;
  first = none_before;
  removing = cutter;
  least = record { listed = (0, omega arith, refl); holds = removes; least = alone };
  mid = lines_instance;
  k = 3;
  shows = shows;
  resolves = (unit_of q, ((refl, refl), refl), refl);
}
  where
    none_before : (n : ℕ) → n < 1 → ¬ IsRemovable (cutter ∷ []) p_or_q n
    none_before zero less h = h
    none_before (suc n) less h = omega (arith, less)

    alone : (d : Numbered) → Contains (cutter ∷ []) d → Removes (p true a) d → ¬ IsBefore (number_of d) (number_of cutter)
    alone d listed h less = not_before_itself (number_of d) (subst (λ w. IsBefore (number_of d) (number_of w)) (in_one cutter d listed) less)

-- q stays
stays : (u : Numbered) → Contains (cutter ∷ []) u → ¬ Removes q u
stays u listed h =
    let m : p false (Var 0) ≡ h.0 = ap (λ (ls : List Literal). get_or ls 0 q) (ap (λ (w : Numbered). w.clause.literals) (in_one cutter u listed) ∙ h.2) in
    let bad : ◌≡◌ {A = ℕ} 2 1 = ap (λ (x : Atom). x.pred.0) h.4 ∙ ap (λ (l : Literal). l.pred.0) (sym m) in
    omega (arith, bad)

no_more : (lines : List Line) → ¬ DeletesOnce (cutter ∷ []) lines_after lines
no_more lines h = stays h.removing h.least.listed (subst (λ (l : Literal). Removes l h.removing) (sym only) h.least.holds)
  where
    clause : unit_of q ≡ h.clause
    clause = let e : Some (unit_of q) ≡ Some h.clause = h.clause_last in cc

    only : q ≡ h.literal
    only = (numbered_one q h.a h.literal (subst (λ (c : Clause). numbered c.literals h.a ≡ Some h.literal) (sym clause) h.literal_there)).1

-- and nothing else is
pub cut : Exhausts (DeletesOnce (cutter ∷ [])) lines_before lines_after
cut = goes deleted (ends no_more)

-- ---- what becomes a demodulator

-- f(a) = a does
pub becomes : BecomesDemodulator downhill
becomes = record {
  left = f (a ∷ []);
  right = a;
  equates = refl;
  compound = (record { 0 = 3 }, a ∷ [], refl);
  lighter = simp weight-App (omega arith);
  fewer = λ v. simp variables-App (omega arith);
}

pub sides_of : (l r s t : Term) → IsEquation (unit_of (equation true l r)) s t → (l ≡ s) × (r ≡ t)
sides_of l r s t h = (ap (λ (ls : List Literal). get_or (get_or ls 0 q).args 0 (Var 0)) h, ap (λ (ls : List Literal). get_or (get_or ls 0 q).args 1 (Var 0)) h)

-- f(a,b) = f(b,a) doesn't, since both sides weigh the same
pub of_equal_weight : ¬ BecomesDemodulator (unit_of (equation true (f (a ∷ b ∷ [])) (f (b ∷ a ∷ []))))
of_equal_weight h = omega (arith, lighter, left, right)
  where
    both : (f (a ∷ b ∷ []) ≡ h.left) × (f (b ∷ a ∷ []) ≡ h.right)
    both = sides_of (f (a ∷ b ∷ [])) (f (b ∷ a ∷ [])) h.left h.right h.equates

    left : term_weight (f (a ∷ b ∷ [])) ≡ 3
    left = simp weight-App

    right : term_weight (f (b ∷ a ∷ [])) ≡ 3
    right = simp weight-App

    lighter : term_weight (f (b ∷ a ∷ [])) < term_weight (f (a ∷ b ∷ []))
    lighter = subst (λ (t : Term). term_weight t < term_weight (f (a ∷ b ∷ []))) (sym both.1) (subst (λ (t : Term). term_weight h.right < term_weight t) (sym both.0) h.lighter)

abbrev g : Term → Term → Term
g s t = App (record { 0 = 6 }) (s ∷ t ∷ [])

abbrev deep : Term
deep = f (f (f (f (Var 0 ∷ []) ∷ []) ∷ []) ∷ [])

-- f(f(f(f(x0)))) = g(x0,x0) doesn't, since x0 occurs more often on the right
pub of_more_variables : ¬ BecomesDemodulator (unit_of (equation true deep (g (Var 0) (Var 0))))
of_more_variables h = omega (arith, fewer, left, right)
  where
    both : (deep ≡ h.left) × (g (Var 0) (Var 0) ≡ h.right)
    both = sides_of deep (g (Var 0) (Var 0)) h.left h.right h.equates

    left : count_by (nat_eq 0) (term_variables deep) ≡ 1
    left = simp (variables-App, variables-Var)

    right : count_by (nat_eq 0) (term_variables (g (Var 0) (Var 0))) ≡ 2
    right = simp (variables-App, variables-Var)

    fewer : count_by (nat_eq 0) (term_variables (g (Var 0) (Var 0))) ≤ count_by (nat_eq 0) (term_variables deep)
    fewer = subst (λ (t : Term). count_by (nat_eq 0) (term_variables t) ≤ count_by (nat_eq 0) (term_variables deep)) (sym both.1)
        (subst (λ (t : Term). count_by (nat_eq 0) (term_variables h.right) ≤ count_by (nat_eq 0) (term_variables t)) (sym both.0) (h.fewer 0))
