-- Worked: p(f(e,a)) is rewritten by f(e,x0) = x0 to p(a).
use Rattle.std.proofs.Common.{◌≡◌, ◌∙◌, ap, refl, sym, subst, ℕ, zero, suc, ◌<◌, ◌⊎◌, inl, inr, List, [], ◌∷◌, arith, true, Some, None, Option, get_or, map}
use Rattle.std.specs.List.{Contains}
use Rattle.sc_term.specs.declared.SymId.{SymId}
use Rattle.sc_term.specs.declared.Side.TheVariants.{Left}
use Rattle.sc_term.specs.declared.Term.{Term, Var}
use Rattle.sc_term.specs.declared.Term.TheVariants.{App}
use Rattle.sc_term.specs.declared.Literal.{Literal}
use Rattle.sc_term.specs.declared.Clause.{Clause}
use Rattle.sc_term.specs.declared.Line.{Line}
use Rattle.sc_term.specs.declared.Step.TheVariants.{Input, Instance, Para}
use Rattle.sc_term.specs.Term.{term_instance, term_weight, weight_step, term_depth, depth_step}
use Rattle.sc_term.specs.Clause.{instance, width, IsWithinLimits}
use Rattle.sc_term.specs.Refuted.{equation}
use Rattle.sc_term.specs.Path.{IsSubtermAt}
use Rattle.sc_term.specs.Numbering.{numbered}
use Rattle.sc_term.proofs.TermLaws.{width-Var, width-App, instance-Var, instance-App, weight-App, depth-App, fold-Var, App-injective}
use Rattle.sc_term.specs.declared.Numbered.{Numbered}
use Rattle.sc_core_rules.specs.Derivation.{Adds, AddsPart, AreTermsTo}
use Rattle.sc_core_rules.specs.Rewriting.{number_of, IsEquation, Fits, IsRedex, IsBeforeInPostOrder, IsFirstRedex, RewritesOnce}
use Rattle.sc_core_rules.specs.Order.{IsBefore}
use Rattle.sc_term.proofs.TermSteps.{variables-Var, variables-App}
use Rattle.sc_core_rules.proofs.Enumerations.{numbered_none, numbered_two}
use Rattle.sc_core_rules.proofs.DerivationCases.{adds_input, adds_instance, terms_of_one}
use Rattle.sc_core_rules.proofs.OrderLaws.{not_before_itself}

abbrev symbol : ℕ → SymId
symbol n = record { 0 = n }

abbrev e : Term
e = App (record { 0 = 2 }) []

abbrev a : Term
a = App (record { 0 = 3 }) []

abbrev f : Term → Term → Term
f s t = App (record { 0 = 4 }) (s ∷ t ∷ [])

abbrev p : Term → Clause
p t = record { literals = record { positive = true; pred = record { 0 = 1 }; args = t ∷ [] } ∷ [] }

abbrev rule : Clause
rule = record { literals = equation true (f e (Var 0)) (Var 0) ∷ [] }

abbrev demodulator : Numbered
demodulator = record { number = 1; clause = rule }

-- ---- what fits

fits : Fits demodulator (f e a)
fits = (f e (Var 0), Var 0, a ∷ [], refl, sym (simp (instance-App, instance-Var)))

-- only a term of f is an instance of the left side
only_f : (g : SymId) (args terms : List Term) (left right : Term) → IsEquation rule left right → App g args ≡ term_instance terms left → g ≡ symbol 4
only_f g args terms left right sides same =
    let known : f e (Var 0) ≡ left = ap (λ (ls : List Literal). get_or (get_or ls 0 (equation true (Var 0) (Var 0))).args 0 (Var 0)) sides in
    (App-injective g (symbol 4) args (map (term_instance terms) (e ∷ Var 0 ∷ [])) (same ∙ ap (term_instance terms) (sym known) ∙ instance-App terms (symbol 4) (e ∷ Var 0 ∷ []))).0

-- so neither e nor a fits
none_fits : (d : Numbered) (n : ℕ) → n < 4 → Contains (demodulator ∷ []) d → ¬ Fits d (App (symbol n) [])
none_fits d n less (zero, within, same) h =
    let fit : Fits demodulator (App (symbol n) []) = subst (λ d. Fits d (App (symbol n) [])) (sym same) h in
    let other : symbol n ≡ symbol 4 = only_f (symbol n) [] fit.2 fit.0 fit.1 fit.3 fit.4 in
    let number : n ≡ 4 = ap (λ (s : SymId). s.0) other in
    omega (arith, number)
none_fits d n less (suc k, within, same) h = absurd (omega arith)

-- ---- the subterms of e and a

nothing_under : (path : List ℕ) (t : Term) → ¬ IsSubtermAt [] path t
nothing_under [] t h = h
nothing_under (i ∷ []) t h = numbered_none i t h
nothing_under (i ∷ j ∷ path) t h = numbered_none i (App h.0 h.1) h.2

of_two : (n : ℕ) (t : Term) → numbered (e ∷ a ∷ []) n ≡ Some t → (t ≡ e) ⊎ (t ≡ a)
of_two n t h = by (numbered_two e a n t h)
  where
    by : ((n ≡ 1) × (e ≡ t)) ⊎ ((n ≡ 2) × (a ≡ t)) → (t ≡ e) ⊎ (t ≡ a)
    by (inl k) = inl (sym k.1)
    by (inr k) = inr (sym k.1)

bare : (n : ℕ) (g : SymId) (inner : List Term) (path : List ℕ) (t : Term) → App g inner ≡ App (symbol n) [] → ¬ IsSubtermAt inner path t
bare n g inner path t same h = nothing_under path t (subst (λ ts. IsSubtermAt ts path t) (App-injective g (symbol n) inner [] same).1 h)

under_two : (path : List ℕ) (t : Term) → IsSubtermAt (e ∷ a ∷ []) path t → (t ≡ e) ⊎ (t ≡ a)
under_two [] t h = absurd h
under_two (i ∷ []) t h = of_two i t h
under_two (i ∷ j ∷ path) t h = absurd (by (of_two i (App h.0 h.1) h.2))
  where
    by : (App h.0 h.1 ≡ e) ⊎ (App h.0 h.1 ≡ a) → ⊥
    by (inl same) = bare 2 h.0 h.1 (j ∷ path) t same h.3
    by (inr same) = bare 3 h.0 h.1 (j ∷ path) t same h.3

-- ---- the first redex

no_earlier : (path : List ℕ) (t : Term) → IsBeforeInPostOrder path (1 ∷ []) → IsSubtermAt (f e a ∷ []) path t → (t ≡ e) ⊎ (t ≡ a)
no_earlier [] t less h = absurd less
no_earlier (i ∷ []) t (inl less) h = let z : i ≡ 0 = omega arith in absurd (let none : ◌≡◌ {A = Option Term} None (Some t) = subst (λ i. numbered (f e a ∷ []) i ≡ Some t) z h in cc)
no_earlier (i ∷ j ∷ path) t (inl less) h = let z : i ≡ 0 = omega arith in absurd (let none : ◌≡◌ {A = Option Term} None (Some (App h.0 h.1)) = subst (λ i. numbered (f e a ∷ []) i ≡ Some (App h.0 h.1)) z h.2 in cc)
no_earlier (i ∷ []) t (inr less) h = absurd less.1
no_earlier (i ∷ j ∷ path) t (inr less) h =
    let there : ◌≡◌ {A = Option Term} (Some (f e a)) (Some (App h.0 h.1)) = subst (λ i. numbered (f e a ∷ []) i ≡ Some (App h.0 h.1)) less.0 h.2 in
    let same : App (symbol 4) (e ∷ a ∷ []) ≡ App h.0 h.1 = cc in
    under_two (j ∷ path) t (subst (λ ts. IsSubtermAt ts (j ∷ path) t) (sym (App-injective (symbol 4) h.0 (e ∷ a ∷ []) h.1 same).1) h.3)

arguments_so : (l : Literal) → numbered (p (f e a)).literals 1 ≡ Some l → f e a ∷ [] ≡ l.args
arguments_so l h = let same : record { positive = true; pred = record { 0 = 1 }; args = f e a ∷ [] } ≡ l = cc in ap (λ (l : Literal). l.args) same

redex : IsRedex (demodulator ∷ []) (p (f e a)) 1 (1 ∷ []) (f e a)
redex = record {
  literal = record { positive = true; pred = record { 0 = 1 }; args = f e a ∷ [] };
  literal_there = refl;
  subterm = refl;
  compound = (symbol 4, e ∷ a ∷ [], refl);
  demodulator = demodulator;
  listed = (0, omega arith, refl);
  fits = fits;
}

first : IsFirstRedex (demodulator ∷ []) (p (f e a)) 1 (1 ∷ []) (f e a)
first = record { redex = redex; first_literal = literal; first_path = path }
  where
    literal : (b : ℕ) (q : List ℕ) (t : Term) → b < 1 → ¬ IsRedex (demodulator ∷ []) (p (f e a)) b q t
    literal zero q t less h = let none : ◌≡◌ {A = Option Literal} None (Some h.literal) = h.literal_there in cc
    literal (suc b) q t less h = omega arith

    no_fit : (d : Numbered) (t : Term) → Contains (demodulator ∷ []) d → Fits d t → (t ≡ e) ⊎ (t ≡ a) → ⊥
    no_fit d t listed h (inl same) = none_fits d 2 (omega arith) listed (subst (Fits d) same h)
    no_fit d t listed h (inr same) = none_fits d 3 (omega arith) listed (subst (Fits d) same h)

    path : (q : List ℕ) (t : Term) → IsBeforeInPostOrder q (1 ∷ []) → ¬ IsRedex (demodulator ∷ []) (p (f e a)) 1 q t
    path q t less h = no_fit h.demodulator t h.listed h.fits
        (no_earlier q t less (subst (λ ts. IsSubtermAt ts q t) (sym (arguments_so h.literal h.literal_there)) h.subterm))

-- ---- the lines

abbrev lines_before : List Line
lines_before = record { step = Input 7; clause = p (f e a) } ∷ []

abbrev lines_input : List Line
lines_input = record { step = Input 7; clause = p (f e a) } ∷ record { step = Input 1; clause = rule } ∷ []

abbrev rule_instance : Clause
rule_instance = record { literals = equation true (f e a) a ∷ [] }

abbrev lines_instance : List Line
lines_instance =
    record { step = Input 7; clause = p (f e a) }
    ∷ record { step = Input 1; clause = rule }
    ∷ record { step = Instance 2 (a ∷ []); clause = rule_instance } ∷ []

abbrev lines_after : List Line
lines_after =
    record { step = Input 7; clause = p (f e a) }
    ∷ record { step = Input 1; clause = rule }
    ∷ record { step = Instance 2 (a ∷ []); clause = rule_instance }
    ∷ record { step = Para 3 1 Left 1 1 (1 ∷ []); clause = p a } ∷ []

instance_so : instance (a ∷ []) rule ≡ rule_instance
instance_so = simp (instance-App, instance-Var)

wide : width rule ≡ 1
wide = simp (width-App, width-Var)

terms_so : AreTermsTo rule rule_instance (a ∷ [])
terms_so = terms_of_one rule rule_instance a (0 ∷ []) wide (simp (variables-App, variables-Var)) instance_so

other_part : ¬ (rule_instance ≡ rule)
other_part h =
    let same : a ≡ Var 0 = ap (λ (c : Clause). get_or (get_or c.literals 0 (equation true (Var 0) (Var 0))).args 1 (Var 0)) h in cc

shows : AddsPart lines_before demodulator rule_instance lines_instance 3
shows = adds_instance lines_before demodulator rule_instance lines_input 2 (a ∷ []) lines_instance (adds_input lines_before demodulator refl) other_part terms_so (rule_instance, (sym wide, sym instance_so), refl)

replaces : Adds lines_instance (Para 3 1 Left 1 1 (1 ∷ [])) lines_after
replaces = (p a, (f e a, a, refl, (a ∷ [], (refl, refl), refl)), refl)

weight-Var : (n : ℕ) → term_weight (Var n) ≡ 1
weight-Var n = fold-Var ℕ weight_step n

depth-Var : (n : ℕ) → term_depth (Var n) ≡ 1
depth-Var n = fold-Var ℕ depth_step n

-- one rewrite, with its three lines
pub rewritten : RewritesOnce (demodulator ∷ []) lines_before lines_after
rewritten = record {
  clause = p (f e a);
  clause_last = refl;
  b = 1;
  path = 1 ∷ [];
  redex = f e a;
  first = first;
  demodulator = demodulator;
  least = record { listed = (0, omega arith, refl); holds = fits; least = alone };
  terms = a ∷ [];
  value = a;
  is_value = ap (λ (c : Clause). c.literals) instance_so;
  mid = lines_instance;
  k = 3;
  shows = subst (λ c. AddsPart lines_before demodulator c lines_instance 3) (sym instance_so) shows;
  replaces = replaces;
  result = p a;
  result_last = refl;
  instance_within = subst IsWithinLimits (sym instance_so) (record { light = simp weight-App (omega arith); shallow = simp depth-App (omega arith) });
  result_within = record { light = simp weight-App (omega arith); shallow = simp depth-App (omega arith) };
}
  where
    alone : (d : Numbered) → Contains (demodulator ∷ []) d → Fits d (f e a) → ¬ IsBefore (number_of d) (number_of demodulator)
    alone d (zero, within, same) h less = not_before_itself (number_of d) (subst (λ q. IsBefore (number_of d) (number_of q)) same less)
    alone d (suc k, within, same) h less = omega arith
