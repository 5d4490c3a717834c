-- Worked: f(a) = a is kept and becomes a demodulator, and p(f(a)), which has a redex by it, is deleted and goes back to
-- the work list.
use Rattle.std.proofs.Common.{◌≡◌, ◌≢◌, ◌∙◌, ap, sym, subst, refl, ℕ, ◌-◌, ◌<◌, ◌⊎◌, inl, inr, List, [], ◌∷◌, take, arith, not, true, false, Some, get_or}
use Rattle.std.specs.List.{Contains}
use Rattle.sc_term.specs.declared.Term.{Term, Var}
use Rattle.sc_term.specs.declared.Literal.{Literal}
use Rattle.sc_term.specs.declared.Clause.{Clause}
use Rattle.sc_term.specs.declared.Line.{Line}
use Rattle.sc_term.specs.declared.Numbered.{Numbered}
use Rattle.sc_term.specs.declared.Step.TheVariants.{Input}
use Rattle.sc_term.specs.Clause.{weight}
use Rattle.sc_term.specs.Term.{term_weight}
use Rattle.sc_term.specs.Refuted.{equation}
use Rattle.sc_term.proofs.TermLaws.{weight-App, instance-App, App-injective}
use Rattle.sc_term.proofs.TermSteps.{variables-App}
use Rattle.sc_input_rules.specs.Problem.{Stated}
use Rattle.sc_input_rules.specs.declared.settings.Flags.{Flags}
use Rattle.sc_input_rules.specs.declared.settings.Home.TheVariants.{Usable, Passive}
use Rattle.sc_term.specs.Subsumption.{IsTautology}
use Rattle.sc_core_rules.specs.declared.fate.Fate.TheVariants.{Kept}
use Rattle.sc_core_rules.specs.declared.fate.Processed.{Processed}
use Rattle.sc_core_rules.specs.Order.{IsBefore, AreInOrder, ends}
use Rattle.sc_core_rules.specs.Rewriting.{number_of, Fits, HasRedex, RewritesOnce}
use Rattle.sc_core_rules.specs.Simplification.{IsUphill, Simplifies, MergesOnce, IsRepeated}
use Rattle.sc_core_rules.specs.Book.{Book}
use Rattle.sc_core_rules.specs.Processing.{Processes, Sweeps, IsRival, with_kept, with_demodulator}
use Rattle.sc_core_rules.proofs.Enumerations.{in_one, in_two, some_of_one, all_of_one, pairs_of_one}
use Rattle.sc_core_rules.proofs.SiteLaws.{AreOpposed}
use Rattle.sc_core_rules.proofs.OpposedLaws.{conflict_opposed, units_opposed}
use Rattle.sc_core_rules.proofs.RunExample.{params}
use Rattle.sc_core_rules.proofs.SimplifyExample.{a, f, downhill, becomes, sides_of}

abbrev flags : Flags
flags = record {
  binary_res = false;
  factor = false;
  hyper_res = false;
  ur_res = false;
  para_from = false;
  para_into = false;
  unit_deletion = false;
  dynamic_demod = true;
  back_demod = true;
  for_sub = false;
  back_sub = false;
}

abbrev p : Term → Literal
p t = record { positive = true; pred = record { 0 = 1 }; args = t ∷ [] }

abbrev one : Numbered
one = record { number = 1; clause = record { literals = p (f (a ∷ [])) ∷ [] } }

abbrev three : Numbered
three = record { number = 3; clause = downhill }

abbrev problem : Stated
problem = record { symbols = []; inputs = one.clause ∷ downhill ∷ []; homes = Usable ∷ Passive ∷ []; flags = flags; params = params }

abbrev old : Book
old = record { derived = []; usable = one ∷ []; sos = []; passive = []; demods = []; kept = [] }

abbrev made_lines : List Line
made_lines = record { step = Input 2; clause = downhill } ∷ []

abbrev kept : Book
kept = with_kept problem old downhill made_lines 1

-- ---- it isn't simplified

not_uphill : ¬ IsUphill downhill
not_uphill h = omega (arith, less, left, right)
  where
    both : (f (a ∷ []) ≡ h.0) × (a ≡ h.1)
    both = sides_of (f (a ∷ [])) a h.0 h.1 h.2

    left : term_weight (f (a ∷ [])) ≡ 2
    left = simp weight-App

    right : term_weight a ≡ 1
    right = simp weight-App

    less : term_weight (f (a ∷ [])) < term_weight a
    less = subst (λ (t : Term). term_weight t < term_weight a) (sym both.0) (subst (λ (t : Term). term_weight h.0 < term_weight t) (sym both.1) h.3)

no_rewrite : (lines : List Line) → ¬ RewritesOnce [] made_lines lines
no_rewrite lines h = omega (arith, h.least.listed.1)

no_merge : (lines : List Line) → ¬ MergesOnce made_lines lines
no_merge lines h = none_repeated h.a (subst (λ (c : Clause). IsRepeated c h.a) (sym same) h.repeated)
  where
    same : downhill ≡ h.clause
    same = let e : Some downhill ≡ Some h.clause = h.clause_last in cc

    none_repeated : (n : ℕ) → ¬ IsRepeated downhill n
    none_repeated n e =
        let first = some_of_one (λ l. Contains (take (n - 1) (downhill.literals)) l) (equation true (f (a ∷ [])) a) n e in
        let none : n - 1 ≡ 0 = omega (arith, first.0) in
        let k = subst (λ (m : ℕ). Contains (take m (downhill.literals)) (equation true (f (a ∷ [])) a)) none first.1 in
        omega (arith, k.1)

simplifies : Simplifies flags 1000 [] (one ∷ []) made_lines made_lines
simplifies = record { rewritten = made_lines; oriented = made_lines; cut = made_lines; merged = made_lines; rewrites = ends no_rewrite; orients = inr (not_uphill, refl); cuts = refl; merges = ends no_merge; canonical_last = inl (simp variables-App, refl) }

-- ---- it is kept

different : ¬ (f (a ∷ []) ≡ a)
different e =
    let args : a ∷ [] ≡ [] = (App-injective (record { 0 = 3 }) (record { 0 = 4 }) (a ∷ []) [] e).1 in cc

no_tautology : ¬ IsTautology downhill
no_tautology (inl h) =
    let l = in_one (equation true (f (a ∷ [])) a) h.0 h.2 in
    let m = in_one (equation true (f (a ∷ [])) a) h.1 h.3 in
    let bad : true ≡ false = ap (λ (x : Literal). x.positive) l ∙ h.4.0 ∙ ap (λ (x : Literal). not x.positive) (sym m) in
    cc
no_tautology (inr h) =
    let e = in_one (equation true (f (a ∷ [])) a) (equation true h.0 h.0) h.1 in
    different (ap (λ (x : Literal). get_or x.args 0 (Var 0)) e ∙ sym (ap (λ (x : Literal). get_or x.args 1 (Var 0)) e))

no_rival : (m : Numbered) → Contains (one ∷ three ∷ []) m → ¬ IsRival three m
no_rival m h rival = by (in_two one three m h)
  where
    by : (one ≡ m) ⊎ (three ≡ m) → ⊥
    by (inl e) =
        let signs = (units_opposed 3 1 (equation true (f (a ∷ [])) a) (p (f (a ∷ []))) 1 1 (subst (λ (x : Numbered). AreOpposed three x 1 1) (sym e) (conflict_opposed three m rival.1.0 rival.1.1))).0 in
        let bad : true ≡ false = signs in cc
    by (inr e) = rival.0 (ap (λ (x : Numbered). x.number) (sym e))

weight_so : weight downhill ≡ 4
weight_so = simp weight-App

-- ---- what it deletes

fits : Fits three (f (a ∷ []))
fits = (f (a ∷ []), a, [], refl, sym (simp instance-App))

has_redex : HasRedex one.clause three
has_redex = (1, 1 ∷ [], f (a ∷ []), record { literal = p (f (a ∷ [])); literal_there = refl; subterm = refl; compound = (record { 0 = 3 }, a ∷ [], refl); demodulator = three; listed = (0, omega arith, refl); fits = fits })

abbrev Goes : Numbered → Type 0
Goes x = Contains (one ∷ three ∷ []) x × (x.number ≢ 3) × HasRedex x.clause three

others : AreInOrder number_of Goes (one ∷ [])
others = record { rising = pairs_of_one (λ x y. IsBefore (number_of x) (number_of y)) one; only = all_of_one Goes one ((0, omega arith, refl), (λ e. omega (arith, e)), has_redex); all = λ x h. by x h.1 (in_two one three x h.0) }
  where
    by : (x : Numbered) → x.number ≢ 3 → (one ≡ x) ⊎ (three ≡ x) → Contains (one ∷ []) x
    by x other (inl e) = (0, omega arith, e)
    by x other (inr e) = absurd (other (ap (λ (q : Numbered). q.number) (sym e)))

abbrev new : Book
new = record (with_demodulator kept three) { usable = [] }

abbrev out : Processed
out = record { fate = Kept 3; gone = 1 ∷ []; again = 1 ∷ [] }

sweeps : Sweeps problem kept three new out
sweeps = record { subsumed = []; are_subsumed = refl; rewritten = one ∷ []; becomes = inl ((refl, becomes), (others, refl)); told = refl }

pub processed : Processes problem old made_lines 1 new out
processed = record {
  simplified = made_lines;
  simplifies = simplifies;
  clause = downhill;
  clause_last = refl;
  fated = inr (λ e. cc, inr (no_tautology, inr (λ h. omega (arith, h, weight_so), inr (λ h. omega (arith, h), inr (λ h. let bad : false ≡ true = h.0 in cc, inr (λ h. no_rival h.1.0 h.1.1 h.1.2, sweeps))))));
}
