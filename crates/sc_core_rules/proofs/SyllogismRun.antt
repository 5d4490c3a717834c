-- Worked: the third turn of that run finds the empty clause, and the whole run.
use Rattle.std.proofs.Common.{◌≡◌, ◌∙◌, sym, ap, subst, refl, ℕ, ◌-◌, ◌⊎◌, inl, inr, List, [], ◌∷◌, map, take, arith, true, false, not, Some, None}
use Rattle.std.specs.List.{Contains}
use Rattle.sc_term.specs.declared.Term.{Term, Var}
use Rattle.sc_term.specs.declared.Literal.{Literal}
use Rattle.sc_term.specs.declared.Clause.{Clause}
use Rattle.sc_term.specs.declared.Line.{Line}
use Rattle.sc_term.specs.declared.Numbered.{Numbered}
use Rattle.sc_term.specs.declared.Pair.{Pair}
use Rattle.sc_term.specs.declared.Step.TheVariants.{Input, Resolve}
use Rattle.sc_term.specs.Clause.{weight, IsCanonical, literal_instance}
use Rattle.sc_term.specs.Refuted.{equation}
use Rattle.sc_term.specs.Substitution.{Substitution, IsUnifier, IsInstanceOf, clause_under}
use Rattle.sc_term.specs.JointInstance.{apart, renumbered, IsJointInstance}
use Rattle.sc_term.proofs.TermSteps.{under-Var, under-App, variables-App}
use Rattle.sc_term.proofs.TermLaws.{weight-App, depth-App}
use Rattle.sc_steps.specs.declared.derivations.derivation.Derived.{Derived}
use Rattle.sc_interp.specs.Versions.{opening}
use Rattle.sc_interp.specs.declared.plain.Truth.TheVariants.{True, False}
use Rattle.sc_core_rules.specs.declared.fate.Fate.TheVariants.{Empty}
use Rattle.sc_core_rules.specs.declared.row.Cause.TheVariants as cause
use Rattle.sc_core_rules.specs.declared.row.Outcome.TheVariants.{Proof}
use Rattle.sc_core_rules.specs.declared.site.BinarySite.{BinarySite}
use Rattle.sc_core_rules.specs.Order.{IsBefore, ends}
use Rattle.sc_core_rules.specs.Pairing.{ArePairs, places_in}
use Rattle.sc_core_rules.specs.Derivation.{AddsParts}
use Rattle.sc_core_rules.specs.Inference.{Inference, Resolving, Concludes}
use Rattle.sc_core_rules.specs.Resolution.{IsBinary}
use Rattle.sc_core_rules.specs.Sites.{Site, Binary, Factor, Hyper, Ur, ParaFrom, ParaInto, IsSite, AreSites, site_numbers}
use Rattle.sc_term.specs.Subsumption.{Subsumes, IsTautology}
use Rattle.sc_core_rules.specs.Rewriting.{number_of, RewritesOnce}
use Rattle.sc_core_rules.specs.Simplification.{Simplifies, MergesOnce, IsRepeated}
use Rattle.sc_core_rules.specs.Book.{Book, with_derived}
use Rattle.sc_core_rules.specs.Conflict.{Conflicts}
use Rattle.sc_core_rules.specs.Processing.{Processes, IsRival, with_kept, only_fate}
use Rattle.sc_core_rules.specs.Selection.{opening_name}
use Rattle.sc_core_rules.specs.WorkList.{Found, found}
use Rattle.sc_core_rules.specs.Turn.{Run, Infer}
use Rattle.sc_core_rules.specs.Run.{IsRun, Goes, looks_of}
use Rattle.sc_core_rules.proofs.OrderLaws.{not_before_itself}
use Rattle.sc_term.proofs.ContainsLaws.{first_or_later}
use Rattle.sc_core_rules.proofs.Enumerations.{in_one, in_three, some_of_one, all_of_two, pairs_of_two}
use Rattle.sc_core_rules.proofs.PairLaws.{unifier_of_one, opposite_one}
use Rattle.sc_core_rules.proofs.SiteLaws.{AreOpposed}
use Rattle.sc_core_rules.proofs.OpposedLaws.{conflict_opposed, units_opposed}
use Rattle.sc_core_rules.proofs.DerivationCases.{adds_input, adds_whole}
use Rattle.sc_core_rules.proofs.BinaryExample.{a, lit, one, given, three, usable, site, conclusion, lines_four, pair_with, is_first, is_second, only_sites, concludes}
use Rattle.sc_core_rules.proofs.SyllogismExample.{flags, problem, opened, starts, guides, selects_given, mark_given, not_unit, row, after_two, goes_one, goes_two}

-- ---- the sites

abbrev now_usable : List Numbered
now_usable = one ∷ three ∷ given ∷ []

to_now : (p : Numbered) → Contains usable p → Contains now_usable p
to_now p h = by (in_three one given three p h)
  where
    by : (one ≡ p) ⊎ (given ≡ p) ⊎ (three ≡ p) → Contains now_usable p
    by (inl e) = (0, omega arith, e)
    by (inr (inl e)) = (2, omega arith, e)
    by (inr (inr e)) = (1, omega arith, e)

from_now : (p : Numbered) → Contains now_usable p → Contains usable p
from_now p h = by (in_three one three given p h)
  where
    by : (one ≡ p) ⊎ (three ≡ p) ⊎ (given ≡ p) → Contains usable p
    by (inl e) = (0, omega arith, e)
    by (inr (inl e)) = (2, omega arith, e)
    by (inr (inr e)) = (1, omega arith, e)

-- the order of the usable clauses plays no part
moved : (us vs : List Numbered) → ((p : Numbered) → Contains us p → Contains vs p) → (x : BinarySite) (i : Inference) → IsBinary given us x i → IsBinary given vs x i
moved us vs to x i h = record { partner = h.partner; listed = to h.partner h.listed; named = h.named; parents = h.parents; pairs = h.pairs; signs = h.signs; unify = h.unify; ending = h.ending }

abbrev first_inference : Inference
first_inference = record { parents = given ∷ one ∷ []; pairs = pair_with true 1 ∷ []; ending = Resolving (1 ∷ []) (1 ∷ []) }

abbrev second_inference : Inference
second_inference = record { parents = given ∷ three ∷ []; pairs = pair_with false 2 ∷ []; ending = Resolving (2 ∷ []) (1 ∷ []) }

abbrev all_sites : List Site
all_sites = Binary (site 1 1) ∷ Binary (site 3 2) ∷ []

only_these : (x : Site) → IsSite flags given now_usable x → Contains all_sites x
only_these (Binary x) h = by (only_sites x h.1.0 (moved now_usable usable from_now x h.1.0 h.1.1))
  where
    by : (site 1 1 ≡ x) ⊎ (site 3 2 ≡ x) → Contains all_sites (Binary x)
    by (inl e) = (0, omega arith, ap Binary e)
    by (inr e) = (1, omega arith, ap Binary e)
only_these (Factor x) h = let bad : false ≡ true = h.0 in absurd cc
only_these (Hyper x) h = let bad : false ≡ true = h.0 in absurd cc
only_these (Ur x) h = let bad : false ≡ true = h.0 in absurd cc
only_these (ParaFrom x) h = let bad : false ≡ true = h.0 in absurd cc
only_these (ParaInto x) h = let bad : false ≡ true = h.0 in absurd cc

are_sites : AreSites flags given now_usable 100001 all_sites
are_sites = record {
  rising = pairs_of_two (λ x y. IsBefore (site_numbers x) (site_numbers y)) (Binary (site 1 1)) (Binary (site 3 2)) (inr (refl, inl (omega arith)));
  only = all_of_two (IsSite flags given now_usable) (Binary (site 1 1)) (Binary (site 3 2))
      (refl, (first_inference, moved usable now_usable to_now (site 1 1) first_inference is_first))
      (refl, (second_inference, moved usable now_usable to_now (site 3 2) second_inference is_second));
  no_more = omega arith;
  first = λ x h. inl (only_these x h);
}

-- ---- q(a) isn't simplified

no_rewrite : (lines : List Line) → ¬ RewritesOnce [] lines_four lines
no_rewrite lines h = omega (arith, h.least.listed.1)

no_merge : (lines : List Line) → ¬ MergesOnce lines_four lines
no_merge lines h = none_repeated h.a (subst (λ (c : Clause). IsRepeated c h.a) (sym same) h.repeated)
  where
    same : conclusion ≡ h.clause
    same = let e : Some conclusion ≡ Some h.clause = h.clause_last in cc

    none_repeated : (n : ℕ) → ¬ IsRepeated conclusion n
    none_repeated n e =
        let first = some_of_one (λ l. Contains (take (n - 1) (conclusion.literals)) l) (lit true 2 a) n e in
        let none : n - 1 ≡ 0 = omega (arith, first.0) in
        let k = subst (λ (m : ℕ). Contains (take m (conclusion.literals)) (lit true 2 a)) none first.1 in
        omega (arith, k.1)

canonical : IsCanonical conclusion
canonical = simp variables-App

simplifies : Simplifies flags 1000 [] now_usable lines_four lines_four
simplifies = record { rewritten = lines_four; oriented = lines_four; cut = lines_four; merged = lines_four; rewrites = ends no_rewrite; orients = refl; cuts = refl; merges = ends no_merge; canonical_last = inl (canonical, refl) }

-- ---- the conflict with -q(a)

abbrev four : Numbered
four = record { number = 4; clause = conclusion }

abbrev last_pair : Pair
last_pair = record { left = lit true 2 a; right = lit false 2 a }

abbrev itself : Substitution
itself n = Var n

apart_so : apart (conclusion ∷ three.clause ∷ []) ≡ conclusion ∷ three.clause ∷ []
apart_so = simp under-App

joint : IsJointInstance (conclusion ∷ three.clause ∷ []) (last_pair ∷ []) (conclusion ∷ three.clause ∷ [])
joint = (itself, record { unifies = unifier_of_one last_pair itself refl; general = general }, sym (ap (λ cs. renumbered (map (clause_under itself) cs)) apart_so ∙ simp (under-App, variables-App)))
  where
    general : (t : Substitution) → IsUnifier (last_pair ∷ []) t → IsInstanceOf itself t
    general t u = (t, λ n. sym (under-Var t n))

abbrev lines_one : List Line
lines_one = record { step = Input 4; clause = conclusion } ∷ []

abbrev lines_two : List Line
lines_two = record { step = Input 4; clause = conclusion } ∷ record { step = Input 3; clause = three.clause } ∷ []

abbrev pub lines_three : List Line
lines_three = record { step = Input 4; clause = conclusion } ∷ record { step = Input 3; clause = three.clause } ∷ record { step = Resolve 1 1 2 1; clause = record { literals = [] } } ∷ []

abbrev pub false_clause : Derived
false_clause = record { clause = record { literals = [] }; lines = lines_three }

abbrev last_inference : Inference
last_inference = record { parents = four ∷ three ∷ []; pairs = last_pair ∷ []; ending = Resolving (1 ∷ []) (1 ∷ []) }

opens : AddsParts [] (four ∷ three ∷ []) (conclusion ∷ three.clause ∷ []) lines_two (1 ∷ 2 ∷ [])
opens = (lines_one, adds_whole [] four lines_one 1 (adds_input [] four refl), (lines_two, adds_whole lines_one three lines_two 2 (adds_input lines_one three refl), (refl, refl)))

concludes_false : Concludes last_inference false_clause
concludes_false = record {
  parts = conclusion ∷ three.clause ∷ [];
  joint = joint;
  joint_within = record { light = simp weight-App (omega arith); shallow = simp depth-App (omega arith) };
  opening = lines_two;
  part_lines = 1 ∷ 2 ∷ [];
  opens = opens;
  steps = lines_three;
  ends = (lines_three, (record { literals = [] }, ((refl, refl), refl), refl), refl);
  canonical_last = inl (refl, refl);
  conclusion = refl;
  conclusion_within = record { light = omega arith; shallow = omega arith };
}

conflict : Conflicts four three false_clause
conflict = record {
  inference = last_inference;
  unit_n = refl;
  unit_m = refl;
  parents = refl;
  pairs = subst (λ cs. ArePairs cs (places_in 1 (1 ∷ [])) (places_in 2 (1 ∷ [])) (last_pair ∷ [])) (sym apart_so) (refl, refl, refl);
  signs = opposite_one last_pair refl;
  ending = refl;
  concludes = concludes_false;
}

is_rival : IsRival four three
is_rival = ((λ e. omega (arith, e)), (false_clause, conflict))

abbrev live_now : List Numbered
live_now = one ∷ three ∷ given ∷ four ∷ []

no_earlier : (y : Numbered) → Contains live_now y → IsRival four y → ¬ IsBefore (number_of y) (number_of three)
no_earlier y h rival less = by (first_or_later y one (three ∷ given ∷ four ∷ []) h)
  where
    rest : (three ≡ y) ⊎ (given ≡ y) ⊎ (four ≡ y) → ⊥
    rest (inl e) = not_before_itself (number_of three) (subst (λ (x : Numbered). IsBefore (number_of x) (number_of three)) (sym e) less)
    rest (inr (inl e)) = not_unit four y rival.1.0 rival.1.1 e
    rest (inr (inr e)) = rival.0 (ap (λ (x : Numbered). x.number) (sym e))

    by : (one ≡ y) ⊎ Contains (three ∷ given ∷ four ∷ []) y → ⊥
    by (inl e) =
        let same = (units_opposed 4 1 (lit true 2 a) (lit true 1 a) 1 1 (subst (λ (x : Numbered). AreOpposed four x 1 1) (sym e) (conflict_opposed four y rival.1.0 rival.1.1))).1 in
        omega (arith, same)
    by (inr k) = rest (in_three three given four y k)

-- ---- the fate

no_tautology : ¬ IsTautology conclusion
no_tautology (inl h) =
    let l : lit true 2 a ≡ h.0 = in_one (lit true 2 a) h.0 h.2 in
    let m : lit true 2 a ≡ h.1 = in_one (lit true 2 a) h.1 h.3 in
    let bad : true ≡ false = ap (λ (x : Literal). x.positive) l ∙ h.4.0 ∙ ap (λ (x : Literal). not x.positive) (sym m) in
    cc
no_tautology (inr h) =
    let e = in_one (lit true 2 a) (equation true h.0 h.0) h.1 in
    let bad : ◌≡◌ {A = ℕ} 2 0 = ap (λ (x : Literal). x.pred.0) e in
    omega (arith, bad)

none_subsumes : (m : Numbered) → Contains now_usable m → ¬ Subsumes m.clause conclusion
none_subsumes m h s = by (in_three one three given m h)
  where
    first : (l : Literal) → record { literals = l ∷ [] } ≡ m.clause → (terms : List Term) × (lit true 2 a ≡ literal_instance terms l)
    first l e = let t = subst (λ (c : Clause). Subsumes c conclusion) (sym e) s in (t.terms, in_one (lit true 2 a) (literal_instance t.terms l) (t.each 0 l (omega arith)))

    by : (one ≡ m) ⊎ (three ≡ m) ⊎ (given ≡ m) → ⊥
    by (inl e) = let bad : ◌≡◌ {A = ℕ} 2 1 = ap (λ (x : Literal). x.pred.0) (first (lit true 1 a) (ap (λ (x : Numbered). x.clause) e)).1 in omega (arith, bad)
    by (inr (inl e)) = let bad : true ≡ false = ap (λ (x : Literal). x.positive) (first (lit false 2 a) (ap (λ (x : Numbered). x.clause) e)).1 in cc
    by (inr (inr e)) = let long = (subst (λ (x : Numbered). Subsumes x.clause conclusion) (sym e) s).no_longer in omega (arith, long)

weight_so : weight conclusion ≡ 2
weight_so = simp weight-App

abbrev given_book : Book
given_book = record { derived = []; usable = now_usable; sos = []; passive = []; demods = []; kept = [] }

abbrev kept_book : Book
kept_book = with_kept problem given_book conclusion lines_four 3

abbrev pub new_book : Book
new_book = with_derived kept_book (false_clause.clause) lines_three

processed : Processes problem given_book lines_four 3 new_book (only_fate (Empty 5))
processed = record {
  simplified = lines_four;
  simplifies = simplifies;
  clause = conclusion;
  clause_last = refl;
  fated = inr (
    λ e. cc,
    inr (
      no_tautology,
      inr (
        λ h. omega (arith, h, weight_so),
        inr (
          λ h. omega (arith, h),
          inr (
            λ h. none_subsumes h.1.0 h.1.1 h.1.2,
            inl ((refl, (three, (1, omega arith, refl), is_rival)), (three, false_clause, record { listed = (1, omega arith, refl); holds = is_rival; least = no_earlier }, conflict, refl, refl)),
          ),
        ),
      ),
    ),
  );
}

-- ---- the third turn, and the run

abbrev pub after_three : Run
after_three = record { book = new_book; given = row 1 1 False ∷ row 2 3 True ∷ row 3 2 True ∷ []; ended = Some Proof; goal = Some 5 }

turn_three : Infer problem 3 after_two ([] ∷ []) after_three
turn_three = record {
  name = opening_name;
  guide = opening problem.symbols;
  guides = guides;
  given = given;
  cause = cause.Weight;
  selects = selects_given;
  truth = True;
  marked = mark_given;
  sites = all_sites;
  are_sites = are_sites;
  book = new_book;
  finish = Found 5;
  works = found (record { clause = conclusion; lines = lines_four }) (only_fate (Empty 5)) ((λ passed. passed), (first_inference, moved usable now_usable to_now (site 1 1) first_inference is_first, concludes)) processed refl;
  goes_to = refl;
}

goes_three : Goes problem after_two ([] ∷ []) after_three
goes_three = inr (λ e. cc, inr (λ e. cc, inr (λ e. omega (arith, e), inr (λ h. omega (arith, h), turn_three))))

-- the look after the last row finds the run ended
stands_still : Goes problem after_three ([] ∷ []) after_three
stands_still = inl (refl, refl)

-- three clauses are given, q(a) is kept as clause 4, and clause 5 is empty
pub run : IsRun problem (looks_of after_three.given ([] ∷ [])) after_three
run = record { book = opened; goal = None; starts = starts; goes = (_, goes_one, (after_two, goes_two, (after_three, goes_three, (after_three, stands_still, refl)))) }
