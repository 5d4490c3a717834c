-- Worked: p(x0) and -p(f(x0)) conflict, with the derivation of the empty clause.
use Rattle.std.proofs.Common.{◌≡◌, ◌∙◌, sym, subst, refl, ap, ℕ, zero, suc, inl, List, [], ◌∷◌, arith, true, false, Bool, map, get_or}
use Rattle.sc_term.specs.Refuted.{Atom}
use Rattle.sc_term.specs.declared.Term.{Term, Var}
use Rattle.sc_term.specs.declared.Term.TheVariants.{App}
use Rattle.sc_term.specs.declared.Literal.{Literal}
use Rattle.sc_term.specs.declared.Clause.{Clause}
use Rattle.sc_term.specs.declared.Line.{Line}
use Rattle.sc_term.specs.declared.Step.TheVariants.{Input, Instance, Resolve}
use Rattle.sc_term.specs.Term.{term_under, value_of, weight_step, depth_step, term_weight, term_depth}
use Rattle.sc_term.proofs.TermLaws.{width-Var, width-App, instance-Var, weight-App, depth-App, fold-Var}
use Rattle.sc_core_rules.specs.Pairing.{ArePairs, HaveOppositeSigns, places_in}
use Rattle.sc_term.specs.declared.Numbered.{Numbered}
use Rattle.sc_term.specs.declared.Pair.{Pair}
use Rattle.sc_term.specs.Substitution.{Substitution, clause_under, IsUnifier, IsInstanceOf}
use Rattle.sc_term.specs.JointInstance.{apart, renumbered, IsJointInstance}
use Rattle.sc_term.proofs.TermSteps.{under-Var, under-App, variables-Var, variables-App}
use Rattle.sc_steps.specs.declared.derivations.derivation.Derived.{Derived}
use Rattle.sc_core_rules.specs.Derivation.{Adds, AddsPart, AddsParts, AreTermsTo}
use Rattle.sc_core_rules.specs.Inference.{Inference, Resolving, Concludes, Ends}
use Rattle.sc_core_rules.specs.Conflict.{Conflicts}
use Rattle.sc_core_rules.proofs.DerivationCases.{adds_input, adds_whole, adds_instance, terms_of_one}

weight-Var : (n : ℕ) → term_weight (Var n) ≡ 1
weight-Var n = fold-Var ℕ weight_step n

depth-Var : (n : ℕ) → term_depth (Var n) ≡ 1
depth-Var n = fold-Var ℕ depth_step n

-- ---- p(x0) against -p(f(x0))

abbrev pub lit : Bool → Term → Literal
lit positive t = record { positive = positive; pred = record { 0 = 1 }; args = t ∷ [] }

abbrev pub one : Literal → Clause
one l = record { literals = l ∷ [] }

abbrev pub f_of : Term → Term
f_of t = App (record { 0 = 2 }) (t ∷ [])

abbrev pub general_fact : Clause
general_fact = one (lit true (Var 0))

abbrev pub denied : Clause
denied = one (lit false (f_of (Var 0)))

abbrev parents : List Clause
parents = denied ∷ general_fact ∷ []

apart_so : apart parents ≡ denied ∷ one (lit true (Var 1)) ∷ []
apart_so = simp (under-Var, under-App, width-Var, width-App)

abbrev pairs : List Pair
pairs = record { left = lit false (f_of (Var 0)); right = lit true (Var 1) } ∷ []

abbrev s : Substitution
s = value_of (Var 0 ∷ f_of (Var 0) ∷ [])

s_unifies : IsUnifier pairs s
s_unifies zero d h = simp (under-Var, under-App)
s_unifies (suc k) d h = absurd (omega arith)

s_general : (t : Substitution) → IsUnifier pairs t → IsInstanceOf s t
s_general t u = (t, same)
  where
    equal : term_under t (f_of (Var 0)) ≡ term_under t (Var 1)
    equal = ap (λ (a : Atom). get_or a.args 0 (Var 0)) (u 0 (record { left = lit true (Var 0); right = lit true (Var 0) }) (omega arith))

    first : f_of (t 0) ≡ t 1
    first = simp (under-Var, under-App) at equal

    same : (n : ℕ) → t n ≡ term_under t (s n)
    same zero = simp under-Var
    same (suc zero) = simp (under-Var, under-App) (sym first)
    same (suc (suc n)) = simp under-Var

abbrev parts : List Clause
parts = denied ∷ one (lit true (f_of (Var 0))) ∷ []

parts_so : renumbered (map (clause_under s) (denied ∷ one (lit true (Var 1)) ∷ [])) ≡ parts
parts_so = simp (under-Var, under-App, variables-Var, variables-App)

joint : IsJointInstance parents pairs parts
joint = (s, record { unifies = s_unifies; general = s_general }, sym (ap (λ cs. renumbered (map (clause_under s) cs)) apart_so ∙ parts_so))

-- ---- they conflict

abbrev second : Numbered
second = record { number = 2; clause = denied }

abbrev first_one : Numbered
first_one = record { number = 1; clause = general_fact }

abbrev pub conflict_lines : List Line
conflict_lines =
    record { step = Input 2; clause = denied }
    ∷ record { step = Input 1; clause = general_fact }
    ∷ record { step = Instance 2 (f_of (Var 0) ∷ []); clause = one (lit true (f_of (Var 0))) }
    ∷ record { step = Resolve 1 1 3 1; clause = record { literals = [] } } ∷ []

abbrev opening_lines : List Line
opening_lines =
    record { step = Input 2; clause = denied }
    ∷ record { step = Input 1; clause = general_fact }
    ∷ record { step = Instance 2 (f_of (Var 0) ∷ []); clause = one (lit true (f_of (Var 0))) } ∷ []

abbrev inference : Inference
inference = record { parents = second ∷ first_one ∷ []; pairs = pairs; ending = Resolving (1 ∷ []) (1 ∷ []) }

abbrev made : Derived
made = record { clause = record { literals = [] }; lines = conflict_lines }

abbrev step_one : List Line
step_one = record { step = Input 2; clause = denied } ∷ []

abbrev step_two : List Line
step_two = record { step = Input 2; clause = denied } ∷ record { step = Input 1; clause = general_fact } ∷ []

terms_to : AreTermsTo general_fact (one (lit true (f_of (Var 0)))) (f_of (Var 0) ∷ [])
terms_to = terms_of_one general_fact (one (lit true (f_of (Var 0)))) (f_of (Var 0)) [] (simp width-Var) (simp variables-Var) (simp instance-Var)

other_part : ¬ (one (lit true (f_of (Var 0))) ≡ general_fact)
other_part e =
    let same : f_of (Var 0) ≡ Var 0 = ap (λ (c : Clause). get_or (get_or c.literals 0 (lit true (Var 0))).args 0 (Var 0)) e in
    cc

adds_instance_line : Adds step_two (Instance 2 (f_of (Var 0) ∷ [])) opening_lines
adds_instance_line = (one (lit true (f_of (Var 0))), (simp width-Var, simp instance-Var), refl)

opens_second : AddsPart [] second denied step_one 1
opens_second = adds_whole [] second step_one 1 (adds_input [] second refl)

opens_first : AddsPart step_one first_one (one (lit true (f_of (Var 0)))) opening_lines 3
opens_first = adds_instance step_one first_one (one (lit true (f_of (Var 0)))) step_two 2 (f_of (Var 0) ∷ []) opening_lines (adds_input step_one first_one refl) other_part terms_to adds_instance_line

opens : AddsParts [] (second ∷ first_one ∷ []) parts opening_lines (1 ∷ 3 ∷ [])
opens = (step_one, opens_second, (opening_lines, opens_first, (refl, refl)))

-- ---- the conclusion

adds_empty : Adds opening_lines (Resolve 1 1 3 1) conflict_lines
adds_empty = (record { literals = [] }, ((refl, refl), refl), refl)

ends : Ends (Resolving (1 ∷ []) (1 ∷ [])) (1 ∷ 3 ∷ []) opening_lines conflict_lines
ends = (conflict_lines, adds_empty, refl)

concludes : Concludes inference made
concludes = record {
  parts = parts;
  joint = joint;
  joint_within = record { light = simp (weight-App, weight-Var) (omega arith); shallow = simp (depth-App, depth-Var) (omega arith) };
  opening = opening_lines;
  part_lines = 1 ∷ 3 ∷ [];
  opens = opens;
  steps = conflict_lines;
  ends = ends;
  canonical_last = inl (refl, refl);
  conclusion = refl;
  conclusion_within = record { light = omega arith; shallow = omega arith };
}

-- the two conflict, and this is the derivation
pub conflict : Conflicts second first_one made
conflict = record {
  inference = inference;
  unit_n = refl;
  unit_m = refl;
  parents = refl;
  pairs = pairs_so;
  signs = signs_so;
  ending = refl;
  concludes = concludes;
}
  where
    pairs_so : ArePairs (apart parents) (places_in 1 (1 ∷ [])) (places_in 2 (1 ∷ [])) pairs
    pairs_so = subst (λ cs. ArePairs cs (places_in 1 (1 ∷ [])) (places_in 2 (1 ∷ [])) pairs) (sym apart_so) (refl, refl, refl)

    signs_so : HaveOppositeSigns pairs
    signs_so zero d h = refl
    signs_so (suc k) d h = absurd (omega arith)
