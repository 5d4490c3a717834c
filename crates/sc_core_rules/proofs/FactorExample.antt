-- Worked: p(a) | p(x0) has the one factoring site (1, 2), whose conclusion is p(a).
use Rattle.std.proofs.Common.{◌≡◌, ◌∙◌, refl, sym, subst, ℕ, zero, suc, ◌<◌, ◌⊎◌, inl, inr, List, [], ◌∷◌, map, arith, true, Some, get_or, ap}
use Rattle.std.specs.List.{All}
use Rattle.sc_term.specs.declared.Term.{Term, Var}
use Rattle.sc_term.specs.declared.Term.TheVariants.{App}
use Rattle.sc_term.specs.declared.Literal.{Literal}
use Rattle.sc_term.specs.declared.Clause.{Clause}
use Rattle.sc_term.specs.Numbering.{numbered}
use Rattle.sc_term.specs.Term.{value_of, term_under}
use Rattle.sc_term.specs.declared.Numbered.{Numbered}
use Rattle.sc_term.specs.declared.Pair.{Pair}
use Rattle.sc_core_rules.specs.declared.site.FactorSite.{FactorSite}
use Rattle.sc_term.specs.Substitution.{Substitution, IsUnifier, IsInstanceOf, clause_under}
use Rattle.sc_term.specs.JointInstance.{apart, renumbered, IsJointInstance}
use Rattle.sc_core_rules.specs.Pairing.{ArePairs, HaveSameSigns, places_in}
use Rattle.sc_core_rules.specs.Inference.{Inference, Merging, Ends, Concludes}
use Rattle.sc_core_rules.specs.Resolution.{IsFactor, AreFactorSites}
use Rattle.sc_term.proofs.TermSteps.{under-Var, under-App, variables-Var, variables-App}
use Rattle.sc_core_rules.proofs.Enumerations.{numbered_two}
use Rattle.sc_core_rules.proofs.PairLaws.{first_unifying}
pub use Rattle.sc_core_rules.proofs.PairLaws.{one_pair}
use Rattle.sc_term.specs.declared.Line.{Line}
use Rattle.sc_term.specs.Clause.{instance, width}
use Rattle.sc_term.specs.Refuted.{Atom}
use Rattle.sc_term.proofs.TermLaws.{width-Var, width-App, instance-Var, instance-App, weight-App, depth-App}
use Rattle.sc_core_rules.specs.Derivation.{AddsParts}
use Rattle.sc_core_rules.proofs.DerivationCases.{adds_input, adds_instance, terms_of_one}
use Rattle.sc_term.specs.declared.Step.TheVariants.{Input, Instance, Merge}

abbrev a : Term
a = App (record { 0 = 2 }) []

abbrev p : Term → Literal
p t = record { positive = true; pred = record { 0 = 1 }; args = t ∷ [] }

abbrev clause : Clause
clause = record { literals = p a ∷ p (Var 0) ∷ [] }

abbrev given : Numbered
given = record { number = 1; clause = clause }

abbrev site : FactorSite
site = record { first = 1; second = 2 }

apart_so : apart (clause ∷ []) ≡ clause ∷ []
apart_so = simp (under-App, under-Var)

-- ---- the site

abbrev pairs : List Pair
pairs = record { left = p a; right = p (Var 0) } ∷ []

abbrev s : Substitution
s = value_of (a ∷ [])

unifies : IsUnifier pairs s
unifies zero d h = simp (under-App, under-Var)
unifies (suc k) d h = absurd (omega arith)

abbrev inference : Inference
inference = record { parents = given ∷ []; pairs = pairs; ending = Merging 2 }

is_factor : IsFactor given site inference
is_factor = record { order = omega arith; parents = refl; pairs = subst (λ cs. ArePairs cs (places_in 1 (1 ∷ [])) (places_in 1 (2 ∷ [])) pairs) (sym apart_so) (refl, refl, refl); signs = signs; unify = (s, unifies); ending = refl }
  where
    signs : HaveSameSigns pairs
    signs zero d h = refl
    signs (suc k) d h = absurd (omega arith)

-- ---- it is the only one

both_numbers : (m n : ℕ) → m < n → (m ≡ 1) ⊎ (m ≡ 2) → (n ≡ 1) ⊎ (n ≡ 2) → (1 ≡ m) × (2 ≡ n)
both_numbers m n less (inl e) (inr f) = (sym e, sym f)
both_numbers m n less (inl e) (inl f) = absurd (omega (arith, e, f))
both_numbers m n less (inr e) (inl f) = absurd (omega (arith, e, f))
both_numbers m n less (inr e) (inr f) = absurd (omega (arith, e, f))

in_clause : (n : ℕ) (l : Literal) → numbered (p a ∷ p (Var 0) ∷ []) n ≡ Some l → (n ≡ 1) ⊎ (n ≡ 2)
in_clause n l h = by (numbered_two (p a) (p (Var 0)) n l h)
  where
    by : ((n ≡ 1) × (p a ≡ l)) ⊎ ((n ≡ 2) × (p (Var 0) ≡ l)) → (n ≡ 1) ⊎ (n ≡ 2)
    by (inl e) = inl e.0
    by (inr e) = inr e.0

only_site : (x : FactorSite) (i : Inference) → IsFactor given x i → site ≡ x
only_site x i h =
    let there = subst (λ cs. ArePairs cs (places_in 1 (x.first ∷ [])) (places_in 1 (x.second ∷ [])) i.pairs) apart_so
    (subst (λ ps. ArePairs (apart (map (λ (q : Numbered). q.clause) ps)) (places_in 1 (x.first ∷ [])) (places_in 1 (x.second ∷ [])) i.pairs) h.parents h.pairs) in
    let pair = first_unifying (clause ∷ []) (record { parent = 1; lit = x.first }) (record { parent = 1; lit = x.second }) [] [] i.pairs there h.unify in
    let numbers = both_numbers x.first x.second h.order (in_clause x.first pair.left pair.left_there) (in_clause x.second pair.right pair.right_there) in
    λ j. record { first = numbers.0 j; second = numbers.1 j }

-- the sites of factoring, where more than none may be listed
pub sites : (limit : ℕ) → 0 < limit → AreFactorSites given limit (site ∷ [])
sites limit some = record { rising = λ i j d less within. absurd (omega arith); only = only; no_more = omega arith; first = λ x h. inl (0, omega arith, only_site x h.0 h.1) }
  where
    only : All (λ x. (i : Inference) × IsFactor given x i) (site ∷ [])
    only zero d h = (inference, is_factor)
    only (suc k) d h = absurd (omega arith)

-- ---- its conclusion

abbrev part : Clause
part = record { literals = p a ∷ p a ∷ [] }

abbrev conclusion : Clause
conclusion = record { literals = p a ∷ [] }

general : (t : Substitution) → IsUnifier pairs t → IsInstanceOf s t
general t u = (t, same)
  where
    equal : term_under t a ≡ term_under t (Var 0)
    equal = ap (λ (x : Atom). get_or x.args 0 (Var 0)) (u 0 (record { left = p a; right = p (Var 0) }) (omega arith))

    same : (n : ℕ) → t n ≡ term_under t (s n)
    same zero = sym (under-Var t 0) ∙ sym equal
    same (suc n) = sym (under-Var t (suc n))

joint : IsJointInstance (clause ∷ []) pairs (part ∷ [])
joint = (s, record { unifies = unifies; general = general }, sym (ap (λ cs. renumbered (map (clause_under s) cs)) apart_so ∙ simp (under-Var, under-App, variables-App)))

abbrev lines_one : List Line
lines_one = record { step = Input 1; clause = clause } ∷ []

abbrev lines_two : List Line
lines_two = record { step = Input 1; clause = clause } ∷ record { step = Instance 1 (a ∷ []); clause = part } ∷ []

abbrev lines_three : List Line
lines_three = record { step = Input 1; clause = clause } ∷ record { step = Instance 1 (a ∷ []); clause = part } ∷ record { step = Merge 2 2; clause = conclusion } ∷ []

wide : width clause ≡ 1
wide = simp (width-App, width-Var)

gives : instance (a ∷ []) clause ≡ part
gives = simp (instance-App, instance-Var)

other_part : ¬ (part ≡ clause)
other_part h = let same : a ≡ Var 0 = ap (λ (c : Clause). get_or (get_or c.literals 1 (p a)).args 0 (Var 0)) h in cc

opens : AddsParts [] (given ∷ []) (part ∷ []) lines_two (2 ∷ [])
opens = (lines_two, adds_instance [] given part lines_one 1 (a ∷ []) lines_two (adds_input [] given refl) other_part (terms_of_one clause part a [] wide (simp (variables-App, variables-Var)) gives) (part, (sym wide, sym gives), refl), (refl, refl))

merges : Ends (Merging 2) (2 ∷ []) lines_two lines_three
merges = (conclusion, ((0, omega arith, refl), refl), refl)

-- p(a), with its three lines
pub concludes : Concludes inference (record { clause = conclusion; lines = lines_three })
concludes = record {
  parts = part ∷ [];
  joint = joint;
  joint_within = record { light = simp weight-App (omega arith); shallow = simp depth-App (omega arith) };
  opening = lines_two;
  part_lines = 2 ∷ [];
  opens = opens;
  steps = lines_three;
  ends = merges;
  canonical_last = inl (simp variables-App, refl);
  conclusion = refl;
  conclusion_within = record { light = simp weight-App (omega arith); shallow = simp depth-App (omega arith) };
}
