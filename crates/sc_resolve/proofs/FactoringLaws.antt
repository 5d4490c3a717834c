-- The conclusion of factoring, put together.
use Rattle.std.proofs.Common.{◌≡◌, ◌∙◌, subst, refl, ℕ, ◌-◌, List, [], ◌∷◌, ◌++◌, take, map, Some, arith}
use Rattle.std.specs.List.{Contains}
use Rattle.sc_term.specs.declared.Literal.{Literal}
use Rattle.sc_term.specs.declared.Clause.{Clause}
use Rattle.sc_term.specs.declared.Line.{Line}
use Rattle.sc_term.specs.declared.Numbered.{Numbered}
use Rattle.sc_term.specs.declared.Step.TheVariants.{Merge}
use Rattle.sc_term.specs.Numbering.{numbered, without}
use Rattle.sc_term.specs.Proof.{IsMerged, clause_of}
use Rattle.sc_term.specs.Substitution.{Unify}
use Rattle.sc_term.specs.JointInstance.{apart}
use Rattle.sc_steps.specs.declared.derivations.made.Made.{Made}
use Rattle.sc_steps.proofs.LineLaws.{some_so}
use Rattle.sc_core_rules.specs.declared.site.FactorSite.{FactorSite}
use Rattle.sc_core_rules.specs.Pairing.{ArePairs, HaveSameSigns, places_in}
use Rattle.sc_core_rules.specs.Derivation.{Adds}
use Rattle.sc_core_rules.specs.Inference.{Inference, Concludes}
use Rattle.sc_core_rules.specs.Resolution.{IsFactor}
use Rattle.sc_core_rules.proofs.FactorExample.{one_pair}
use Rattle.sc_core_rules.proofs.StepLaws.{same_some}
use Rattle.sc_resolve.specs.Literals.{pair_of}
use Rattle.sc_resolve.specs.Parts.{AreJoint}
use Rattle.sc_resolve.specs.Made.{AreFactored, factoring, IsRepeated, AreMerging}
use Rattle.sc_resolve.proofs.LiteralLaws.{apart_one}

pub adds_merge : (opening : List Line) (j : ℕ) (part c : Clause) (second : ℕ) (steps : List Line) → clause_of opening j ≡ Some part → IsRepeated part second
    → c.literals ≡ without part.literals second → steps ≡ opening ++ record { step = Merge j second; clause = c } ∷ [] → Adds opening (Merge j second) steps
adds_merge opening j part c second steps there h e grown = (
  c,
  some_so (clause_of opening j) (λ (of : Clause). IsMerged of second c) part there
      (some_so (numbered part.literals second) (λ (l : Literal). Contains (take (second - 1) part.literals) l × (c.literals ≡ without part.literals second)) h.literal h.there (h.earlier, e)),
  grown,
)

pub concludes : (given : Numbered) (l m : Literal) (second : ℕ) (part : Clause) (made : Made) → AreJoint (given.clause ∷ []) (pair_of l m) (part ∷ []) → AreMerging given part second made.lines
    → Concludes (factoring given l m second) (record { clause = made.clause; lines = made.lines })
concludes given l m second part made joint h = record {
  parts = part ∷ [];
  joint = joint.joint;
  joint_within = joint.within;
  opening = h.opening;
  part_lines = h.line ∷ [];
  opens = (h.opening, h.opens, (refl, refl));
  steps = h.steps;
  ends = h.ends;
  canonical_last = h.canonical_last;
  conclusion = made.ends;
  conclusion_within = record { light = made.light; shallow = made.shallow };
}

-- ---- the site

pub record IsThis (given : Numbered) (site : FactorSite) (i : Inference) (l m : Literal) : Type 0 where
  pub factored : AreFactored given l m site.second
  pub is : i ≡ factoring given l m site.second

pub both_there : (given : Numbered) (site : FactorSite) (i : Inference) → IsFactor given site i
    → (l : Literal) × (m : Literal) × (numbered given.clause.literals site.first ≡ Some l) × (numbered given.clause.literals site.second ≡ Some m) × (i.pairs ≡ pair_of l m)
both_there given site i h =
    let here : ArePairs (given.clause ∷ []) (places_in 1 (site.first ∷ [])) (places_in 1 (site.second ∷ [])) i.pairs =
    subst (λ (cs : List Clause). ArePairs cs (places_in 1 (site.first ∷ [])) (places_in 1 (site.second ∷ [])) i.pairs) (apart_one given.clause)
    (subst (λ (ps : List Numbered). ArePairs (apart (map (λ (q : Numbered). q.clause) ps)) (places_in 1 (site.first ∷ [])) (places_in 1 (site.second ∷ [])) i.pairs) h.parents h.pairs) in
    let pair = one_pair (given.clause ∷ []) (record { parent = 1; lit = site.first }) (record { parent = 1; lit = site.second }) i.pairs here in
    (pair.0.left, pair.0.right, pair.2, pair.3, pair.1)

pub is_this : (given : Numbered) (site : FactorSite) (i : Inference) → IsFactor given site i → (l m : Literal) → numbered given.clause.literals site.first ≡ Some l → numbered given.clause.literals site.second ≡ Some m
    → IsThis given site i l m
is_this given site i h l m at_l at_m =
    let both = both_there given site i h in
    let left : both.0 ≡ l = same_some (numbered given.clause.literals site.first) both.0 l both.2 at_l in
    let right : both.1 ≡ m = same_some (numbered given.clause.literals site.second) both.1 m both.3 at_m in
    let pairs : i.pairs ≡ pair_of l m = both.4 ∙ (λ n. pair_of (left n) (right n)) in
    record {
      factored = record {
        first = site.first;
        order = h.order;
        first_there = at_l;
        second_there = at_m;
        can = record { signs = subst HaveSameSigns pairs h.signs 0 (record { left = l; right = m }) (omega arith); unify = subst Unify pairs h.unify };
      };
      is = λ n. record { parents = h.parents n; pairs = pairs n; ending = h.ending n };
    }
