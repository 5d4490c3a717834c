-- The conclusion of binary resolution, put together.
use Rattle.std.proofs.Common.{◌≡◌, ◌∙◌, sym, ap, subst, refl, ℕ, List, [], ◌∷◌, ◌++◌, map, Some, arith}
use Rattle.std.specs.Prelude.{IsSomeAnd}
use Rattle.sc_term.specs.declared.Literal.{Literal}
use Rattle.sc_term.specs.declared.Clause.{Clause}
use Rattle.sc_term.specs.declared.Line.{Line}
use Rattle.sc_term.specs.declared.Numbered.{Numbered}
use Rattle.sc_term.specs.declared.Step.TheVariants.{Resolve}
use Rattle.sc_term.specs.Numbering.{numbered, without}
use Rattle.sc_term.specs.Clause.{width}
use Rattle.sc_term.specs.Proof.{IsResolvent, AreOpposite, clause_of}
use Rattle.sc_term.specs.Substitution.{Unify}
use Rattle.sc_term.specs.JointInstance.{apart, shift}
use Rattle.sc_steps.specs.declared.derivations.made.Made.{Made}
use Rattle.sc_steps.proofs.LineLaws.{some_so}
use Rattle.sc_core_rules.specs.declared.site.BinarySite.{BinarySite}
use Rattle.sc_core_rules.specs.Pairing.{ArePairs, HaveOppositeSigns, places_in}
use Rattle.sc_core_rules.specs.Derivation.{Adds}
use Rattle.sc_core_rules.specs.Inference.{Inference, Concludes}
use Rattle.sc_core_rules.specs.Resolution.{IsBinary}
use Rattle.sc_core_rules.proofs.Enumerations.{in_one}
use Rattle.sc_core_rules.proofs.FactorExample.{one_pair}
use Rattle.sc_core_rules.proofs.StepLaws.{same_some}
use Rattle.sc_resolve.specs.Literals.{pair_of}
use Rattle.sc_resolve.specs.Binary.{renamed}
use Rattle.sc_resolve.specs.Parts.{AreJoint}
use Rattle.sc_resolve.specs.Made.{AreResolved, resolution, IsOpposed, AreResolving}
use Rattle.sc_resolve.proofs.LiteralLaws.{apart_two}

pub adds_resolve : (opening : List Line) (j k : ℕ) (left right c : Clause) (a b : ℕ) (steps : List Line) → clause_of opening j ≡ Some left → clause_of opening k ≡ Some right → IsOpposed left a right b
    → c.literals ≡ without left.literals a ++ without right.literals b → steps ≡ opening ++ record { step = Resolve j a k b; clause = c } ∷ [] → Adds opening (Resolve j a k b) steps
adds_resolve opening j k left right c a b steps at_j at_k h e grown = (
  c,
  some_so (clause_of opening j) (λ (x : Clause). IsSomeAnd (clause_of opening k) (λ (y : Clause). IsResolvent x a y b c)) left at_j
      (some_so (clause_of opening k) (λ (y : Clause). IsResolvent left a y b c) right at_k
      (some_so (numbered left.literals a) (λ (l : Literal). IsSomeAnd (numbered right.literals b) (λ (m : Literal). AreOpposite l m × (c.literals ≡ without left.literals a ++ without right.literals b))) h.l h.left_there
      (some_so (numbered right.literals b) (λ (m : Literal). AreOpposite h.l m × (c.literals ≡ without left.literals a ++ without right.literals b)) h.m h.right_there (h.opposite, e)))),
  grown,
)

pub concludes : (given partner : Numbered) (l m : Literal) (a b : ℕ) (left right : Clause) (made : Made) → AreJoint (given.clause ∷ partner.clause ∷ []) (pair_of l m) (left ∷ right ∷ [])
    → AreResolving given partner left right a b made.lines → Concludes (resolution given partner l m a b) (record { clause = made.clause; lines = made.lines })
concludes given partner l m a b left right made joint h = record {
  parts = left ∷ right ∷ [];
  joint = joint.joint;
  joint_within = joint.within;
  opening = h.opening;
  part_lines = h.left_line ∷ h.right_line ∷ [];
  opens = (h.mid, h.left_opens, (h.opening, h.right_opens, (refl, refl)));
  steps = h.steps;
  ends = (h.steps, h.ends, refl);
  canonical_last = h.canonical_last;
  conclusion = made.ends;
  conclusion_within = record { light = made.light; shallow = made.shallow };
}

-- ---- the site

pub record IsThis (given partner : Numbered) (site : BinarySite) (i : Inference) (l m : Literal) : Type 0 where
  pub resolved : AreResolved given partner l m site.given_lit site.partner_lit
  pub is : i ≡ resolution given partner l m site.given_lit site.partner_lit

pub record AreThere (given partner : Numbered) (site : BinarySite) (i : Inference) : Type 0 where
  pub l : Literal
  pub m : Literal
  pub left_there : numbered given.clause.literals site.given_lit ≡ Some l
  pub right_there : numbered (renamed given partner) site.partner_lit ≡ Some m
  pub pairs : i.pairs ≡ pair_of l m
  pub parents : i.parents ≡ given ∷ partner ∷ []

pub both_there : (given partner : Numbered) (site : BinarySite) (i : Inference) → IsBinary given (partner ∷ []) site i → AreThere given partner site i
both_there given partner site i h =
    let it : partner ≡ h.partner = in_one partner h.partner h.listed in
    let parents : i.parents ≡ given ∷ partner ∷ [] = h.parents ∙ ap (λ (p : Numbered). given ∷ p ∷ []) (sym it) in
    let here : ArePairs (given.clause ∷ shift (width given.clause) partner.clause ∷ []) (places_in 1 (site.given_lit ∷ [])) (places_in 2 (site.partner_lit ∷ [])) i.pairs =
    subst (λ (cs : List Clause). ArePairs cs (places_in 1 (site.given_lit ∷ [])) (places_in 2 (site.partner_lit ∷ [])) i.pairs) (apart_two given.clause partner.clause)
    (subst (λ (ps : List Numbered). ArePairs (apart (map (λ (q : Numbered). q.clause) ps)) (places_in 1 (site.given_lit ∷ [])) (places_in 2 (site.partner_lit ∷ [])) i.pairs) parents h.pairs) in
    let pair = one_pair (given.clause ∷ shift (width given.clause) partner.clause ∷ []) (record { parent = 1; lit = site.given_lit }) (record { parent = 2; lit = site.partner_lit }) i.pairs here in
    record { l = pair.0.left; m = pair.0.right; left_there = pair.2; right_there = pair.3; pairs = pair.1; parents = parents }

pub is_this : (given partner : Numbered) (site : BinarySite) (i : Inference) → IsBinary given (partner ∷ []) site i → (l m : Literal) → numbered given.clause.literals site.given_lit ≡ Some l
    → numbered (renamed given partner) site.partner_lit ≡ Some m → IsThis given partner site i l m
is_this given partner site i h l m at_l at_m =
    let both = both_there given partner site i h in
    let left : both.l ≡ l = same_some (numbered given.clause.literals site.given_lit) both.l l both.left_there at_l in
    let right : both.m ≡ m = same_some (numbered (renamed given partner) site.partner_lit) both.m m both.right_there at_m in
    let pairs : i.pairs ≡ pair_of l m = both.pairs ∙ (λ n. pair_of (left n) (right n)) in
    record {
      resolved = record {
        left_there = at_l;
        right_there = at_m;
        can = record { signs = subst HaveOppositeSigns pairs h.signs 0 (record { left = l; right = m }) (omega arith); unify = subst Unify pairs h.unify };
      };
      is = λ n. record { parents = both.parents n; pairs = pairs n; ending = h.ending n };
    }
