use Rattle.std.proofs.Common.{◌≡◌, ◌∙◌, [], ◌∷◌, ap, sym, subst, length}
use Rattle.std.proofs.lemmas.Option.{MatchOption-at_some}
use Rattle.sc_term.specs.declared.Clause.{Clause}
use Rattle.sc_term.specs.Clause.{instance, IsWithinLimits}
use Rattle.sc_resolve.specs.Literals.{pair_of}
use Rattle.sc_resolve.specs.Parts.{IsOutside, AreTermsOfOne, AreJoint}
use Rattle.sc_resolve.proofs.KeptLaws.{kept_width}
use Rattle.sc_resolve.proofs.CanonicalLaws.{terms_of_canonical}
use Rattle.sc_resolve.proofs.PartLaws.{repeated}
use Rattle.sc_resolve.proofs.FactoringLaws.{concludes}
use Rattle.sc_resolve.proofs.merging.factored.Goals as goal

pub joint_one-requires-clause-narrow : goal.joint_one-requires-clause-narrow
joint_one-requires-clause-narrow c = kept_width c.args.given.now.clause c.requires.kept

pub merged-requires-clause-terms : goal.merged-requires-clause-terms
merged-requires-clause-terms c =
    let given = c.args.given.now.clause in
    let pairs = pair_of c.args.l.now c.args.m.now in
    let one = MatchOption-at_some (IsOutside (given ∷ []) pairs) (λ terms. AreTermsOfOne given pairs terms) c.in-Some.terms c.in-Some.is c.in_ok-terms.ensures in
    let part = MatchOption-at_some (¬ IsWithinLimits (instance c.in-Some.terms given)) (λ p. (p.terms ≡ c.in-Some.terms) × (p.clause ≡ instance c.in-Some.terms given)) c.in-Some-2.part c.in-Some-2.is c.in_ok-part.ensures in
    terms_of_canonical given c.in-Some-2.part.clause c.in-Some-2.part.terms c.requires.kept.canonical (ap (λ ts. length ts) part.0 ∙ one.many) (ap (λ ts. instance ts given) part.0 ∙ sym part.1)

pub merged-requires-clause-repeated : goal.merged-requires-clause-repeated
merged-requires-clause-repeated c =
    let given = c.args.given.now.clause in
    let pairs = pair_of c.args.l.now c.args.m.now in
    let one = MatchOption-at_some (IsOutside (given ∷ []) pairs) (λ terms. AreTermsOfOne given pairs terms) c.in-Some.terms c.in-Some.is c.in_ok-terms.ensures in
    let part = MatchOption-at_some (¬ IsWithinLimits (instance c.in-Some.terms given)) (λ p. (p.terms ≡ c.in-Some.terms) × (p.clause ≡ instance c.in-Some.terms given)) c.in-Some-2.part c.in-Some-2.is c.in_ok-part.ensures in
    let joint = subst (λ (d : Clause). AreJoint (given ∷ []) pairs (d ∷ [])) (sym part.1) one.joint in
    repeated given c.in-Some-2.part.clause c.args.l.now c.args.m.now c.requires.factored.first c.args.second joint.joint c.requires.factored.order
    c.requires.factored.first_there c.requires.factored.second_there c.requires.factored.can.signs

pub returns-in_ok-merged-in-Some-2 : goal.returns-in_ok-merged-in-Some-2
returns-in_ok-merged-in-Some-2 c =
    let given = c.args.given.now.clause in
    let pairs = pair_of c.args.l.now c.args.m.now in
    let one = MatchOption-at_some (IsOutside (given ∷ []) pairs) (λ terms. AreTermsOfOne given pairs terms) c.in-Some.terms c.in-Some.is c.in_ok-terms.ensures in
    let part = MatchOption-at_some (¬ IsWithinLimits (instance c.in-Some.terms given)) (λ p. (p.terms ≡ c.in-Some.terms) × (p.clause ≡ instance c.in-Some.terms given)) c.in-Some-2.part c.in-Some-2.is c.in_ok-part.ensures in
    let joint = subst (λ (d : Clause). AreJoint (given ∷ []) pairs (d ∷ [])) (sym part.1) one.joint in
    concludes c.args.given.now c.args.l.now c.args.m.now c.args.second c.in-Some-2.part.clause c.in_ok-merged-in-Some-2.field-0 joint c.in_ok-merged-in-Some-2.ensures
