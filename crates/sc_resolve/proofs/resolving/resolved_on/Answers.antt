use Rattle.std.proofs.Common.{◌≡◌, ◌∙◌, [], ◌∷◌, ap, sym, subst, length, arith, Option}
use Rattle.std.specs.Prelude.{MatchOption}
use Rattle.std.proofs.lemmas.Option.{MatchOption-at_some}
use Rattle.sc_term.specs.declared.Clause.{Clause}
use Rattle.sc_term.specs.Clause.{instance, width, IsWithinLimits}
use Rattle.sc_resolve.specs.declared.joint.Part.{Part}
use Rattle.sc_resolve.specs.Literals.{pair_of}
use Rattle.sc_resolve.specs.Parts.{IsOutside, AreTermsOfTwo, AreJoint}
use Rattle.sc_resolve.proofs.KeptLaws.{kept_width}
use Rattle.sc_resolve.proofs.CanonicalLaws.{terms_of_canonical}
use Rattle.sc_resolve.proofs.PartLaws.{opposed, left_within, right_within, shifted_width}
use Rattle.sc_resolve.proofs.ResolvingLaws.{concludes}
use Rattle.sc_resolve.proofs.resolving.resolved_on.Goals as goal

pub joint_two-requires-clause-narrow : goal.joint_two-requires-clause-narrow
joint_two-requires-clause-narrow c = kept_width c.args.given.now.clause c.requires.given

pub joint_two-requires-clause-narrow_apart : goal.joint_two-requires-clause-narrow_apart
joint_two-requires-clause-narrow_apart c =
    omega (
      arith,
      kept_width c.args.given.now.clause c.requires.given,
      kept_width c.args.partner.now.clause c.requires.partner,
      ap (λ (d : Clause). width d) c.requires.apart,
      shifted_width (width c.args.given.now.clause) c.args.partner.now.clause,
    )

pub returns-in-None-2 : goal.returns-in-None-2
returns-in-None-2 c = λ d k.
    let given = c.args.given.now.clause in
    let own = c.args.partner.now.clause in
    let pairs = pair_of c.args.l.now c.args.m.now in
    let two = MatchOption-at_some (IsOutside (given ∷ own ∷ []) pairs) (λ b. AreTermsOfTwo given own pairs b.left b.right) c.in-Some.both c.in-Some.is (c.in_ok-both.ensures own c.requires.apart) in
    let outside = subst (λ (o : Option Part). MatchOption o (¬ IsWithinLimits (instance c.in-Some.both.left given)) (λ p. (p.terms ≡ c.in-Some.both.left) × (p.clause ≡ instance c.in-Some.both.left given))) c.in-None-2.is c.in_ok-left.ensures in
    outside (left_within (instance c.in-Some.both.left given) (instance c.in-Some.both.right own) two.joint.within)

pub returns-in-None-3 : goal.returns-in-None-3
returns-in-None-3 c = λ d k.
    let given = c.args.given.now.clause in
    let own = c.args.partner.now.clause in
    let pairs = pair_of c.args.l.now c.args.m.now in
    let two = MatchOption-at_some (IsOutside (given ∷ own ∷ []) pairs) (λ b. AreTermsOfTwo given own pairs b.left b.right) c.in-Some.both c.in-Some.is (c.in_ok-both.ensures own c.requires.apart) in
    let outside = subst (λ (o : Option Part). MatchOption o (¬ IsWithinLimits (instance c.in-Some.both.right own)) (λ p. (p.terms ≡ c.in-Some.both.right) × (p.clause ≡ instance c.in-Some.both.right own))) c.in-None-3.is c.in_ok-right.ensures in
    outside (right_within (instance c.in-Some.both.left given) (instance c.in-Some.both.right own) two.joint.within)

pub resolved-requires-clause-left_terms : goal.resolved-requires-clause-left_terms
resolved-requires-clause-left_terms c =
    let given = c.args.given.now.clause in
    let own = c.args.partner.now.clause in
    let pairs = pair_of c.args.l.now c.args.m.now in
    let two = MatchOption-at_some (IsOutside (given ∷ own ∷ []) pairs) (λ b. AreTermsOfTwo given own pairs b.left b.right) c.in-Some.both c.in-Some.is (c.in_ok-both.ensures own c.requires.apart) in
    let left = MatchOption-at_some (¬ IsWithinLimits (instance c.in-Some.both.left given)) (λ p. (p.terms ≡ c.in-Some.both.left) × (p.clause ≡ instance c.in-Some.both.left given)) c.in-Some-2.left c.in-Some-2.is c.in_ok-left.ensures in
    terms_of_canonical given c.in-Some-2.left.clause c.in-Some-2.left.terms c.requires.given.canonical (ap (λ ts. length ts) left.0 ∙ two.left_many) (ap (λ ts. instance ts given) left.0 ∙ sym left.1)

pub resolved-requires-clause-right_terms : goal.resolved-requires-clause-right_terms
resolved-requires-clause-right_terms c =
    let given = c.args.given.now.clause in
    let own = c.args.partner.now.clause in
    let pairs = pair_of c.args.l.now c.args.m.now in
    let two = MatchOption-at_some (IsOutside (given ∷ own ∷ []) pairs) (λ b. AreTermsOfTwo given own pairs b.left b.right) c.in-Some.both c.in-Some.is (c.in_ok-both.ensures own c.requires.apart) in
    let right = MatchOption-at_some (¬ IsWithinLimits (instance c.in-Some.both.right own)) (λ p. (p.terms ≡ c.in-Some.both.right) × (p.clause ≡ instance c.in-Some.both.right own)) c.in-Some-3.right c.in-Some-3.is c.in_ok-right.ensures in
    terms_of_canonical own c.in-Some-3.right.clause c.in-Some-3.right.terms c.requires.partner.canonical (ap (λ ts. length ts) right.0 ∙ two.right_many) (ap (λ ts. instance ts own) right.0 ∙ sym right.1)

pub resolved-requires-clause-opposed : goal.resolved-requires-clause-opposed
resolved-requires-clause-opposed c =
    let given = c.args.given.now.clause in
    let own = c.args.partner.now.clause in
    let pairs = pair_of c.args.l.now c.args.m.now in
    let two = MatchOption-at_some (IsOutside (given ∷ own ∷ []) pairs) (λ b. AreTermsOfTwo given own pairs b.left b.right) c.in-Some.both c.in-Some.is (c.in_ok-both.ensures own c.requires.apart) in
    let left = MatchOption-at_some (¬ IsWithinLimits (instance c.in-Some.both.left given)) (λ p. (p.terms ≡ c.in-Some.both.left) × (p.clause ≡ instance c.in-Some.both.left given)) c.in-Some-2.left c.in-Some-2.is c.in_ok-left.ensures in
    let right = MatchOption-at_some (¬ IsWithinLimits (instance c.in-Some.both.right own)) (λ p. (p.terms ≡ c.in-Some.both.right) × (p.clause ≡ instance c.in-Some.both.right own)) c.in-Some-3.right c.in-Some-3.is c.in_ok-right.ensures in
    let joint = subst (λ (x : Clause). AreJoint (given ∷ own ∷ []) pairs (x ∷ c.in-Some-3.right.clause ∷ [])) (sym left.1)
    (subst (λ (x : Clause). AreJoint (given ∷ own ∷ []) pairs (instance c.in-Some.both.left given ∷ x ∷ [])) (sym right.1) two.joint) in
    opposed given own c.in-Some-2.left.clause c.in-Some-3.right.clause c.args.l.now c.args.m.now c.args.site.now.given_lit c.args.site.now.partner_lit joint.joint
    c.requires.resolved.left_there c.requires.resolved.right_there c.requires.resolved.can.signs

pub returns : goal.returns
returns c =
    let given = c.args.given.now.clause in
    let own = c.args.partner.now.clause in
    let pairs = pair_of c.args.l.now c.args.m.now in
    let two = MatchOption-at_some (IsOutside (given ∷ own ∷ []) pairs) (λ b. AreTermsOfTwo given own pairs b.left b.right) c.in-Some.both c.in-Some.is (c.in_ok-both.ensures own c.requires.apart) in
    let left = MatchOption-at_some (¬ IsWithinLimits (instance c.in-Some.both.left given)) (λ p. (p.terms ≡ c.in-Some.both.left) × (p.clause ≡ instance c.in-Some.both.left given)) c.in-Some-2.left c.in-Some-2.is c.in_ok-left.ensures in
    let right = MatchOption-at_some (¬ IsWithinLimits (instance c.in-Some.both.right own)) (λ p. (p.terms ≡ c.in-Some.both.right) × (p.clause ≡ instance c.in-Some.both.right own)) c.in-Some-3.right c.in-Some-3.is c.in_ok-right.ensures in
    let joint = subst (λ (x : Clause). AreJoint (given ∷ own ∷ []) pairs (x ∷ c.in-Some-3.right.clause ∷ [])) (sym left.1)
    (subst (λ (x : Clause). AreJoint (given ∷ own ∷ []) pairs (instance c.in-Some.both.left given ∷ x ∷ [])) (sym right.1) two.joint) in
    concludes c.args.given.now c.args.partner.now c.args.l.now c.args.m.now c.args.site.now.given_lit c.args.site.now.partner_lit c.in-Some-2.left.clause c.in-Some-3.right.clause
    c.in_ok-resolved.field-0 joint c.in_ok-resolved.ensures
