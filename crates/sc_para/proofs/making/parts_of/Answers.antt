use Rattle.std.proofs.Common.{◌≡◌, ◌∙◌, [], ◌∷◌, ap, sym, subst, length, arith, Option}
use Rattle.std.specs.Prelude.{MatchOption}
use Rattle.std.proofs.lemmas.Option.{MatchOption-at_some}
use Rattle.sc_term.specs.declared.Clause.{Clause}
use Rattle.sc_term.specs.Clause.{instance, width, IsWithinLimits}
use Rattle.sc_resolve.specs.declared.joint.Part.{Part}
use Rattle.sc_resolve.specs.Literals.{pair_of}
use Rattle.sc_resolve.specs.Parts.{IsOutside, AreTermsOfTwo, AreJoint}
use Rattle.sc_resolve.proofs.KeptLaws.{kept_width}
use Rattle.sc_resolve.proofs.CanonicalLaws.{terms_of_canonical}
use Rattle.sc_resolve.proofs.PartLaws.{left_within, right_within, shifted_width}
use Rattle.sc_para.proofs.making.parts_of.Goals as goal

pub joint_two-requires-clause-narrow : goal.joint_two-requires-clause-narrow
joint_two-requires-clause-narrow c = kept_width c.args.from.now c.requires.from

pub joint_two-requires-clause-narrow_apart : goal.joint_two-requires-clause-narrow_apart
joint_two-requires-clause-narrow_apart c =
    omega (
      arith,
      kept_width c.args.from.now c.requires.from,
      kept_width c.args.into.now c.requires.into,
      ap (λ (d : Clause). width d) c.requires.apart,
      shifted_width (width c.args.from.now) c.args.into.now,
    )

pub returns-in-None-2 : goal.returns-in-None-2
returns-in-None-2 c =
    let given = c.args.from.now in
    let own = c.args.into.now in
    let pairs = pair_of c.args.l.now c.args.m.now in
    let two = MatchOption-at_some (IsOutside (given ∷ own ∷ []) pairs) (λ b. AreTermsOfTwo given own pairs b.left b.right) c.in-Some.both c.in-Some.is (c.in_ok-both.ensures own c.requires.apart) in
    let outside = subst (λ (o : Option Part). MatchOption o (¬ IsWithinLimits (instance c.in-Some.both.left given)) (λ p. (p.terms ≡ c.in-Some.both.left) × (p.clause ≡ instance c.in-Some.both.left given))) c.in-None-2.is c.in_ok-left.ensures in
    absurd (outside (left_within (instance c.in-Some.both.left given) (instance c.in-Some.both.right own) two.joint.within))

pub returns-in-None-3 : goal.returns-in-None-3
returns-in-None-3 c =
    let given = c.args.from.now in
    let own = c.args.into.now in
    let pairs = pair_of c.args.l.now c.args.m.now in
    let two = MatchOption-at_some (IsOutside (given ∷ own ∷ []) pairs) (λ b. AreTermsOfTwo given own pairs b.left b.right) c.in-Some.both c.in-Some.is (c.in_ok-both.ensures own c.requires.apart) in
    let outside = subst (λ (o : Option Part). MatchOption o (¬ IsWithinLimits (instance c.in-Some.both.right own)) (λ p. (p.terms ≡ c.in-Some.both.right) × (p.clause ≡ instance c.in-Some.both.right own))) c.in-None-3.is c.in_ok-right.ensures in
    absurd (outside (right_within (instance c.in-Some.both.left given) (instance c.in-Some.both.right own) two.joint.within))

pub returns : goal.returns
returns c =
    let given = c.args.from.now in
    let own = c.args.into.now in
    let pairs = pair_of c.args.l.now c.args.m.now in
    let two = MatchOption-at_some (IsOutside (given ∷ own ∷ []) pairs) (λ b. AreTermsOfTwo given own pairs b.left b.right) c.in-Some.both c.in-Some.is (c.in_ok-both.ensures own c.requires.apart) in
    let left = MatchOption-at_some (¬ IsWithinLimits (instance c.in-Some.both.left given)) (λ p. (p.terms ≡ c.in-Some.both.left) × (p.clause ≡ instance c.in-Some.both.left given)) c.in-Some-2.left c.in-Some-2.is c.in_ok-left.ensures in
    let right = MatchOption-at_some (¬ IsWithinLimits (instance c.in-Some.both.right own)) (λ p. (p.terms ≡ c.in-Some.both.right) × (p.clause ≡ instance c.in-Some.both.right own)) c.in-Some-3.right c.in-Some-3.is c.in_ok-right.ensures in
    let joint = subst (λ (x : Clause). AreJoint (given ∷ own ∷ []) pairs (x ∷ c.in-Some-3.right.clause ∷ [])) (sym left.1)
    (subst (λ (x : Clause). AreJoint (given ∷ own ∷ []) pairs (instance c.in-Some.both.left given ∷ x ∷ [])) (sym right.1) two.joint) in (
      joint,
      terms_of_canonical given c.in-Some-2.left.clause c.in-Some-2.left.terms c.requires.from.canonical (ap (λ ts. length ts) left.0 ∙ two.left_many) (ap (λ ts. instance ts given) left.0 ∙ sym left.1),
      terms_of_canonical own c.in-Some-3.right.clause c.in-Some-3.right.terms c.requires.into.canonical (ap (λ ts. length ts) right.0 ∙ two.right_many) (ap (λ ts. instance ts own) right.0 ∙ sym right.1),
    )
