use Rattle.std.proofs.Common.{◌∷◌, []}
use Rattle.sc_unify.specs.Unifiers.{substitution}
use Rattle.sc_keep.proofs.PartLaws.{no_unifier, told_parts, the_unifier, the_lack}
use Rattle.sc_keep.proofs.parts.terms_of_pair.Goals as goal

pub returns-in_ok-told-in-Some : goal.returns-in_ok-told-in-Some
returns-in_ok-told-in-Some c own is =
    let pairs = record { left = c.args.l.now; right = c.args.r.now } ∷ [] in
    let unifier = the_unifier pairs c.in_ok-s.field-0 c.in-Some.s c.in-Some.is c.in_ok-s.ensures in
    told_parts own pairs (substitution c.in-Some.s) unifier c.in_ok-told-in-Some.told
    (λ parts joint. c.in_ok-told-in-Some.ensures.parts own pairs parts is unifier joint)
    (λ parts joint. c.in_ok-told-in-Some.ensures.limits own pairs parts is unifier joint)

pub returns-in-None : goal.returns-in-None
returns-in-None c own is =
    let pairs = record { left = c.args.l.now; right = c.args.r.now } ∷ [] in
    no_unifier own pairs (the_lack pairs c.in_ok-s.field-0 c.in-None.is c.in_ok-s.ensures)
