use Rattle.std.proofs.Common.{◌∙◌, ap, sym, List, [], ◌∷◌, ◌++◌}
use Rattle.std.proofs.lemmas.Option.{MatchOption-at_some}
use Rattle.sc_term.specs.declared.Clause.{Clause}
use Rattle.sc_term.specs.Substitution.{Unify, IsMostGeneralUnifier}
use Rattle.sc_unify.specs.Unifiers.{substitution}
use Rattle.sc_resolve.specs.Literals.{pair_of}
use Rattle.sc_resolve.proofs.LiteralLaws.{apart_one}
use Rattle.sc_resolve.proofs.PartLaws.{told_none, popped_one}
use Rattle.sc_resolve.proofs.joint.joint_one.Goals as goal

pub returns-in-Some-2 : goal.returns-in-Some-2
returns-in-Some-2 c =
    let pairs = pair_of c.args.l.now c.args.m.now in
    let mgu = MatchOption-at_some (¬ Unify pairs) (λ s. IsMostGeneralUnifier pairs (substitution s)) c.in-Some.s c.in-Some.is c.in_ok-s.ensures in
    let parents = c.in_ok-push.ensures.ok ∙ ap (λ (l : List Clause). l ++ c.in_ok-copy.field-0 ∷ []) c.new-parents.ensures ∙ ap (λ (d : Clause). d ∷ []) c.in_ok-copy.ensures in
    popped_one c.push.new.self c.args.c.now pairs c.in-Some.s c.in_ok-told.field-0 c.in-Some-2.told c.pop.new.self c.pop.result
    (record { apart_so = parents ∙ sym (apart_one c.args.c.now); mgu = mgu; parts = c.in_ok-told.ensures.parts; limits = c.in_ok-told.ensures.limits }) c.in-Some-2.is c.pop.ensures

pub returns : goal.returns
returns c =
    let pairs = pair_of c.args.l.now c.args.m.now in
    let mgu = MatchOption-at_some (¬ Unify pairs) (λ s. IsMostGeneralUnifier pairs (substitution s)) c.in-Some.s c.in-Some.is c.in_ok-s.ensures in
    let parents = c.in_ok-push.ensures.ok ∙ ap (λ (l : List Clause). l ++ c.in_ok-copy.field-0 ∷ []) c.new-parents.ensures ∙ ap (λ (d : Clause). d ∷ []) c.in_ok-copy.ensures in
    told_none c.push.new.self (c.args.c.now ∷ []) pairs c.in-Some.s c.in_ok-told.field-0
    (record { apart_so = parents ∙ sym (apart_one c.args.c.now); mgu = mgu; parts = c.in_ok-told.ensures.parts; limits = c.in_ok-told.ensures.limits }) c.in-None-2.is
