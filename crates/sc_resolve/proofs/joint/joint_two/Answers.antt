use Rattle.std.proofs.Common.{◌∙◌, ap, sym, List, [], ◌∷◌, ◌++◌}
use Rattle.std.proofs.lemmas.Option.{MatchOption-at_some}
use Rattle.sc_term.specs.declared.Clause.{Clause}
use Rattle.sc_term.specs.Substitution.{Unify, IsMostGeneralUnifier}
use Rattle.sc_unify.specs.Unifiers.{substitution}
use Rattle.sc_resolve.specs.Literals.{pair_of}
use Rattle.sc_resolve.proofs.LiteralLaws.{apart_two}
use Rattle.sc_resolve.proofs.PartLaws.{told_none, told_two}
use Rattle.sc_resolve.proofs.joint.joint_two.Goals as goal

pub returns-in-Some-2 : goal.returns-in-Some-2
returns-in-Some-2 c = λ own e.
    let pairs = pair_of c.args.l.now c.args.m.now in
    let mgu = MatchOption-at_some (¬ Unify pairs) (λ s. IsMostGeneralUnifier pairs (substitution s)) c.in-Some.s c.in-Some.is c.in_ok-s.ensures in
    let first = c.in_ok-push.ensures.ok ∙ ap (λ (l : List Clause). l ++ c.in_ok-copy.field-0 ∷ []) c.new-parents.ensures ∙ ap (λ (d : Clause). d ∷ []) c.in_ok-copy.ensures in
    let parents = c.in_ok-push-2.ensures.ok ∙ ap (λ (l : List Clause). l ++ c.in_ok-copy-2.field-0 ∷ []) first ∙ ap (λ (d : Clause). c.args.c.now ∷ d ∷ []) (c.in_ok-copy-2.ensures ∙ e) in
    told_two c.push-2.new.self c.args.c.now own pairs c.in-Some.s c.in_ok-told.field-0 c.in-Some-2.told c.both_of.result
    (record { apart_so = parents ∙ sym (apart_two c.args.c.now own); mgu = mgu; parts = c.in_ok-told.ensures.parts; limits = c.in_ok-told.ensures.limits }) c.in-Some-2.is c.both_of.ensures

pub returns : goal.returns
returns c = λ own e.
    let pairs = pair_of c.args.l.now c.args.m.now in
    let mgu = MatchOption-at_some (¬ Unify pairs) (λ s. IsMostGeneralUnifier pairs (substitution s)) c.in-Some.s c.in-Some.is c.in_ok-s.ensures in
    let first = c.in_ok-push.ensures.ok ∙ ap (λ (l : List Clause). l ++ c.in_ok-copy.field-0 ∷ []) c.new-parents.ensures ∙ ap (λ (d : Clause). d ∷ []) c.in_ok-copy.ensures in
    let parents = c.in_ok-push-2.ensures.ok ∙ ap (λ (l : List Clause). l ++ c.in_ok-copy-2.field-0 ∷ []) first ∙ ap (λ (d : Clause). c.args.c.now ∷ d ∷ []) (c.in_ok-copy-2.ensures ∙ e) in
    told_none c.push-2.new.self (c.args.c.now ∷ own ∷ []) pairs c.in-Some.s c.in_ok-told.field-0
    (record { apart_so = parents ∙ sym (apart_two c.args.c.now own); mgu = mgu; parts = c.in_ok-told.ensures.parts; limits = c.in_ok-told.ensures.limits }) c.in-None-2.is
