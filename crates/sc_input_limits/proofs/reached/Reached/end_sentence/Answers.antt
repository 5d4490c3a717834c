use Rattle.std.proofs.Common.{◌≡◌, ◌∙◌, sym, ap, subst, refl, Bool, true, false, [], ◌∷◌}
use Rattle.std.specs.Prelude.{Option, Some, None, Result, Ok, Err, IfOk, if◌then◌else◌}
use Rattle.sc_input_rules.specs.declared.settings.Home.{Home}
use Rattle.sc_input_rules.specs.Position.{closes, opened}
use Rattle.sc_input_limits.specs.Positions.{clause_ended, next_home}
use Rattle.sc_input_rules.specs.declared.fault.Place.{Place}
use Rattle.sc_term.specs.declared.memory.OutOfMemory.{OutOfMemory}
use Rattle.sc_input_rules.specs.Position.{Position}
use Rattle.sc_input_limits.specs.Reached.{Reaches}
use Rattle.sc_input_limits.proofs.Places.{nothing_ended, stop_behind_clause}
use Rattle.sc_input_limits.proofs.reached.Reached.end_sentence.Goals as goal

pub returns-in-None-clause-reaches : goal.returns-in-None-clause-reaches
returns-in-None-clause-reaches c = λ p h e.
    let none : p.home ≡ None = sym h.home ∙ c.in-None.is in
    nothing_ended p c.args.self.now _ h (ap (λ (o : Option Home). clause_ended o p.sentence) none)
    (c.opened-self.ensures ∙ ap opened (sym e) ∙ sym (ap (λ (o : Option Home). next_home o p.sentence) none)) refl refl refl

pub returns-then-closes-clause-reaches : goal.returns-then-closes-clause-reaches
returns-then-closes-clause-reaches c = λ p h e.
    let some : p.home ≡ Some c.in-Some.home = sym h.home ∙ c.in-Some.is in
    let ends : closes p.sentence ≡ true = ap closes e ∙ sym c.closes.ensures ∙ c.if-closes.true in
    nothing_ended p c.args.self.now _ h
    (ap (λ (o : Option Home). clause_ended o p.sentence) some ∙ ap (λ (b : Bool). elim b [ true ↦ [] | false ↦ (c.in-Some.home, p.sentence) ∷ [] ]) ends)
    (sym (ap (λ (o : Option Home). next_home o p.sentence) some ∙ ap (λ (b : Bool). if b then None else Some c.in-Some.home) ends)) refl refl refl

if_ok : (P Q : Option Place → Type 0) (r : Result (Option Place) OutOfMemory) → ((told : Option Place) → P told → Q told) → IfOk r P → IfOk r Q
if_ok P Q (Ok told) f h = f told h
if_ok P Q (Err e) f h = h

pub returns-else-closes-clause-reaches : goal.returns-else-closes-clause-reaches
returns-else-closes-clause-reaches c =
    let new = c.end_clause.new.self in
    let s = c.args.sentence.now in
    if_ok _ _ c.end_clause.result (λ told k p h e.
    let some : p.home ≡ Some c.in-Some.home = sym h.home ∙ c.in-Some.is in
    let P : Position → Type 0 = λ q. Reaches q new told in
    subst P (sym (stop_behind_clause p c.in-Some.home s some e (sym c.closes.ensures ∙ c.if-closes.false))) (k p h some)) c.end_clause.ensures.reaches
