use Rattle.std.proofs.Common.{◌≡◌, ◌∙◌, sym, ◌+◌, take}
use Rattle.std.specs.Prelude.{Option, Some, None, Result, Ok, IfSome}
use Rattle.sc_term.specs.declared.memory.OutOfMemory.{OutOfMemory}
use Rattle.sc_input_rules.specs.declared.fault.Place.{Place}
use Rattle.sc_text_limits.proofs.Going.{one_taken, taken_in, starts_before, told_before, told_behind, goes_on, starts_anew}
use Rattle.sc_text_limits.proofs.reached.Reached.step.Goals as goal

ok_of : (a b : Option Place) → ◌≡◌ {A = Result (Option Place) OutOfMemory} (Ok a) (Ok b) → a ≡ b
ok_of a b e = cc

passes : (front : Option Place) (told : Option Place) → front ≡ told → IfSome told (λ p. front ≡ Some p)
passes front (Some p) e = e
passes front None e = tt

pub returns-in-Some-clause-passes : goal.returns-in-Some-clause-passes
returns-in-Some-clause-passes c =
    let tokens = c.args.tokens.now in
    let at = c.args.at in
    let t = c.index-tokens-at.result in
    let h = c.requires.behind in
    told_before c.args.sig.now tokens (take (at + 1) tokens) at t c.args.self.now c.fault_before.result c.in-Some.place h (one_taken tokens at t c.requires.within c.index-tokens-at.is)
    (c.fault_before.ensures _ _ h.within.stands h.within.kept) c.in-Some.is

pub between-formula-requires-clause-ordered : goal.between-formula-requires-clause-ordered
between-formula-requires-clause-ordered c =
    let tokens = c.args.tokens.now in
    let at = c.args.at in
    let t = c.index-tokens-at.result in
    let new = c.advance.new.self in
    starts_before tokens _ at t new c.requires.within (taken_in c.args.sig.now tokens at t c.args.self.now new c.requires.within c.index-tokens-at.is c.requires.behind c.in_ok-advance.ensures)

pub returns-then-is_sign-clause-goes_on : goal.returns-then-is_sign-clause-goes_on
returns-then-is_sign-clause-goes_on c = λ none.
    let symbols = c.args.sig.now in
    let tokens = c.args.tokens.now in
    let at = c.args.at in
    let t = c.index-tokens-at.result in
    let h = c.requires.behind in
    let new = c.advance.new.self in
    let one = one_taken tokens at t c.requires.within c.index-tokens-at.is in
    let within = taken_in symbols tokens at t c.args.self.now new c.requires.within c.index-tokens-at.is h c.in_ok-advance.ensures in
    starts_anew symbols tokens at t c.new.result c.requires.within one (sym c.is_sign.ensures ∙ c.if-is_sign.true) (c.new.ensures.kept tokens) c.new.ensures.start c.new.ensures.weight c.new.ensures.around
    (told_behind symbols tokens (take (at + 1) tokens) at t c.args.self.now new c.between-formula.result.now c.fault_before.result c.fault_in_formula-told.result h one
    (c.fault_before.ensures _ _ h.within.stands h.within.kept) c.in_default.is within c.between-formula.ensures c.fault_in_formula-told.ensures
    ∙ ok_of c.fault_in_formula-told.result None none)

pub returns-then-is_sign-clause-passes : goal.returns-then-is_sign-clause-passes
returns-then-is_sign-clause-passes c =
    let symbols = c.args.sig.now in
    let tokens = c.args.tokens.now in
    let at = c.args.at in
    let t = c.index-tokens-at.result in
    let h = c.requires.behind in
    let new = c.advance.new.self in
    let within = taken_in symbols tokens at t c.args.self.now new c.requires.within c.index-tokens-at.is h c.in_ok-advance.ensures in
    passes _ c.fault_in_formula-told.result
    (told_behind symbols tokens (take (at + 1) tokens) at t c.args.self.now new c.between-formula.result.now c.fault_before.result c.fault_in_formula-told.result h (one_taken tokens at t c.requires.within c.index-tokens-at.is)
    (c.fault_before.ensures _ _ h.within.stands h.within.kept) c.in_default.is within c.between-formula.ensures c.fault_in_formula-told.ensures)

pub returns-else-is_sign-clause-goes_on : goal.returns-else-is_sign-clause-goes_on
returns-else-is_sign-clause-goes_on c = λ none.
    let symbols = c.args.sig.now in
    let tokens = c.args.tokens.now in
    let at = c.args.at in
    let t = c.index-tokens-at.result in
    let h = c.requires.behind in
    let new = c.advance.new.self in
    let one = one_taken tokens at t c.requires.within c.index-tokens-at.is in
    let within = taken_in symbols tokens at t c.args.self.now new c.requires.within c.index-tokens-at.is h c.in_ok-advance.ensures in
    goes_on symbols tokens at t new one (sym c.is_sign.ensures ∙ c.if-is_sign.false) within
    (told_behind symbols tokens (take (at + 1) tokens) at t c.args.self.now new c.between-formula.result.now c.fault_before.result c.fault_in_formula-told.result h one
    (c.fault_before.ensures _ _ h.within.stands h.within.kept) c.in_default.is within c.between-formula.ensures c.fault_in_formula-told.ensures
    ∙ ok_of c.fault_in_formula-told.result None none)

pub returns-else-is_sign-clause-passes : goal.returns-else-is_sign-clause-passes
returns-else-is_sign-clause-passes c =
    let symbols = c.args.sig.now in
    let tokens = c.args.tokens.now in
    let at = c.args.at in
    let t = c.index-tokens-at.result in
    let h = c.requires.behind in
    let new = c.advance.new.self in
    let within = taken_in symbols tokens at t c.args.self.now new c.requires.within c.index-tokens-at.is h c.in_ok-advance.ensures in
    passes _ c.fault_in_formula-told.result
    (told_behind symbols tokens (take (at + 1) tokens) at t c.args.self.now new c.between-formula.result.now c.fault_before.result c.fault_in_formula-told.result h (one_taken tokens at t c.requires.within c.index-tokens-at.is)
    (c.fault_before.ensures _ _ h.within.stands h.within.kept) c.in_default.is within c.between-formula.ensures c.fault_in_formula-told.ensures)
