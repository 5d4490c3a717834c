use Rattle.std.proofs.Common.{◌≡◌, ◌∙◌, sym, ap, refl, ℕ, ◌+◌, Bool, true, false, take, drop}
use Rattle.std.specs.Prelude.{Option, None, Result, Ok, option_map}
use Rattle.sc_input_rules.specs.declared.fault.InputKind.TheVariants.{OutOfRange}
use Rattle.sc_input_rules.specs.Position.{position}
use Rattle.sc_input_rules.specs.Faults.{place}
use Rattle.sc_term.specs.declared.memory.OutOfMemory.{OutOfMemory}
use Rattle.sc_input_limits.proofs.Steps.{one_taken, so_many, stop_told, stop_kept, clause_told, clause_goes_on, number_behind, outside_told, outside_goes_on}
use Rattle.sc_input_limits.proofs.reached.Reached.step.Goals as goal

abbrev ok : Bool → Result Bool OutOfMemory
ok told = Ok told

told_of : (a b : Bool) → ok a ≡ ok b → a ≡ b
told_of a b e = cc

pub returns-then-is_within-clause-goes_on : goal.returns-then-is_within-clause-goes_on
returns-then-is_within-clause-goes_on c = λ none.
    let tokens = c.args.tokens.now in
    let at = c.args.at in
    let t = c.index-tokens-at.result in
    let clause = drop c.args.self.now.start (take (at + 1) tokens) in
    let taken = one_taken tokens at t c.requires.within c.index-tokens-at.is in
    clause_goes_on (take at tokens) (take (at + 1) tokens) t c.args.self.now c.add.new.self c.requires.behind taken (sym c.is_sign.ensures ∙ c.if-is_sign.false) (sym c.is_some.ensures ∙ c.if-is_some.true)
    c.in_ok-add.ensures.counted c.in_ok-add.ensures.weight c.in_ok-add.ensures.around
    (clause_told (take at tokens) (take (at + 1) tokens) t c.args.self.now c.add.new.self clause None c.requires.behind taken
    (sym c.is_sign.ensures ∙ c.if-is_sign.false) (sym c.is_some.ensures ∙ c.if-is_some.true) c.in_ok-add.ensures.counted refl (λ counted. sym (c.is_within.ensures clause counted c.if-is_within.true)))

pub returns-in_ok-told-clause-goes_on : goal.returns-in_ok-told-clause-goes_on
returns-in_ok-told-clause-goes_on c = λ none.
    let tokens = c.args.tokens.now in
    let at = c.args.at in
    let t = c.index-tokens-at.result in
    stop_kept (take at tokens) (take (at + 1) tokens) t at c.args.self.now c.end_sentence.new.self c.in_ok-told.told c.new.result c.requires.behind (one_taken tokens at t c.requires.within c.index-tokens-at.is) (so_many tokens at c.requires.within)
    (sym c.is_sign.ensures ∙ c.if-is_sign.true) (c.in_ok-told.ensures.reaches (position (take at tokens)) c.requires.behind.follows (c.requires.behind.sentence ∙ sym c.between.ensures)) c.in_ok-told.ensures.clauses
    c.new.ensures.counted c.new.ensures.weight c.new.ensures.around (c.is_told.ensures.none (told_of c.is_told.result false none))

pub returns-in_ok-told-clause-passes : goal.returns-in_ok-told-clause-passes
returns-in_ok-told-clause-passes c = λ some.
    let tokens = c.args.tokens.now in
    let at = c.args.at in
    let t = c.index-tokens-at.result in
    stop_told (take at tokens) (take (at + 1) tokens) t c.args.self.now c.end_sentence.new.self c.in_ok-told.told c.requires.behind (one_taken tokens at t c.requires.within c.index-tokens-at.is)
    (sym c.is_sign.ensures ∙ c.if-is_sign.true) (c.in_ok-told.ensures.reaches (position (take at tokens)) c.requires.behind.follows (c.requires.behind.sentence ∙ sym c.between.ensures))
    ∙ c.is_told.ensures.some (told_of c.is_told.result true some)

pub returns-else-is_within-clause-goes_on : goal.returns-else-is_within-clause-goes_on
returns-else-is_within-clause-goes_on c = λ none.
    let tokens = c.args.tokens.now in
    let at = c.args.at in
    let t = c.index-tokens-at.result in
    let taken = one_taken tokens at t c.requires.within c.index-tokens-at.is in
    clause_goes_on (take at tokens) (take (at + 1) tokens) t c.args.self.now c.add.new.self c.requires.behind taken (sym c.is_sign.ensures ∙ c.if-is_sign.false) (sym c.is_some.ensures ∙ c.if-is_some.true)
    c.in_ok-add.ensures.counted c.in_ok-add.ensures.weight c.in_ok-add.ensures.around
    (clause_told (take at tokens) (take (at + 1) tokens) t c.args.self.now c.add.new.self c.between-clause.result.now c.fault_in_clause.result c.requires.behind taken
    (sym c.is_sign.ensures ∙ c.if-is_sign.false) (sym c.is_some.ensures ∙ c.if-is_some.true) c.in_ok-add.ensures.counted c.between-clause.ensures c.fault_in_clause.ensures ∙ c.is_told-then-is_some.ensures.none (told_of c.is_told-then-is_some.result false none))

pub returns-else-is_within-clause-passes : goal.returns-else-is_within-clause-passes
returns-else-is_within-clause-passes c = λ some.
    let tokens = c.args.tokens.now in
    let at = c.args.at in
    let t = c.index-tokens-at.result in
    clause_told (take at tokens) (take (at + 1) tokens) t c.args.self.now c.add.new.self c.between-clause.result.now c.fault_in_clause.result c.requires.behind (one_taken tokens at t c.requires.within c.index-tokens-at.is)
    (sym c.is_sign.ensures ∙ c.if-is_sign.false) (sym c.is_some.ensures ∙ c.if-is_some.true) c.in_ok-add.ensures.counted c.between-clause.ensures c.fault_in_clause.ensures
    ∙ c.is_told-then-is_some.ensures.some (told_of c.is_told-then-is_some.result true some)

pub returns-else-is_some-clause-goes_on : goal.returns-else-is_some-clause-goes_on
returns-else-is_some-clause-goes_on c = λ none.
    let tokens = c.args.tokens.now in
    let at = c.args.at in
    let t = c.index-tokens-at.result in
    let taken = one_taken tokens at t c.requires.within c.index-tokens-at.is in
    let closed = sym c.is_some.ensures ∙ c.if-is_some.false in
    let item = c.between-item.result.now in
    let number = number_behind (take at tokens) (take (at + 1) tokens) t c.args.self.now item c.number_so_far-self.result c.requires.behind taken closed c.between-item.ensures c.number_so_far-self.ensures in
    outside_goes_on (take at tokens) (take (at + 1) tokens) t c.args.self.now item c.number_so_far-self.result c.requires.behind taken (sym c.is_sign.ensures ∙ c.if-is_sign.false) closed c.between-item.ensures number
    (outside_told (take at tokens) (take (at + 1) tokens) t c.args.self.now item c.told-outside.result c.requires.behind taken (sym c.is_sign.ensures ∙ c.if-is_sign.false) closed c.between-item.ensures
    (c.told-outside.ensures ∙ ap (λ (o : Option ℕ). option_map (λ n. place n OutOfRange) o) (c.out_of_range.ensures number)) ∙ c.is_told-else-is_some.ensures.none (told_of c.is_told-else-is_some.result false none))

pub returns-else-is_some-clause-passes : goal.returns-else-is_some-clause-passes
returns-else-is_some-clause-passes c = λ some.
    let tokens = c.args.tokens.now in
    let at = c.args.at in
    let t = c.index-tokens-at.result in
    let taken = one_taken tokens at t c.requires.within c.index-tokens-at.is in
    let closed = sym c.is_some.ensures ∙ c.if-is_some.false in
    let item = c.between-item.result.now in
    let number = number_behind (take at tokens) (take (at + 1) tokens) t c.args.self.now item c.number_so_far-self.result c.requires.behind taken closed c.between-item.ensures c.number_so_far-self.ensures in
    outside_told (take at tokens) (take (at + 1) tokens) t c.args.self.now item c.told-outside.result c.requires.behind taken (sym c.is_sign.ensures ∙ c.if-is_sign.false) closed c.between-item.ensures
    (c.told-outside.ensures ∙ ap (λ (o : Option ℕ). option_map (λ n. place n OutOfRange) o) (c.out_of_range.ensures number))
    ∙ c.is_told-else-is_some.ensures.some (told_of c.is_told-else-is_some.result true some)
