use Rattle.std.proofs.Common.{◌≡◌, ◌≢◌, ◌∙◌, sym, ap, subst, ◌+◌, ◌%◌, [], Some, map}
use Rattle.std.specs.List.{AllPairs}
use Rattle.sc_term.specs.declared.Numbered.{Numbered}
use Rattle.sc_input_rules.specs.declared.settings.Params.{Params}
use Rattle.sc_core_rules.specs.declared.row.Cause.TheVariants as cause
use Rattle.sc_core_rules.specs.Selection.{ratio}
use Rattle.sc_sos.specs.Waiting.{age_of, weight_of, IsAny, ComesFirst}
use Rattle.sc_core.specs.Choice.{weighed, HasFalse, IsLightestFalse}
use Rattle.sc_core.proofs.SelectLaws.{matched, by_age, by_weight_alone, by_falsehood, told_chosen}
use Rattle.sc_core.proofs.TurningLaws.{match_some, match_none}
use Rattle.sc_core.proofs.WaitingLaws.{back_pairs, few_wait}
use Rattle.sc_core.proofs.selecting.select.Goals as goal

pub waiting-requires-clause-apart : goal.waiting-requires-clause-apart
waiting-requires-clause-apart c =
    subst (AllPairs (λ (p q : Numbered). p.number ≢ q.number)) (sym (c.as_slice.ensures ∙ c.sos.ensures))
    (back_pairs c.args.book.now.book.usable c.args.book.now.book.sos (c.keeps.ensures.apart c.requires.whole))

pub waiting-requires-clause-few : goal.waiting-requires-clause-few
waiting-requires-clause-few c =
    few_wait c.args.book.now.problem c.args.book.now.book (c.keeps.ensures.apart c.requires.whole) (c.keeps.ensures.below c.requires.whole) c.requires.few
    c.as_slice.result.now (c.as_slice.ensures ∙ c.sos.ensures)

pub returns-then-turn-ratio-eq0-clause-selected : goal.returns-then-turn-ratio-eq0-clause-selected
returns-then-turn-ratio-eq0-clause-selected c =
    let problem = c.args.book.now.problem in
    let sos = c.args.book.now.book.sos in
    let guide = c.args.guide.now in
    let ws = c.in_ok-waiting.waiting.clauses in
    let same : ws ≡ map weighed sos = c.in_ok-waiting.ensures ∙ ap (map weighed) (c.as_slice.ensures ∙ c.sos.ensures) in
    let divides : c.args.turn % ratio problem ≡ 0 = ap (λ (p : Params). c.args.turn % (p.pick_given_ratio + 1)) (sym c.params-ratio.ensures) ∙ c.if-turn-ratio-eq0.true in
    told_chosen problem sos c.args.turn guide.name guide.version cause.Age c.oldest.result c.chosen-oldest.result c.chosen-oldest.ensures
    (by_age problem sos c.args.turn guide.name guide.version ws c.oldest.result same divides
    (matched c.oldest.result (ws ≡ []) (λ n. ComesFirst age_of IsAny ws n) c.oldest.ensures.some c.oldest.ensures.none))

pub returns-in-Some-clause-selected : goal.returns-in-Some-clause-selected
returns-in-Some-clause-selected c =
    let problem = c.args.book.now.problem in
    let sos = c.args.book.now.book.sos in
    let guide = c.args.guide.now in
    let never : c.args.turn % ratio problem ≢ 0 = λ e. c.if-turn-ratio-eq0.false (ap (λ (p : Params). c.args.turn % (p.pick_given_ratio + 1)) c.params-ratio.ensures ∙ e) in
    let found : IsLightestFalse problem sos guide.name guide.version c.in-Some.n =
    match_some c.in_ok-n.field-0 c.in-Some.n (¬ HasFalse sos guide.name guide.version) (λ n. IsLightestFalse problem sos guide.name guide.version n) c.in-Some.is c.in_ok-n.ensures.found in
    told_chosen problem sos c.args.turn guide.name guide.version cause.False (Some c.in-Some.n) c.chosen-lightest_false.result c.chosen-lightest_false.ensures
    (by_falsehood problem sos c.args.turn guide.name guide.version c.in-Some.n never found)

pub returns-clause-selected : goal.returns-clause-selected
returns-clause-selected c =
    let problem = c.args.book.now.problem in
    let sos = c.args.book.now.book.sos in
    let guide = c.args.guide.now in
    let ws = c.in_ok-waiting.waiting.clauses in
    let same : ws ≡ map weighed sos = c.in_ok-waiting.ensures ∙ ap (map weighed) (c.as_slice.ensures ∙ c.sos.ensures) in
    let never : c.args.turn % ratio problem ≢ 0 = λ e. c.if-turn-ratio-eq0.false (ap (λ (p : Params). c.args.turn % (p.pick_given_ratio + 1)) c.params-ratio.ensures ∙ e) in
    let none : ¬ HasFalse sos guide.name guide.version =
    match_none c.in_ok-n.field-0 (¬ HasFalse sos guide.name guide.version) (λ n. IsLightestFalse problem sos guide.name guide.version n) c.in-None.is c.in_ok-n.ensures.found in
    told_chosen problem sos c.args.turn guide.name guide.version cause.Weight c.lightest.result c.chosen-lightest.result c.chosen-lightest.ensures
    (by_weight_alone problem sos c.args.turn guide.name guide.version ws c.lightest.result same never none
    (matched c.lightest.result (ws ≡ []) (λ n. ComesFirst weight_of IsAny ws n) c.lightest.ensures.some c.lightest.ensures.none))
