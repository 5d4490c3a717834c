use Rattle.std.proofs.Common.{rules, ◌≡◌, ◌∙◌, sym, ap, subst, ◌+◌, ◌++◌, ◌∷◌, [], length}
use Rattle.sc_find.specs.Models.{IsPiece}
use Rattle.sc_find.specs.Pieces.{IsAnswerIn, IsDecidedFrom}
use Rattle.sc_find.proofs.DecideLaws.{one_less, none_left}
use Rattle.sc_find.proofs.parallel.decide.Goals as goal

pub loop-answer-init : goal.loop-answer-init
loop-answer-init c = (c.requires, λ task budget pieces answers. record { pieces = pieces; answers = answers; decides = λ none. none })

pub overflow_cast-piece : goal.overflow_cast-piece
overflow_cast-piece c = search rules

pub overflow_add-piece : goal.overflow_add-piece
overflow_add-piece c = search rules

pub loop-answer-smaller : goal.loop-answer-smaller
loop-answer-smaller c = search rules

pub loop-answer-preserved : goal.loop-answer-preserved
loop-answer-preserved c = (
  search rules,
  λ task budget pieces answers.
      one_less task budget c.args.from (c.args.from + length c.args.answers.items) c.loop-answer.answers.items c.pop.new.self.items c.in_ok-answer.field-0 c.loop-answer.decided c.sooner-decided.result
      (c.in-Some.ensures.items ∙ ap (λ r. c.pop.new.self.items ++ r ∷ []) c.in_ok-answer.was)
      (c.loop-answer.invariant.1 task budget pieces answers)
      (λ value is answer later.
      subst (λ n. IsDecidedFrom task budget (c.args.from + n) (c.args.from + length c.args.answers.items) c.sooner-decided.result) count
      (c.sooner-decided.ensures task budget (c.args.from + length c.args.answers.items) value
      (subst (λ n. IsPiece task (c.args.from + n) value) (sym count) is)
      (subst (λ n. IsAnswerIn task budget (c.args.from + n) c.in_ok-answer.field-0) (sym count) answer)
      (subst (λ n. IsDecidedFrom task budget (c.args.from + n + 1) (c.args.from + length c.args.answers.items) c.loop-answer.decided) (sym count) later))),
)
  where
    count : c.len.result ≡ length c.pop.new.self.items
    count = search rules

pub returns : goal.returns
returns c task budget pieces answers none = none_left task budget c.args.from (c.args.from + length c.args.answers.items) c.loop-answer.answers.items c.loop-answer.decided (search rules) (c.loop-answer.invariant.1 task budget pieces answers) none
