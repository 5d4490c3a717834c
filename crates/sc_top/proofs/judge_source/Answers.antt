use Rattle.std.proofs.Common.{rules, ◌≡◌, ◌⊎◌, subst, ℕ, List}
use Rattle.sc_top.specs.declared.answer.Answer.TheVariants.{OutOfMemory}
use Rattle.sc_top.specs.Told.{IsAnswerBy}
use Rattle.sc_top.proofs.ToldLaws.{stands_read}
use Rattle.sc_top.proofs.judge_source.Goals as goal

pub returns-in-Ok-clause-stands : goal.returns-in-Ok-clause-stands
returns-in-Ok-clause-stands g c =
    let e : c.deref.result.now ≡ c.in-Ok.bytes.items = search rules in
    stands_read c.args.command (g.S.Source.left c.args.source.now) c.in-Ok.bytes.items _ _ c.answer_bytes.result c.requires.reads c.in-Ok.ensures.all
    (subst (λ (bytes : List ℕ). IsAnswerBy c.args.command bytes c.answer_bytes.result ⊎ (c.answer_bytes.result ≡ OutOfMemory)) e c.answer_bytes.ensures.decided)
