use Rattle.std.proofs.Common.{rules, ◌≡◌, ◌⊎◌, subst, ℕ, List}
use Rattle.sc_top_words.specs.declared.commands.Command.TheVariants.{Model}
use Rattle.sc_top.specs.declared.answer.Answer.TheVariants.{OutOfMemory}
use Rattle.sc_top.specs.Sought.{IsModelAnswer}
use Rattle.sc_top.proofs.ToldLaws.{stands_read}
use Rattle.sc_top.proofs.judge_by_workers.Goals as goal

pub returns-in-Ok-clause-stands : goal.returns-in-Ok-clause-stands
returns-in-Ok-clause-stands g c =
    let e : c.deref.result.now ≡ c.in-Ok.bytes.items = search rules in
    stands_read (Model c.args.size c.args.upto c.args.nodes c.args.count) (g.S.Source.left c.args.source.now) c.in-Ok.bytes.items _ _ c.model_bytes.result (λ h. h) c.in-Ok.ensures.all
    (subst (λ (bytes : List ℕ). IsModelAnswer c.args.size c.args.upto c.args.nodes bytes c.model_bytes.result ⊎ (c.model_bytes.result ≡ OutOfMemory)) e c.model_bytes.ensures.decided)
