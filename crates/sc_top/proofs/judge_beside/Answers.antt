use Rattle.std.proofs.Common.{rules, ◌≡◌, ◌⊎◌, subst, ℕ, List}
use Rattle.sc_top_words.specs.declared.commands.Command.TheVariants.{Prove}
use Rattle.sc_top.specs.declared.answer.Answer.TheVariants.{OutOfMemory}
use Rattle.sc_top.specs.Runs.{IsProveAnswer}
use Rattle.sc_top.proofs.ToldLaws.{stands_read}
use Rattle.sc_top.proofs.judge_beside.Goals as goal

pub returns-in-Ok-clause-stands : goal.returns-in-Ok-clause-stands
returns-in-Ok-clause-stands g c =
    let e : c.deref.result.now ≡ c.in-Ok.bytes.items = search rules in
    stands_read (Prove c.args.plan.now) (g.S.Source.left c.args.source.now) c.in-Ok.bytes.items _ _ c.prove_bytes_beside.result (λ h. h) c.in-Ok.ensures.all
    (subst (λ (bytes : List ℕ). IsProveAnswer c.args.plan.now bytes c.prove_bytes_beside.result ⊎ (c.prove_bytes_beside.result ≡ OutOfMemory)) e c.prove_bytes_beside.ensures.decided)
