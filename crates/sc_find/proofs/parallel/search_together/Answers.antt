use Rattle.std.proofs.Common.{rules, ◌≡◌, ◌+◌, sym, subst, length, arith}
use Rattle.sc_find.specs.Pieces.{ArePieces, IsDecidedFrom}
use Rattle.sc_find.proofs.parallel.search_together.Goals as goal

pub returns : goal.returns
returns g c = subst (λ n. IsDecidedFrom c.args.job.now c.args.budget c.args.from (c.args.from + n) c.in_ok-decide.field-0) count
    (c.in_ok-decide.ensures c.args.job.now c.args.budget (subst (λ n. ArePieces c.args.job.now c.args.from n) (sym count) c.requires.pieces)
    (λ i other less. (c.in_ok-answers.ensures.each i other (omega (arith, less, count))).1.met))
  where
    count : length c.in_ok-answers.answers.items ≡ c.args.count
    count = search rules
