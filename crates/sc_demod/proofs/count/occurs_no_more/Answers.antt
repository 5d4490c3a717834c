use Rattle.std.proofs.Common.{arith}
use Rattle.std.proofs.lemmas.Bool.{leb-true, le-leb}
use Rattle.sc_demod.proofs.CountLaws.{occurs_few}
use Rattle.sc_demod.proofs.count.occurs_no_more.Goals as goal

pub returns : goal.returns
returns c =
    let right = occurs_few c.args.right.now c.args.n c.requires.right in
    let left = occurs_few c.args.left.now c.args.n c.requires.left in (
      λ e. let h = leb-true c.occurrences.result c.occurrences-2.result e in omega (arith, right, left, c.occurrences.ensures, c.occurrences-2.ensures),
      λ h. le-leb c.occurrences.result c.occurrences-2.result (omega (arith, h, right, left, c.occurrences.ensures, c.occurrences-2.ensures)),
    )
