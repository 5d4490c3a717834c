use Rattle.std.proofs.Common.{arith}
use Rattle.sc_term.specs.Term.{term_variables}
use Rattle.sc_term.proofs.SubstitutionLaws.{all_of}
use Rattle.sc_demod.specs.Counting.{OccursNoMore}
use Rattle.sc_demod.proofs.CountLaws.{each_variable}
use Rattle.sc_demod.proofs.becoming.are_decreasing.Goals as goal

pub returns : goal.returns
returns c =
    let left = c.args.left.now in
    let right = c.args.right.now in (
      λ e. record {
        compound = c.is_compound.ensures.0 c.if-not-is_compound.false;
        lighter = omega (arith, c.requires.left, c.requires.right);
        fewer = each_variable right left (c.each_no_more.ensures.0 e);
      },
      λ h. c.each_no_more.ensures.1 (all_of (OccursNoMore right left) h.fewer (term_variables right)),
    )
