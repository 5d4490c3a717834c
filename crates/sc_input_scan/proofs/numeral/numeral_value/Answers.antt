use Rattle.std.proofs.Common.{◌∙◌, arith}
use Rattle.sc_input_scan.proofs.DigitByDigit.{numeral-goes_on}
use Rattle.sc_input_scan.proofs.numeral.numeral_value.Goals as goal

pub loop-byte-preserved : goal.loop-byte-preserved
loop-byte-preserved c =
    let digit = c.in-Some.ensures in
    record {
      so_far = numeral-goes_on c.args.text.now c.loop-byte.byte-index c.loop-byte.value c.in-Some.digit c.saturating_add-value.result c.loop-byte-test.true digit.0 digit.1
          (omega (arith, c.saturating_mul.ensures, c.saturating_add-value.ensures)) ∙ c.loop-byte.invariant.so_far;
      within = omega (arith, c.saturating_add-value.ensures);
    }
