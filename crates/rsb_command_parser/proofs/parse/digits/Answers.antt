use Rattle.std.proofs.Common.{◌^◌, ◌<◌, arith, get_or, refl}
use Rattle.std.specs.Str.Parse.{digits_value}
use Rattle.rsb_command_parser.proofs.lemmas.reading.Numbers.{has_digits_more, no_digits, too_large}
use Rattle.rsb_command_parser.proofs.parse.digits.Goals as goal

-- This byte is not a digit.
pub returns-in_err-value_of : goal.returns-in_err-value_of
returns-in_err-value_of c =
    let ds = c.args.digits.now in
    let at = c.loop-digit.digit-index in
    rw c.from_residual.ensures (no_digits ds at (get_or ds at 0) (digits_value 10 ds < 2 ^ 32)
    c.loop-digit-test.true refl c.in_err-value_of.ensures)

-- There is one more digit.
pub loop-digit-preserved : goal.loop-digit-preserved
loop-digit-preserved c =
    let ds = c.args.digits.now in
    let at = c.loop-digit.digit-index in
    let digit = c.in_ok-value_of.ensures in (
      has_digits_more ds at c.loop-digit.value _ (get_or ds at 0) c.loop-digit-test.true
          c.loop-digit.invariant.0 refl digit.0 (omega (arith, digit.1)),
      omega arith,
    )

-- With this digit, the number is too large.
pub returns-then-next-from : goal.returns-then-next-from
returns-then-next-from c =
    let ds = c.args.digits.now in
    let at = c.loop-digit.digit-index in
    let digit = c.in_ok-value_of.ensures in
    too_large ds at c.loop-digit.value (get_or ds at 0) (2 ^ 32) c.loop-digit-test.true
    c.loop-digit.invariant.0 refl (omega (arith, digit.1))
