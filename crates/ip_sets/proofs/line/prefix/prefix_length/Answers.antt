use Rattle.std.proofs.Common.{◌≡◌, arith, get_or, length, sym}
use Rattle.ip_sets.proofs.lemmas.spelling.Lengths.{decimal_of_value, no_zero_first, value_of_decimal}
use Rattle.ip_sets.proofs.line.prefix.prefix_length.Goals as goal
use Rattle.ip_sets.proofs.line.prefix.prefix_length.Goals.{else-text-gt1-via-then-text-gt1+else-text-eq48, else-text-gt1-via-else-text-gt1}

pub returns-then-text-eq48 : goal.returns-then-text-eq48
returns-then-text-eq48 c = λ n h.
    no_zero_first c.args.text.now n c.if-text-gt1.true c.if-text-eq48.true (omega (arith, h.1)) h.0

-- A number in decimal is made of digits.
pub returns-in_err-length : goal.returns-in_err-length
returns-in_err-length c = rw c.from_residual.ensures (λ n h.
    let value = value_of_decimal c.args.text.now n (omega (arith, h.1)) h.0 in
    c.in_err-length.ensures (value.0, omega (arith, value.1, h.1)))

pub returns-then-length-most : goal.returns-then-length-most
returns-then-length-most c = λ n h.
    let value = value_of_decimal c.args.text.now n (omega (arith, h.1)) h.0 in
    omega (arith, value.1, h.1, c.in_ok-length.ensures.1)

pub returns : goal.returns
returns c =
    let text = c.args.text.now in
    let read = c.in_ok-length.ensures in
    let alone : get_or text 0 0 ≡ 48 → length text ≡ 1 = λ zero_first.
    elim c.else-text-gt1.branch [
      | else-text-gt1-via-then-text-gt1+else-text-eq48 w ↦ absurd (w.if-text-eq48.false zero_first)
      | else-text-gt1-via-else-text-gt1 w ↦ omega (arith, read.0.0.0)
    ] in (
      decimal_of_value text c.in_ok-length.length read.0.0 (sym read.1)
          (omega (arith, read.0.1, read.1)) alone,
      omega arith,
    )
