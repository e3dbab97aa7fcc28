use Rattle.rsb_range_text.proofs.lemmas.Places.{signed-found}
use Rattle.rsb_range_text.proofs.ranges.after_sign.Goals as goal

-- The first digit leads to its number.
pub returns : goal.returns
returns g c =
    let digit = c.in_ok-digit.ensures in
    signed-found g.T.ParseInteger.number g.T.ParseInteger.fits g.met.T.ParseInteger.numbers.differ c.args.start c.args.negative c.args.byte
    c.in_ok-digit.digit c.zero_value.result
    c.in_ok-value.value digit.0 digit.1 c.zero_value.ensures c.in_ok-value.ensures.some
