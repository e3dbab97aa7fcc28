use Rattle.std.proofs.Common.{refl}
use Rattle.rsb_range_text.proofs.lemmas.Places.{digits-ended, digits-found, digits-lacking, leads-back}
use Rattle.rsb_range_text.specs.declared.ranges.Place.TheVariants.{Behind, Digits}
use Rattle.rsb_range_text.proofs.ranges.after_digit.Goals as goal

-- A byte that is not a digit leads where it would lead after a blank that follows the number.
pub returns-in_default : goal.returns-in_default
returns-in_default g c = leads-back g.T.ParseInteger.number g.T.ParseInteger.fits (Digits c.args.start c.args.negative c.args.value)
    (Behind c.args.start c.args.value) c.args.byte c.after_number.result
    (digits-ended g.T.ParseInteger.number g.T.ParseInteger.fits c.args.start c.args.negative c.args.value c.args.byte c.in_default.ensures)
    c.after_number.ensures

-- A digit is unexpected if the number with that digit is not of the type.
pub returns-in_err-value : goal.returns-in_err-value
returns-in_err-value g c =
    let digit = c.in-Some.ensures in
    rw c.from_residual.ensures (digits-lacking g.T.ParseInteger.number g.T.ParseInteger.fits c.args.start c.args.negative c.args.value c.args.byte
    c.in-Some.digit c.requires digit.0 digit.1 (c.in_err-value.ensures.none refl))

-- Any other digit leads to the number with that digit.
pub returns : goal.returns
returns g c =
    let digit = c.in-Some.ensures in
    digits-found g.T.ParseInteger.number g.T.ParseInteger.fits g.met.T.ParseInteger.numbers.differ c.args.start c.args.negative
    c.args.value c.in_ok-value.value c.args.byte
    c.in-Some.digit c.requires digit.0 digit.1 c.in_ok-value.ensures.some
