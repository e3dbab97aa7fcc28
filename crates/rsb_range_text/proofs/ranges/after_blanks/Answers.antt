use Rattle.std.proofs.Common.{false}
use Rattle.rsb_range_text.specs.declared.ranges.Place.TheVariants.{Before, Signed}
use Rattle.rsb_range_text.proofs.lemmas.Places.{before-plus, before-minus, before-bare, leads-back}
use Rattle.rsb_range_text.proofs.ranges.after_blanks.Goals as goal

pub returns-then-byte-eq43 : goal.returns-then-byte-eq43
returns-then-byte-eq43 g c = before-plus g.T.ParseInteger.number g.T.ParseInteger.fits c.args.start c.args.byte c.if-byte-eq43.true

pub returns-then-byte-eq45 : goal.returns-then-byte-eq45
returns-then-byte-eq45 g c = before-minus g.T.ParseInteger.number g.T.ParseInteger.fits c.args.start c.args.byte c.if-byte-eq45.true

-- A byte that is not a sign starts the digits.
pub returns : goal.returns
returns g c = leads-back g.T.ParseInteger.number g.T.ParseInteger.fits (Before c.args.start) (Signed c.args.start false) c.args.byte
    c.after_sign.result (before-bare g.T.ParseInteger.number g.T.ParseInteger.fits c.args.start c.args.byte c.requires c.if-byte-eq43.false
    c.if-byte-eq45.false) c.after_sign.ensures
