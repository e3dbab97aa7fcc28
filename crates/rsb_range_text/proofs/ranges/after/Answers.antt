use Rattle.std.proofs.Common.{None, sym, ◌∙◌}
use Rattle.rsb_range_text.specs.declared.ranges.Place.TheVariants.{Before, Start}
use Rattle.rsb_range_text.proofs.lemmas.Places.{leads-back, start-full}
use Rattle.rsb_range_text.proofs.ranges.after.Goals as goal

-- At the start of a text, a byte that is not blank leads where it would lead before a number.
pub returns-else-is_blank : goal.returns-else-is_blank
returns-else-is_blank g c = rw c.in-Start.is (leads-back g.T.ParseInteger.number g.T.ParseInteger.fits Start (Before None) c.args.byte c.after_blanks.result
    (start-full g.T.ParseInteger.number g.T.ParseInteger.fits c.args.byte (sym c.is_blank.ensures ∙ c.if-is_blank.false))
    c.after_blanks.ensures)
