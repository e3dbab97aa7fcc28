use Rattle.rsb_range_text.proofs.lemmas.Places.{behind-finishes, digits-finishes}
use Rattle.rsb_range_text.proofs.ranges.finished.Goals as goal

pub returns-in-Digits : goal.returns-in-Digits
returns-in-Digits g c = rw (c.in-Digits.is, c.range_to.ensures)
    (digits-finishes g.T.ParseInteger.number g.T.ParseInteger.fits c.in-Digits.start _ c.in-Digits.value)

pub returns-in-Behind : goal.returns-in-Behind
returns-in-Behind g c = rw (c.in-Behind.is, c.range_to-in-Behind.ensures)
    (behind-finishes g.T.ParseInteger.number g.T.ParseInteger.fits c.in-Behind.start c.in-Behind.value)
