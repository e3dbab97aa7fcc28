use Rattle.std.proofs.Common.{sym, ◌∙◌}
use Rattle.rsb_range_text.proofs.lemmas.Places.{behind-blank, behind-dot, behind-none, behind-third}
use Rattle.rsb_range_text.proofs.ranges.after_number.Goals as goal

pub returns-then-is_blank : goal.returns-then-is_blank
returns-then-is_blank g c = behind-blank g.T.ParseInteger.number g.T.ParseInteger.fits c.args.start
    c.args.value c.args.byte c.requires (sym c.is_blank.ensures ∙ c.if-is_blank.true)

pub returns-then-byte-ne46 : goal.returns-then-byte-ne46
returns-then-byte-ne46 g c = behind-none g.T.ParseInteger.number g.T.ParseInteger.fits c.args.start
    c.args.value c.args.byte c.requires (sym c.is_blank.ensures ∙ c.if-is_blank.false)
    c.if-byte-ne46.true

pub returns-in-None : goal.returns-in-None
returns-in-None g c = rw c.in-None.is (behind-dot g.T.ParseInteger.number g.T.ParseInteger.fits
    c.args.value c.args.byte c.if-byte-ne46.false)

pub returns-in-Some : goal.returns-in-Some
returns-in-Some g c = rw c.in-Some.is (behind-third g.T.ParseInteger.number g.T.ParseInteger.fits
    _ c.args.value c.args.byte c.requires (sym c.is_blank.ensures ∙ c.if-is_blank.false))
