use Rattle.std.proofs.Common.{take}
use Rattle.rsb_range_text.specs.Reading.{HasRead}
use Rattle.rsb_range_text.proofs.ranges.spelled_ranges.Given as goal

-- The bytes read so far spell the ranges and lead to the place.
abbrev pub invariant-loop-at : goal.invariant-loop-at
invariant-loop-at g l = HasRead g.T.ParseInteger.number g.T.ParseInteger.fits (take l.at l.text)
    l.ranges.items l.place
