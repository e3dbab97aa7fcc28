use Rattle.std.proofs.Common.{subst}
use Rattle.range_set_blaze.specs.Runs.{IsCanonicalIn}
use Rattle.range_set_blaze.proofs.Rewritten.{text-is}
use Rattle.test_set_queries.proofs.set.texts.reread.Goals as goal

-- The text that was written is the text of the runs.
pub returns : goal.returns
returns g c =
    let n = g.T.Integer.value_count in
    c.in_ok-read.ensures.written c.args.set.now
    (subst (IsCanonicalIn n) c.ranges-2.ensures.ranges c.ranges-2.ensures.ready)
    (rw c.as_str.ensures.value
    (text-is g.T.Integer.rank n g.T.Integer.value_at g.T.ParseInteger.number g.T.ParseInteger.fits
    g.T.Debug.debug_output g.met.T.ParseInteger.numbers c.args.set.now _ c.in_ok-text.ensures.ok))
