use Rattle.rsb_storage.specs.Storage.{run_of}
use Rattle.range_set_blaze.proofs.lemmas.removal.Meeting.{last-before, none-meets}
use Rattle.rsb_storage.proofs.lemmas.runs.Storage.{lt-fails}
use Rattle.range_set_blaze.proofs.set.remove_ranges.last_meeting.Goals as goal

-- If no run starts at or before the end of the range, none meets it.
pub returns-in_err-run : goal.returns-in_err-run
returns-in_err-run g c =
    rw c.from_residual.ensures (none-meets _ _ c.requires.canonical
    (run_of g.T.Integer.rank c.args.window) c.in_err-run.ensures)

-- If the last of those runs ends before the range, none meets it.
pub returns-then-ends_before : goal.returns-then-ends_before
returns-then-ends_before g c =
    last-before _ _ c.requires.canonical (run_of g.T.Integer.rank c.args.window) _
    c.in_ok-run.ensures (c.ends_before.ensures.0 c.if-ends_before.true)

-- Otherwise that run has a value of the range.
pub returns : goal.returns
returns g c = record {
  last = c.in_ok-run.ensures;
  reaches = lt-fails c.ends_before.result _ _ c.ends_before.ensures c.if-ends_before.false;
}
