use Rattle.std.proofs.Common.{◌<◌, OnOk, refl, subst}
use Rattle.rsb_storage.specs.Storage.{run_of}
use Rattle.range_set_blaze.specs.RemoveRanges.{IsNarrowed}
use Rattle.range_set_blaze.proofs.lemmas.removal.Meeting.{meeting-ends, outside-then}
use Rattle.range_set_blaze.proofs.set.remove_ranges.remove_others.Goals as goal

-- At first nothing is removed.
pub loop-run-init : goal.loop-run-init
loop-run-init g c = record {
  kept = c.requires.kept;
  outside = λ rank beyond. refl;
  ends = c.requires.ends;
}

-- No run extends past the range, so this does not allocate.
pub unwrap-requires : goal.unwrap-requires
unwrap-requires g c =
    let before = c.loop-run.invariant in
    c.remove_common.ensures.succeeds
    (meeting-ends _ _ before.kept.canonical (run_of g.T.Integer.rank c.args.window) _
    c.requires.order c.in-Some.ensures before.ends)

-- What the next run and the range have in common is removed.
pub loop-run-preserved : goal.loop-run-preserved
loop-run-preserved g c =
    let rank = g.T.Integer.rank in
    let before = c.loop-run.invariant in
    let range = run_of rank c.args.window in
    let after = subst (λ result. OnOk result (IsNarrowed g.T.Integer.value_count range
    c.loop-run.runs c.remove_common.new.runs
    (g.T.SafeLen.SafeLength.number c.remove_common.new.length))) c.unwrap.ensures
    c.remove_common.ensures.narrowed in
    record {
      kept = after.kept;
      outside = outside-then range c.args.runs.now
          c.loop-run.runs c.remove_common.new.runs
          before.outside after.outside;
      ends = after.ends;
    }

pub loop-run-smaller : goal.loop-run-smaller
loop-run-smaller g c =
    let number = g.T.SafeLen.SafeLength.number in
    subst (λ result. OnOk result (number c.remove_common.new.length < number c.loop-run.length))
    c.unwrap.ensures c.remove_common.ensures.fewer
