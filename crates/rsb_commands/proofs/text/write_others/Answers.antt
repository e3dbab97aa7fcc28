use Rattle.std.proofs.Common.{Ok, drop, suc, take}
use Rattle.std.specs.Prelude.{flat_map}
use Rattle.rsb_commands.specs.Text.{next_range_text}
use Rattle.rsb_commands.proofs.lemmas.writing.LaidText.{items_cut, items_push, lays-cut, lays-then}
use Rattle.rsb_commands.proofs.text.write_others.Goals as goal

-- A range was cut short.
pub returns-in_err-write_next_range : goal.returns-in_err-write_next_range
returns-in_err-write_next_range g c =
    let ranges = c.args.ranges.now in
    let at = c.loop-range.range-index in
    lays-cut _ _ _ _ _ _ (flat_map next_range_text (take at ranges)) _
    (flat_map next_range_text (drop (suc at) ranges)) _ c.from_residual.ensures.1
    (items_cut next_range_text ranges at _ c.loop-range-test.true) c.loop-range.invariant
    c.in_err-write_next_range.ensures

-- One more range was laid.
pub loop-range-preserved : goal.loop-range-preserved
loop-range-preserved g c =
    let ranges = c.args.ranges.now in
    let at = c.loop-range.range-index in
    lays-then _ _ _ _ (Ok tt) (flat_map next_range_text (take at ranges)) _ _
    (items_push next_range_text ranges at _ c.loop-range-test.true) c.loop-range.invariant
    c.in_ok-write_next_range.ensures
