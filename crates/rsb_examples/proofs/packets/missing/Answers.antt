use Rattle.std.proofs.Common.{◌&&◌, ◌∙◌, ◌^◌, not, refl}
use Rattle.range_set_blaze.proofs.SetOperations.{set-of_operation}
use Rattle.rsb_examples.proofs.packets.missing.Goals as goal

-- The set is a list that the difference of two known lists may give.
pub returns : goal.returns
returns c =
    let sent = c.ranges-2.ensures in
    let acked = c.ranges-3.ensures in
    (set-of_operation (2 ^ 32) c.into_range_set_blaze.result _ c.into_range_set_blaze.ensures.runs
    c.args.sent.now c.args.acked.now (λ runs at. at ∙ sent.ranges) (λ runs at. at ∙ acked.ranges)
    sent.runs acked.runs (λ left right. left && not right) refl
    c.difference-unanswered.ensures.made.gives).0
