use Rattle.std.proofs.Common.{ap, refl, subst}
use Rattle.rsb_integer.specs.Rank.{interval_of}
use Rattle.rsb_integer.specs.Runs.{covers, Interval}
use Rattle.range_map_blaze.specs.Map.{value_at, IsMapIn, IsPut}
use Rattle.range_map_blaze.specs.Storage.{pieces_in}
use Rattle.range_map_blaze.proofs.lemmas.RetainingRanges.{part-order, put-piece, ranges-all, ranges-next, skip-piece, IsKeepingRanges}
use Rattle.range_map_blaze.proofs.map.RangeMapBlaze.kept_ranges.Goals as goal

-- The range is kept if the closure returned true.
pub loop-range-preserved-in-Continue-branch-2 : goal.loop-range-preserved-in-Continue-branch-2
loop-range-preserved-in-Continue-branch-2 g c =
    let rank = g.T.Integer.rank in
    let n = g.T.Integer.value_count in
    let seen = g.V.MapValue.seen in
    let piece : Interval × g.row.V.Denot =
    (interval_of rank c.in-Some.range, seen c.in-Some.value.now) in
    let rest = pieces_in rank seen c.next.new.self in
    let before = subst (λ left. IsKeepingRanges rank n seen g.F.FnMut c.args.f c.args.self.now left
    c.loop-range.kept c.loop-range.f) (ap (pieces_in rank seen) c.in-Some.ensures.steps)
    c.loop-range.invariant.1 in
    let order = part-order n 0 before.done piece rest
    (subst (IsMapIn n) before.parts c.ranges_len.ensures.canonical) in
    let next = ranges-next rank n seen g.F.FnMut c.args.f c.args.self.now piece rest c.loop-range.kept
    c.loop-range.f before c.f.result c.put_pair.new.self c.f.new.self _ _ refl refl c.f.ensures
    (put-piece before.part c.loop-range.kept c.put_pair.new.self piece c.f.result before.puts c.if-f.true
    (subst (λ put. IsPut (value_at c.loop-range.kept) (covers piece.0) put (value_at c.put_pair.new.self))
    (g.met.V.MapValue.cloned _ _ c.in_ok-copy.ensures.cases) c.in_ok-put_pair.ensures.put))
    order.0 order.1 in (next.callable, next)

-- Otherwise it is left out.
pub loop-range-preserved : goal.loop-range-preserved
loop-range-preserved g c =
    let rank = g.T.Integer.rank in
    let n = g.T.Integer.value_count in
    let seen = g.V.MapValue.seen in
    let piece : Interval × g.row.V.Denot =
    (interval_of rank c.in-Some.range, seen c.in-Some.value.now) in
    let rest = pieces_in rank seen c.next.new.self in
    let before = subst (λ left. IsKeepingRanges rank n seen g.F.FnMut c.args.f c.args.self.now left
    c.loop-range.kept c.loop-range.f) (ap (pieces_in rank seen) c.in-Some.ensures.steps)
    c.loop-range.invariant.1 in
    let order = part-order n 0 before.done piece rest
    (subst (IsMapIn n) before.parts c.ranges_len.ensures.canonical) in
    let next = ranges-next rank n seen g.F.FnMut c.args.f c.args.self.now piece rest c.loop-range.kept
    c.loop-range.f before c.f.result c.loop-range.kept c.f.new.self _ _ refl refl c.f.ensures
    (skip-piece before.part c.loop-range.kept c.loop-range.kept piece c.f.result before.puts c.if-f.false)
    order.0 order.1 in (next.callable, next)

-- In the end, the map has the ranges that were kept.
pub returns-clause-within : goal.returns-clause-within
returns-clause-within g c =
    let rank = g.T.Integer.rank in
    let n = g.T.Integer.value_count in
    let seen = g.V.MapValue.seen in
    (ranges-all rank n seen g.F.FnMut c.args.f c.args.self.now c.loop-range.kept c.loop-range.f
    c.ranges_len.ensures.canonical c.ranges_len-2.ensures.canonical
    (subst (λ left. IsKeepingRanges rank n seen g.F.FnMut c.args.f c.args.self.now left c.loop-range.kept
    c.loop-range.f) (ap (pieces_in rank seen) c.in-None.ensures.steps.0) c.loop-range.invariant.1)).0

pub returns-clause-exact : goal.returns-clause-exact
returns-clause-exact g c =
    let rank = g.T.Integer.rank in
    let n = g.T.Integer.value_count in
    let seen = g.V.MapValue.seen in
    (ranges-all rank n seen g.F.FnMut c.args.f c.args.self.now c.loop-range.kept c.loop-range.f
    c.ranges_len.ensures.canonical c.ranges_len-2.ensures.canonical
    (subst (λ left. IsKeepingRanges rank n seen g.F.FnMut c.args.f c.args.self.now left c.loop-range.kept
    c.loop-range.f) (ap (pieces_in rank seen) c.in-None.ensures.steps.0) c.loop-range.invariant.1)).1
