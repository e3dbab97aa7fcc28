use denote.Ref.{Bor}
use Rattle.std.proofs.Common.{◌∷◌, [], arith}
use Rattle.std.proofs.lemmas.Bool.Decides.{nat_tests}
use Rattle.std.proofs.lemmas.List.{map-append}
use Rattle.std.specs.declared.ops.RangeInclusive.{RangeInclusive}
use Rattle.rsb_integer.specs.Rank.{interval_of, intervals_of}
use Rattle.rsb_integer.proofs.lemmas.Members.{members-append, members-cons}
use Rattle.range_set_blaze.specs.Algebra.{AddsItems}
use Rattle.range_set_blaze.specs.Lent.{pointed_to}
use Rattle.rsb_many.proofs.lemmas.inputs.HandedIn.{ended-run}
use Rattle.range_set_blaze.proofs.set.collect.by_reference.RangeSetBlazeExtendRefRangeInclusive.extend.Goals as goal

-- The ranges added so far are those before this one, and this one.
pub loop-range-preserved : goal.loop-range-preserved
loop-range-preserved g c = record {
  adds = λ point.
      let rank = g.T.Integer.rank in
      let range = c.in-Some.range.now in
      let front = pointed_to c.loop-range.yielded in
      let run = interval_of rank range in
      let before = c.loop-range.invariant.adds point in
      let added = c.in_ok-add_range.ensures.members point in
      let same = c.range_like.ensures point in
      let both = members-append (intervals_of rank front) (run ∷ []) point in
      let one = members-cons run [] point in
      rw (
        map-append (λ (item : Bor (RangeInclusive g.row.T.Denot)). item.now) c.loop-range.yielded
            (c.in-Some.range ∷ []),
        map-append (interval_of rank) front (range ∷ []),
      )
      (grind (arith, nat_tests, before, added, same, both, one));
}

-- The ranges that were added are those that the calls gave by reference.
pub returns-clause-runs : goal.returns-clause-runs
returns-clause-runs g c =
    ended-run g.J.IntoIterator.into_iter_gives g.J.IntoIter.Iterator.next_gives c.args.ranges
    (λ items. AddsItems g.T.Integer.rank c.args.self.now (pointed_to items) c.loop-range.self)
    c.into_iter-range-iterator.result c.loop-range.range-iterator c.next.new.self c.loop-range.yielded
    c.into_iter-range-iterator.ensures.into_iter_gives c.loop-range.yielded_by c.in-None.ensures.steps
    c.loop-range.invariant
