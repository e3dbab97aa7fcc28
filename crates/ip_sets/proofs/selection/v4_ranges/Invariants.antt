-- The streams of the lists so far are ready, and give the runs of their sets.
use Rattle.std.proofs.Common.{ℕ, ◌^◌, All, map, take}
use Rattle.range_set_blaze.specs.Rank.{intervals_of}
use Rattle.range_set_blaze.specs.Runs.{IsCanonicalIn}
use Rattle.rsb_streams.specs.Listed.{listed_may_give}
use Rattle.ip_sets.specs.Selection.{GiveEach}
use Rattle.ip_sets.proofs.selection.v4_ranges.Given as goal

abbrev pub invariant-loop-list : goal.invariant-loop-list
invariant-loop-list g l =
    let rank = λ (address : ℕ). address in
    All (λ ranges. IsCanonicalIn (2 ^ 32) (intervals_of rank ranges)) l.streams.items
    × GiveEach (listed_may_give rank (λ ranges. ranges)) l.streams.items
    (map (λ list. list.v4) (take l.list-index l.lists))
