use Rattle.std.specs.declared.ops.RangeInclusive.{RangeInclusive}
use Rattle.std.proofs.Common.{ℕ, ◌+◌, ◌^◌, ◌∙◌, All, List, [], ◌∷◌, ◌++◌, ap, get_or, map, subst, sym, take}
use Rattle.std.proofs.lemmas.List.{map_push, take_more}
use Rattle.std.proofs.lemmas.List.Elements.{All-push}
use Rattle.std.proofs.lemmas.Slice.Zip.{all_zipped_more}
use Rattle.range_set_blaze.specs.Rank.{intervals_of}
use Rattle.range_set_blaze.specs.Runs.{Interval, IsCanonicalIn}
use Rattle.rsb_streams.specs.Stream.{◌⊆◌, just}
use Rattle.ip_sets.specs.Selection.{GiveEach}
use Rattle.ip_sets.proofs.selection.v6_ranges.Goals as goal

-- The numbers of ranges.
abbrev given : List (RangeInclusive ℕ) → List Interval
given ranges = intervals_of (λ (address : ℕ). address) ranges

-- One more stream gives the runs of its set.
pub loop-list-preserved : goal.loop-list-preserved
loop-list-preserved g c =
    let before = c.loop-list.streams.items in
    let more = c.ranges-in-loop-list.result in
    let lists = c.args.lists.now in
    let at = c.loop-list.list-index in
    let sets = ap (map (λ list. list.v6)) (take_more lists at c.list-item.result c.loop-list-test.true)
    ∙ map_push (λ list. list.v6) (take at lists) (get_or lists at c.list-item.result) in
    let items = c.in_ok-push.ensures.items in (
      subst (All (λ ranges. IsCanonicalIn (2 ^ 128) (given ranges))) (sym items)
          (All-push (λ ranges. IsCanonicalIn (2 ^ 128) (given ranges)) before more
          c.loop-list.invariant.0 c.ranges-in-loop-list.ensures.ready),
      subst (λ each. GiveEach (λ ranges. just (given ranges)) each
          (map (λ list. list.v6) (take (at + 1) lists))) (sym items)
          (subst (GiveEach (λ ranges. just (given ranges)) (before ++ more ∷ [])) (sym sets)
          (all_zipped_more (λ ranges runs. just (given ranges) ⊆ just runs) before
          (map (λ list. list.v6) (take at lists)) more (get_or lists at c.list-item.result).v6
          c.loop-list.invariant.1
          (λ runs is. is ∙ c.ranges-in-loop-list.ensures.ranges ∙ ap (λ list. list.v6) c.list-item.is))),
    )
