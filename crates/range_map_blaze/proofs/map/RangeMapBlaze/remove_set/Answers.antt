use Rattle.std.proofs.Common.{◌∙◌, ◌++◌, ◌∷◌, [], append_assoc, ap, sym}
use Rattle.rsb_integer.specs.Rank.{interval_of, intervals_of}
use Rattle.range_map_blaze.specs.Map.{value_at}
use Rattle.range_map_blaze.proofs.lemmas.Keys.{without-run}
use Rattle.range_map_blaze.proofs.map.RangeMapBlaze.remove_set.Goals as goal

-- One more run was removed.
pub loop-range-preserved : goal.loop-range-preserved
loop-range-preserved g c =
    let rank = g.T.Integer.rank in
    let run = interval_of rank c.in-Some.range in
    let done = c.loop-range.invariant.0 in (
      done ++ run ∷ [],
      append_assoc done (run ∷ []) (intervals_of rank c.next.new.self)
          ∙ ap (λ items. done ++ intervals_of rank items) (sym c.in-Some.ensures.steps)
          ∙ c.loop-range.invariant.1,
      without-run (value_at c.args.self.now) (value_at c.loop-range.self)
          (value_at c.remove_range.new.self) done run c.loop-range.invariant.2
          c.in_ok-remove_range.ensures.values,
    )
