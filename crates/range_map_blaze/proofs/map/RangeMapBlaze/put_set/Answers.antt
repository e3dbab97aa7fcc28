use Rattle.std.proofs.Common.{◌∙◌, ◌++◌, ◌∷◌, [], append_assoc, ap, subst, sym}
use Rattle.rsb_integer.specs.Rank.{interval_of, intervals_of}
use Rattle.rsb_integer.specs.Runs.{covers}
use Rattle.range_map_blaze.specs.Map.{value_at, IsPut}
use Rattle.range_map_blaze.proofs.lemmas.Keys.{put-run}
use Rattle.range_map_blaze.proofs.map.RangeMapBlaze.put_set.Goals as goal

-- One more run was put.
pub loop-range-preserved : goal.loop-range-preserved
loop-range-preserved g c =
    let rank = g.T.Integer.rank in
    let seen = g.V.MapValue.seen in
    let run = interval_of rank c.in-Some.range in
    let done = c.loop-range.invariant.0 in (
      done ++ run ∷ [],
      append_assoc done (run ∷ []) (intervals_of rank c.next.new.self)
          ∙ ap (λ items. done ++ intervals_of rank items) (sym c.in-Some.ensures.steps)
          ∙ c.loop-range.invariant.1,
      put-run (value_at c.args.self.now) (value_at c.loop-range.self) (value_at c.put_pair.new.self)
          done run (seen c.args.value.now) c.loop-range.invariant.2
          (subst (λ put. IsPut (value_at c.loop-range.self) (covers run) put
          (value_at c.put_pair.new.self)) (g.met.V.MapValue.cloned _ _ c.in_ok-copy.ensures.cases)
          c.in_ok-put_pair.ensures.put),
    )
