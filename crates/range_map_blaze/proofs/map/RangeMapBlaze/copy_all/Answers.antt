use Rattle.std.proofs.Common.{◌∙◌, ◌++◌, ◌∷◌, [], append_assoc, ap, subst, sym}
use Rattle.rsb_integer.specs.Rank.{interval_of}
use Rattle.rsb_integer.specs.Runs.{covers}
use Rattle.range_map_blaze.specs.Map.{value_at, IsPut}
use Rattle.range_map_blaze.specs.Storage.{pieces_in}
use Rattle.range_map_blaze.proofs.lemmas.Pairs.{puts-push}
use Rattle.range_map_blaze.proofs.map.RangeMapBlaze.copy_all.Goals as goal

-- One more piece was copied.
pub loop-range-preserved : goal.loop-range-preserved
loop-range-preserved g c =
    let rank = g.T.Integer.rank in
    let seen = g.V.MapValue.seen in
    let run = interval_of rank c.in-Some.range in
    let value = seen c.in-Some.value.now in
    let copied = c.loop-range.invariant.0 in (
      copied ++ (run, value) ∷ [],
      append_assoc copied ((run, value) ∷ []) (pieces_in rank seen c.next.new.self)
          ∙ ap (λ items. copied ++ pieces_in rank seen items) (sym c.in-Some.ensures.steps)
          ∙ c.loop-range.invariant.1,
      puts-push c.args.self.now copied c.loop-range.self c.put_pair.new.self (run, value)
          c.loop-range.invariant.2
          (subst (λ put. IsPut (value_at c.loop-range.self) (covers run) put
          (value_at c.put_pair.new.self)) (g.met.V.MapValue.cloned _ _ c.in_ok-copy.ensures.cases)
          c.in_ok-put_pair.ensures.put),
    )
