use Rattle.std.proofs.Common.{subst}
use Rattle.range_map_blaze.specs.Map.{IsMapOf, PutsAll}
use Rattle.range_map_blaze.specs.Storage.{keyed}
use Rattle.range_map_blaze.proofs.lemmas.Pairs.{gave-weaker, puts-made}
use Rattle.range_map_blaze.proofs.map.RangeMapBlaze.from_iter_keys.Goals as goal

-- All values of the map are those that were inserted.
pub returns-clause-values : goal.returns-clause-values
returns-clause-values g c =
    let ran = c.in_ok-extend_keys.ensures.values in
    let pieces = keyed g.T.Integer.rank g.V.MapValue.seen ran.1 in (
      ran.0,
      ran.1,
      ran.2,
      ran.4,
      puts-made pieces c.extend_keys.new.self
          (subst (λ old. PutsAll old pieces c.extend_keys.new.self) c.new-map.ensures ran.3),
    )

-- The same, stated by `GaveRun`.
pub returns-clause-runs : goal.returns-clause-runs
returns-clause-runs g c =
    gave-weaker g.J.IntoIterator.into_iter_gives g.J.IntoIter.Iterator.next_gives c.args.pairs
    (λ items. PutsAll c.new-map.result (keyed g.T.Integer.rank g.V.MapValue.seen items) c.extend_keys.new.self)
    (λ items. IsMapOf (keyed g.T.Integer.rank g.V.MapValue.seen items) c.extend_keys.new.self)
    (λ items puts. puts-made (keyed g.T.Integer.rank g.V.MapValue.seen items) c.extend_keys.new.self
    (subst (λ old. PutsAll old (keyed g.T.Integer.rank g.V.MapValue.seen items) c.extend_keys.new.self) c.new-map.ensures puts))
    c.in_ok-extend_keys.ensures.runs
