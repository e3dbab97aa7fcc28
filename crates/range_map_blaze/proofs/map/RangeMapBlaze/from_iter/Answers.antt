use Rattle.std.proofs.Common.{subst}
use Rattle.range_map_blaze.specs.Map.{IsMapOf, PutsAll}
use Rattle.range_map_blaze.specs.Storage.{pieces_in}
use Rattle.range_map_blaze.proofs.lemmas.Pairs.{gave-weaker, puts-made}
use Rattle.range_map_blaze.proofs.map.RangeMapBlaze.from_iter.Goals as goal

-- All values of the map are those that were inserted.
pub returns-clause-values : goal.returns-clause-values
returns-clause-values g c =
    let ran = c.in_ok-extend.ensures.values in
    let pieces = pieces_in g.T.Integer.rank g.V.MapValue.seen ran.1 in (
      ran.0,
      ran.1,
      ran.2,
      ran.4,
      puts-made pieces c.extend.new.self
          (subst (λ old. PutsAll old pieces c.extend.new.self) c.new-map.ensures ran.3),
    )

-- The same, stated by `GaveRun`.
pub returns-clause-runs : goal.returns-clause-runs
returns-clause-runs g c =
    gave-weaker g.J.IntoIterator.into_iter_gives g.J.IntoIter.Iterator.next_gives c.args.pairs
    (λ items. PutsAll c.new-map.result (pieces_in g.T.Integer.rank g.V.MapValue.seen items) c.extend.new.self)
    (λ items. IsMapOf (pieces_in g.T.Integer.rank g.V.MapValue.seen items) c.extend.new.self)
    (λ items puts. puts-made (pieces_in g.T.Integer.rank g.V.MapValue.seen items) c.extend.new.self
    (subst (λ old. PutsAll old (pieces_in g.T.Integer.rank g.V.MapValue.seen items) c.extend.new.self) c.new-map.ensures puts))
    c.in_ok-extend.ensures.runs
