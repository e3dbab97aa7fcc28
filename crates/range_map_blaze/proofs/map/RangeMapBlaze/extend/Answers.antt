use Rattle.std.proofs.Common.{◌∷◌, [], subst, sym}
use Rattle.std.proofs.lemmas.List.{map-append}
use Rattle.rsb_integer.specs.Rank.{interval_of}
use Rattle.range_map_blaze.specs.Map.{PutsAll}
use Rattle.range_map_blaze.specs.Storage.{pieces_in}
use Rattle.rsb_many.proofs.lemmas.inputs.HandedIn.{ended-run}
use Rattle.range_map_blaze.proofs.lemmas.Pairs.{puts-push}
use Rattle.range_map_blaze.proofs.map.RangeMapBlaze.extend.Goals as goal

-- The pairs so far are those before this one, and this one.
pub loop-pair-preserved : goal.loop-pair-preserved
loop-pair-preserved g c =
    let rank = g.T.Integer.rank in
    let seen = g.V.MapValue.seen in
    subst (λ added. PutsAll c.args.self.now added c.put_pair.new.self)
    (sym (map-append (λ item. (interval_of rank item.0, seen item.1)) c.loop-pair.yielded (c.in-Some.pair ∷ [])))
    (puts-push c.args.self.now (pieces_in rank seen c.loop-pair.yielded) c.loop-pair.self c.put_pair.new.self
    (interval_of rank c.in-Some.pair.0, seen c.in-Some.pair.1) c.loop-pair.invariant c.in_ok-put_pair.ensures.put)

-- The pairs that were inserted are those that the calls gave.
pub returns-clause-runs : goal.returns-clause-runs
returns-clause-runs g c =
    ended-run g.J.IntoIterator.into_iter_gives g.J.IntoIter.Iterator.next_gives c.args.pairs
    (λ items. PutsAll c.args.self.now (pieces_in g.T.Integer.rank g.V.MapValue.seen items) c.loop-pair.self)
    c.into_iter-pair-iterator.result c.loop-pair.pair-iterator c.next.new.self c.loop-pair.yielded
    c.into_iter-pair-iterator.ensures.into_iter_gives c.loop-pair.yielded_by c.in-None.ensures.steps
    c.loop-pair.invariant
