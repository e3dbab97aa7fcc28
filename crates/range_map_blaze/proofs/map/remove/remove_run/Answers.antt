use Rattle.std.proofs.Common.{List, subst, sym, arith}
use Rattle.rsb_integer.specs.Runs.{Interval, covers}
use Rattle.rsb_storage.specs.Storage.{run_of}
use Rattle.range_map_blaze.specs.Map.{value_at, IsMapIn, IsWithout}
use Rattle.range_map_blaze.proofs.lemmas.Placed.{removed-count, removed-map, removed-value}
use Rattle.range_map_blaze.proofs.map.remove.remove_run.Goals as goal

pub returns-clause-canonical : goal.returns-clause-canonical
returns-clause-canonical g c =
    let rank = g.T.Integer.rank in
    subst (IsMapIn g.T.Integer.value_count) (sym c.in_ok-clear_run.ensures.pieces)
    (removed-map g.T.Integer.value_count c.args.pieces.now c.requires.canonical
    (rank c.args.run.start) (rank c.args.run.end) c.requires.order c.requires.value)

pub returns-clause-removed : goal.returns-clause-removed
returns-clause-removed g c =
    let rank = g.T.Integer.rank in
    subst (λ (new : List (Interval × g.row.V.Denot)). IsWithout (value_at c.args.pieces.now)
    (covers (run_of rank c.args.run)) (value_at new)) (sym c.in_ok-clear_run.ensures.pieces)
    (removed-value g.T.Integer.value_count c.args.pieces.now c.requires.canonical
    (rank c.args.run.start) (rank c.args.run.end) c.requires.order c.requires.value)

pub returns-clause-count : goal.returns-clause-count
returns-clause-count g c =
    let rank = g.T.Integer.rank in
    rw c.in_ok-clear_run.ensures.pieces
    (removed-count (rank c.args.run.start) (rank c.args.run.end) c.args.pieces.now
    (omega (arith, c.requires.order)))
