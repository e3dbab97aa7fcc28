use Rattle.std.proofs.Common.{◌∙◌, List, arith, subst, sym}
use Rattle.rsb_integer.specs.Runs.{Interval, covers, from_to}
use Rattle.range_map_blaze.specs.Map.{value_at, IsMapIn, IsPut}
use Rattle.range_map_blaze.proofs.lemmas.Past.{past-end, past-put}
use Rattle.range_map_blaze.proofs.lemmas.Placed.{joined-put, placed-count, placed-map, placed-value}
use Rattle.range_map_blaze.proofs.map.insert.put_run.Goals as goal

-- The joined run does not touch a piece with its value.
pub returns-clause-canonical : goal.returns-clause-canonical
returns-clause-canonical g c =
    let rank = g.T.Integer.rank in
    let low = c.joined_start-start.ensures in
    let high = c.joined_end-end.ensures in
    subst (IsMapIn g.T.Integer.value_count) (sym c.in_ok-replace_run.ensures.pieces)
    (placed-map g.T.Integer.value_count c.args.pieces.now c.requires.canonical
    (rank c.joined_start-start.result) (rank c.joined_end-end.result)
    (omega (arith, low.below, high.above, c.requires.order)) high.in_type (g.V.MapValue.seen c.args.value) low.apart
    high.apart)

-- It has the ranks of the run, and others that have the value already.
pub returns-clause-put : goal.returns-clause-put
returns-clause-put g c =
    let rank = g.T.Integer.rank in
    let low = c.joined_start-start.ensures in
    let high = c.joined_end-end.ensures in
    joined-put g.T.Integer.value_count c.args.pieces.now (rank c.args.run.start)
    (rank c.args.run.end) (rank c.joined_start-start.result) (rank c.joined_end-end.result)
    (g.V.MapValue.seen c.args.value) (value_at c.replace_run.new.pieces) low high
    (subst (λ (new : List (Interval × g.row.V.Denot)). IsPut (value_at c.args.pieces.now)
    (covers (from_to (rank c.joined_start-start.result) (rank c.joined_end-end.result)))
    (g.V.MapValue.seen c.args.value) (value_at new)) (sym c.in_ok-replace_run.ensures.pieces)
    (placed-value g.T.Integer.value_count c.args.pieces.now c.requires.canonical
    (rank c.joined_start-start.result) (rank c.joined_end-end.result)
    (omega (arith, low.below, high.above, c.requires.order)) high.in_type (g.V.MapValue.seen c.args.value) low.apart
    high.apart))

pub returns-clause-count : goal.returns-clause-count
returns-clause-count g c =
    let rank = g.T.Integer.rank in
    let low = c.joined_start-start.ensures in
    let high = c.joined_end-end.ensures in
    rw c.in_ok-replace_run.ensures.pieces
    (placed-count (rank c.joined_start-start.result) (rank c.joined_end-end.result)
    c.args.pieces.now _ (omega (arith, low.below, high.above, c.requires.order)))

-- ---- the run lies past all keys

-- Joined with the last piece, it does not touch a piece with its value.
pub returns-in-Some-clause-canonical : goal.returns-in-Some-clause-canonical
returns-in-Some-clause-canonical g c =
    let rank = g.T.Integer.rank in
    let n = g.T.Integer.value_count in
    let value = g.V.MapValue.seen c.args.value in
    let run = c.args.run in
    let past = c.in-Some.ensures in
    let below = past.joins.below in
    let high = past-end n c.args.pieces.now c.requires.canonical (rank run.start) (rank run.end) _ value past
    c.requires.order c.requires.value in
    subst (IsMapIn n) (sym (c.in_ok-put.ensures.pieces
    ∙ past-put n c.args.pieces.now c.requires.canonical (rank run.start) (rank run.end) _ value past
    c.requires.order c.requires.value))
    (placed-map n c.args.pieces.now c.requires.canonical (rank c.in-Some.start) (rank run.end)
    (omega (arith, below, c.requires.order)) c.requires.value value past.joins.apart high.apart)

pub returns-in-Some-clause-put : goal.returns-in-Some-clause-put
returns-in-Some-clause-put g c =
    let rank = g.T.Integer.rank in
    let n = g.T.Integer.value_count in
    let value = g.V.MapValue.seen c.args.value in
    let run = c.args.run in
    let past = c.in-Some.ensures in
    let below = past.joins.below in
    let high = past-end n c.args.pieces.now c.requires.canonical (rank run.start) (rank run.end) _ value past
    c.requires.order c.requires.value in
    joined-put n c.args.pieces.now (rank run.start) (rank run.end) (rank c.in-Some.start) (rank run.end) value
    (value_at c.put.new.self) past.joins high
    (subst (λ (new : List (Interval × g.row.V.Denot)). IsPut (value_at c.args.pieces.now)
    (covers (from_to (rank c.in-Some.start) (rank run.end))) value (value_at new))
    (sym (c.in_ok-put.ensures.pieces
    ∙ past-put n c.args.pieces.now c.requires.canonical (rank run.start) (rank run.end) _ value past
    c.requires.order c.requires.value))
    (placed-value n c.args.pieces.now c.requires.canonical (rank c.in-Some.start) (rank run.end)
    (omega (arith, below, c.requires.order)) c.requires.value value past.joins.apart high.apart))

pub returns-in-Some-clause-count : goal.returns-in-Some-clause-count
returns-in-Some-clause-count g c =
    let rank = g.T.Integer.rank in
    let n = g.T.Integer.value_count in
    let value = g.V.MapValue.seen c.args.value in
    let run = c.args.run in
    let past = c.in-Some.ensures in
    let below = past.joins.below in
    rw (c.in_ok-put.ensures.pieces
    ∙ past-put n c.args.pieces.now c.requires.canonical (rank run.start) (rank run.end) _ value past
    c.requires.order c.requires.value)
    (placed-count (rank c.in-Some.start) (rank run.end) c.args.pieces.now _
    (omega (arith, below, c.requires.order)))
