use Rattle.std.proofs.Common.{◌<◌, arith, refl}
use Rattle.std.proofs.lemmas.List.Elements.{All-head}
use Rattle.rsb_integer.specs.Runs.{Interval}
use Rattle.rsb_storage.specs.Storage.{run_of, runs_of}
use Rattle.range_set_blaze.proofs.lemmas.ranking.Counted.{left-below, left-member, left-more, left-next, left-none}
use Rattle.range_set_blaze.proofs.set.ranked.nth_of.Goals as goal

-- The next run ends within the type.
pub value_at-requires-clause-value : goal.value_at-requires-clause-value
value_at-requires-clause-value g c =
    let rank = g.T.Integer.rank in
    All-head (λ (each : Interval). each.last < g.T.Integer.value_count)
    (run_of rank c.in-Some.run') (runs_of rank c.next_run.new.entries)
    (rw c.in-Some.ensures at c.loop-run.invariant).within

-- If the run has more values than are left to pass, the n-th member is in it.
pub returns-then-is_less-clause-none : goal.returns-then-is_less-clause-none
returns-then-is_less-clause-none g c =
    let rank = g.T.Integer.rank in
    let fewer = c.is_less.ensures.0 c.if-is_less.true in
    let more = left-more _ c.args.runs.now
    (runs_of rank c.next_run.new.entries) (run_of rank c.in-Some.run') _ _
    (rw c.in-Some.ensures at c.loop-run.invariant)
    (omega (arith, fewer, c.length_of_run-length.ensures)) in
    ((λ none. absurd (cc)), (λ most. absurd (omega (arith, more, most))))

pub returns-then-is_less-clause-found : goal.returns-then-is_less-clause-found
returns-then-is_less-clause-found g c =
    let rank = g.T.Integer.rank in
    let fewer = c.is_less.ensures.0 c.if-is_less.true in
    left-member _ c.args.runs.now
    (runs_of rank c.next_run.new.entries) (run_of rank c.in-Some.run') _ _
    (rw c.in-Some.ensures at c.loop-run.invariant) _
    (omega (arith, fewer, c.length_of_run-length.ensures)) c.value_at.ensures

pub returns-then-is_less-clause-below : goal.returns-then-is_less-clause-below
returns-then-is_less-clause-below g c =
    let rank = g.T.Integer.rank in
    let fewer = c.is_less.ensures.0 c.if-is_less.true in
    left-below _ c.args.runs.now
    (runs_of rank c.next_run.new.entries) (run_of rank c.in-Some.run') _ _
    (rw c.in-Some.ensures at c.loop-run.invariant) _
    (omega (arith, fewer, c.length_of_run-length.ensures)) c.value_at.ensures

-- Otherwise the run is passed.
pub loop-run-preserved : goal.loop-run-preserved
loop-run-preserved g c =
    let rank = g.T.Integer.rank in
    left-next _ c.args.runs.now
    (runs_of rank c.next_run.new.entries) (run_of rank c.in-Some.run') _ _
    (rw c.in-Some.ensures at c.loop-run.invariant) _
    (omega (arith, c.subtract.ensures, c.length_of_run-length.ensures))

-- If no run is left, the set has at most n members.
pub returns-clause-none : goal.returns-clause-none
returns-clause-none g c = (
  (λ none. left-none _ c.args.runs.now _ _ (rw c.in_default.ensures at c.loop-run.invariant)),
  (λ most. refl),
)
