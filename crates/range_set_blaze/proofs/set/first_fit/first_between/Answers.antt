use Rattle.std.proofs.Common.{◌≡◌, ◌+◌, ◌<◌, inl, inr, arith, refl}
use Rattle.std.proofs.lemmas.Bool.{cases_lt}
use Rattle.rsb_storage.specs.Storage.{run_of, runs_of}
use Rattle.range_set_blaze.proofs.lemmas.fitting.FirstFits.{gaps-done, gaps-fit, gaps-next, gaps-none, last-fit, last-short}
use Rattle.rsb_storage.proofs.lemmas.runs.Storage.{le-fails}
use Rattle.range_set_blaze.proofs.set.first_fit.first_between.Goals as goal

-- If the gap before the next run is long enough, it is the first such gap.
pub returns-then-is_long : goal.returns-then-is_long
returns-then-is_long g c =
    let rank = g.T.Integer.rank in
    gaps-fit _ _ _ (rank c.loop-run.start) (run_of rank c.in-Some.run')
    (runs_of rank c.next_in_range.new.entries) (rw c.in-Some.ensures.run at c.loop-run.invariant)
    (rank c.sub_one-end.result) c.sub_one-end.ensures (c.is_long.ensures.0 c.if-is_long.true)

-- Otherwise, if that run ends with the type, every gap is too short.
pub returns-in_err-start : goal.returns-in_err-start
returns-in_err-start g c =
    let rank = g.T.Integer.rank in
    rw c.from_residual.ensures
    (gaps-done _ _ _ (rank c.loop-run.start) (run_of rank c.in-Some.run')
    (runs_of rank c.next_in_range.new.entries) (rw c.in-Some.ensures.run at c.loop-run.invariant)
    (rank c.sub_one-end.result) c.sub_one-end.ensures
    (le-fails c.is_long.result _ _ c.is_long.ensures c.if-is_long.false)
    (c.in_err-start.ensures.none.0 refl))

-- Otherwise the next gap starts right past that run.
pub loop-run-preserved : goal.loop-run-preserved
loop-run-preserved g c =
    let rank = g.T.Integer.rank in
    let n = g.T.Integer.value_count in
    let next = c.in_ok-start.ensures.next in
    let known = c.in_ok-start.ensures.value in
    let less : rank c.in_ok-start.start < n = elim (cases_lt (rank c.in_ok-start.start) n) [
      | inl less ↦ less
      | inr most ↦
          let last : rank c.in-Some.run'.end + 1 ≡ n = omega (arith, next, known, most) in
          let never = c.in_ok-start.ensures.none.1 last in
          absurd (cc)
    ] in
    gaps-next _ _ _ (rank c.loop-run.start) (run_of rank c.in-Some.run')
    (runs_of rank c.next_in_range.new.entries) (rw c.in-Some.ensures.run at c.loop-run.invariant)
    (rank c.sub_one-end.result) c.sub_one-end.ensures
    (le-fails c.is_long.result _ _ c.is_long.ensures c.if-is_long.false) (rank c.in_ok-start.start)
    next less

-- At first no gap was passed.
pub loop-run-init : goal.loop-run-init
loop-run-init g c =
    let rank = g.T.Integer.rank in
    gaps-none g.T.Integer.value_count (g.T.SafeLen.SafeLength.number c.args.len)
    (rank c.args.from) (runs_of rank c.args.entries.now) c.requires.later c.requires.within
    c.requires.value

-- After all runs, only the last gap is left.
pub returns-then-is_long-2 : goal.returns-then-is_long-2
returns-then-is_long-2 g c =
    let rank = g.T.Integer.rank in
    last-fit _ _ _ (rank c.loop-run.start) (rw c.in_default.ensures.run at c.loop-run.invariant)
    (rank c.max_value-end.result) c.max_value-end.ensures
    (c.is_long-2.ensures.0 c.if-is_long-2.true)

pub returns-else-is_long-2 : goal.returns-else-is_long-2
returns-else-is_long-2 g c =
    let rank = g.T.Integer.rank in
    last-short _ _ _ (rank c.loop-run.start) (rw c.in_default.ensures.run at c.loop-run.invariant)
    (rank c.max_value-end.result) c.max_value-end.ensures
    (le-fails c.is_long-2.result _ _ c.is_long-2.ensures c.if-is_long-2.false)
