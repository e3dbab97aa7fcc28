use Rattle.std.proofs.Common.{◌≡◌, ◌-◌, arith}
use Rattle.rsb_storage.specs.Storage.{run_of, runs_of}
use Rattle.rsb_storage.proofs.lemmas.windows.Gaps.{between-front, between-last, gaps-last}
use Rattle.rsb_storage.proofs.lemmas.windows.GapRanges.{last-runs}
use Rattle.rsb_storage.proofs.gaps_in.parts.take_last.Goals as goal

-- The last run starts after the first value.
pub sub_one-requires : goal.sub_one-requires
sub_one-requires g c =
    let rank = g.T.Integer.rank in
    let last = between-last _ _ _ (runs_of rank c.last_run.new.entries) (run_of rank c.in-Some.run')
    (rw (
      c.in_ok-whole.was,
      last-runs rank c.last_run.new.entries c.in-Some.run' c.in-Some.ensures.run,
    )
    at c.requires) in
    omega (arith, last.0)

-- It ends before the last value.
pub add_one-requires : goal.add_one-requires
add_one-requires g c =
    let rank = g.T.Integer.rank in
    let lie = rw (
      c.in_ok-whole.was,
      last-runs rank c.last_run.new.entries c.in-Some.run' c.in-Some.ensures.run,
    ) at c.requires in
    let last = between-last _ _ _ (runs_of rank c.last_run.new.entries) (run_of rank c.in-Some.run')
    lie in
    let known = lie.in_type in
    omega (arith, last.2, known)

-- The gap after it comes last.
pub returns-clause-gap : goal.returns-clause-gap
returns-clause-gap g c =
    let rank = g.T.Integer.rank in
    let before : rank c.in-Some.run'.start - 1 ≡ rank c.sub_one.result =
    let next = c.sub_one.ensures in omega (arith, next) in
    rw (
      c.in_ok-whole.was,
      last-runs rank c.last_run.new.entries c.in-Some.run' c.in-Some.ensures.run,
      c.add_one.ensures,
      ← before,
    )
    (gaps-last (rank c.in_ok-whole.whole.start) (rank c.in_ok-whole.whole.end)
    (runs_of rank c.last_run.new.entries) (run_of rank c.in-Some.run'))

-- Before it, the other runs lie between the ends of what is left.
pub returns-clause-rest : goal.returns-clause-rest
returns-clause-rest g c =
    let rank = g.T.Integer.rank in
    let before : rank c.in-Some.run'.start - 1 ≡ rank c.sub_one.result =
    let next = c.sub_one.ensures in omega (arith, next) in
    rw (← before)
    (between-front g.T.Integer.value_count (rank c.in_ok-whole.whole.start)
    (rank c.in_ok-whole.whole.end) (runs_of rank c.last_run.new.entries)
    (run_of rank c.in-Some.run')
    (rw (
      c.in_ok-whole.was,
      last-runs rank c.last_run.new.entries c.in-Some.run' c.in-Some.ensures.run,
    )
    at c.requires))
