use Rattle.std.proofs.Common.{◌<◌, arith}
use Rattle.std.proofs.lemmas.List.Elements.{All-head}
use Rattle.rsb_integer.specs.Runs.{Interval}
use Rattle.rsb_storage.specs.Storage.{run_of, runs_of}
use Rattle.rsb_storage.proofs.lemmas.windows.Gaps.{between-tail}
use Rattle.rsb_storage.proofs.gaps_in.parts.take_first.Goals as goal

-- The first run ends before the last value.
pub add_one-requires : goal.add_one-requires
add_one-requires g c =
    let rank = g.T.Integer.rank in
    let lie = rw (c.in_ok-whole.was, c.in-Some.ensures.run) at c.requires in
    let ends = All-head (λ (each : Interval). each.last < rank c.in_ok-whole.whole.end)
    (run_of rank c.in-Some.run') (runs_of rank c.next_in_range.new.entries) lie.earlier in
    let known = lie.in_type in
    omega (arith, ends, known)

-- After it, the other runs lie between the ends of what is left.
pub returns-clause-rest : goal.returns-clause-rest
returns-clause-rest g c =
    let rank = g.T.Integer.rank in
    rw c.add_one.ensures
    (between-tail g.T.Integer.value_count (rank c.in_ok-whole.whole.start)
    (rank c.in_ok-whole.whole.end) (run_of rank c.in-Some.run')
    (runs_of rank c.next_in_range.new.entries)
    (rw (c.in_ok-whole.was, c.in-Some.ensures.run) at c.requires))
