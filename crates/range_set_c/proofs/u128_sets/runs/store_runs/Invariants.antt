-- Written by tools/c/narrow from proofs/u64_sets/runs/store_runs/Invariants.antt.
use Rattle.std.proofs.Common.{◌^◌}
use Rattle.rsb_integer.specs.Rank.{intervals_of}
use Rattle.rsb_integer.specs.Runs.{IsCanonicalIn}
use Rattle.range_set_c.specs.U128Runs.{interval_of_run}
use Rattle.range_set_c.proofs.lemmas.Filling.{IsFilling}
use Rattle.range_set_c.proofs.u128_sets.runs.store_runs.Given as goal

-- The array has the first ranges, and those that are left are canonical.
abbrev pub invariant-loop-count : goal.invariant-loop-count
invariant-loop-count l =
    IsCanonicalIn (2 ^ 128) (intervals_of (λ x. x) l.ranges)
    × IsFilling interval_of_run (intervals_of (λ x. x) l.initial.ranges) l.initial.runs l.runs
    l.count (intervals_of (λ x. x) l.ranges)
