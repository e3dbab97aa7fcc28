-- Written by tools/c/narrow from specs/U64Runs.antt.
-- The values of runs of `u128` that C passes.
use Rattle.std.specs.Prelude.{List, map}
use Rattle.rsb_integer.specs.Runs.{Interval, from_to, members}
use Rattle.rsb_integer.specs.Selection.{Selection}
use Rattle.range_set_c.specs.U128Values.{number}
use Rattle.range_set_c.specs.declared.u128_values.ValueRun.{ValueRun}

-- The values from the first of a run to its last. There are none if the last is below the first.
abbrev pub interval_of_run : ValueRun → Interval
interval_of_run run = from_to (number run.first) (number run.last)

-- The values of at least one of the runs.
abbrev pub values_of : List ValueRun → Selection
values_of runs = members (map interval_of_run runs)
