-- The representation of a set: a map from the starts of its runs to their ends, and its length.
use Rattle.std.specs.Prelude.{◌≡◌, ℕ, List, map}
use Rattle.rsb_integer.specs.Runs.{Interval, members, IsCanonicalIn}
use Rattle.rsb_integer.specs.Selection.{count}
use Rattle.rsb_storage.specs.declared.run.Run.{Run}

-- The interval of the ranks of a run.
abbrev pub run_of : {T : Type 0} → (T → ℕ) → Run T → Interval
run_of rank run = record { first = rank run.start; last = rank run.end }

-- A run as an entry of the map.
abbrev pub entry_of : {T : Type 0} → Run T → T × T
entry_of run = (run.start, run.end)

-- The interval of the ranks of the run of an entry.
abbrev pub entry_run : {T : Type 0} → (T → ℕ) → T × T → Interval
entry_run rank entry = record { first = rank entry.0; last = rank entry.1 }

-- The intervals of the ranks of the runs of entries.
abbrev pub runs_of : {T : Type 0} → (T → ℕ) → List (T × T) → List Interval
runs_of rank entries = map (entry_run rank) entries

-- Whether the runs are canonical in a type of n values, and the stored length is the number of
-- their members.
pub record IsKept (n : ℕ) (runs : List Interval) (kept : ℕ) : Type 0 where
  pub canonical : IsCanonicalIn n runs
  pub length : kept ≡ count n (members runs)
