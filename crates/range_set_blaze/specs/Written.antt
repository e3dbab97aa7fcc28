-- The text of a set.
use Rattle.std.specs.Prelude.{ℕ, List, [], Option, Some, codes}
use Rattle.std.specs.Fmt.{◌++?◌, debug_items}
use Rattle.rsb_integer.specs.Runs.{Interval}

-- The texts of two values, with `..=` between them.
abbrev pub ends_text : Option (List ℕ) → Option (List ℕ) → Option (List ℕ)
ends_text start end = start ++? Some (codes "..=") ++? end

-- The text of a run, from the texts of the values at its ends.
abbrev pub run_text : (ℕ → Option (List ℕ)) → Interval → Option (List ℕ)
run_text text_at run = ends_text (text_at run.first) (text_at run.last)

-- The texts of the runs, with a comma and a space between them.
abbrev pub runs_text : (ℕ → Option (List ℕ)) → List Interval → Option (List ℕ)
runs_text text_at runs = debug_items (run_text text_at) [] runs
