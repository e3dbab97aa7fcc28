-- What operations select from streams of ranges.
use Rattle.std.specs.Prelude.{ℕ, List, map}
use Rattle.std.specs.List.{AllZip}
use Rattle.range_set_blaze.specs.Runs.{AreRuns, Interval, members}
use Rattle.rsb_streams.specs.Stream.{◌⊆◌, Outcomes, just}
use Rattle.ip_sets.specs.Operation.{selected_by}
use Rattle.ip_sets.specs.declared.operations.Operation.{Operation}

-- Whether each stream gives only the list at its place.
abbrev pub GiveEach : {S : Type 0} → (S → Outcomes) → List S → List (List Interval) → Type 0
GiveEach may_give streams sets = AllZip (λ stream runs. may_give stream ⊆ just runs) streams sets

-- Whether what may come is only the runs of what an operation selects from the sets.
abbrev pub Selects : Operation → ℕ → List (List Interval) → Outcomes → Type 0
Selects operation n sets given = given ⊆ AreRuns n (selected_by operation (map members sets))
