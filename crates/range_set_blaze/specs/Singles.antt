-- The values of an iterator as ranges.
use Rattle.std.specs.Prelude.{◌≡◌, false, Option, Some, None, MatchOption}
use Rattle.std.specs.declared.ops.RangeInclusive.{RangeInclusive}
use Rattle.range_set_blaze.specs.declared.set.collect.values_as_ranges.Singles.{Singles}

-- The range of one value.
abbrev pub range_of_one : {T : Type 0} → T → RangeInclusive T
range_of_one value = record { start = value; end = value; exhausted = false }

-- Whether a call returns the range of the one value that the inner iterator gives.
abbrev pub singles_steps : {T I : Type 0} → (I → Option T → I → Type 0) → Singles I
    → Option (RangeInclusive T) → Singles I → Type 0
singles_steps {T} steps s answer t = MatchOption answer (steps s.values None t.values) (λ range.
    (value : T) × steps s.values (Some value) t.values × (range ≡ range_of_one value))
