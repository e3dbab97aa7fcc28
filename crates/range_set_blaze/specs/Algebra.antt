-- What sets are built from, and what is added to them: the ranks of items, or of a prefix of them.
use Rattle.std.specs.Prelude.{ℕ, List, map}
use Rattle.rsb_integer.specs.Prefix.{IsPrefix}
use Rattle.rsb_integer.specs.Rank.{intervals_of}
use Rattle.rsb_integer.specs.Runs.{Interval, members}
use Rattle.rsb_integer.specs.Selection.{Selection, any_of}
use Rattle.rsb_storage.specs.Set.{only, Adds, IsSetOf}
use Rattle.std.specs.declared.ops.RangeInclusive.{RangeInclusive}

-- Whether the members of the set are exactly the ranks of the items. This definition, `AddsItems`
-- and `AddsValues` are records. The proof search for a caller's clause follows items into a record,
-- but not into an equation for each rank.
pub record IsSetOfItems {T : Type 0} (rank : T → ℕ) (items : List (RangeInclusive T))
    (set : List Interval) : Type 0 where
  pub has : IsSetOf set (members (intervals_of rank items))

-- Whether the new set has the members of the old one and the ranks of the items, and no others.
pub record AddsItems {T : Type 0} (rank : T → ℕ) (old : List Interval)
    (items : List (RangeInclusive T)) (new : List Interval) : Type 0 where
  pub adds : Adds old new (members (intervals_of rank items))

-- The ranks of the values of a list.
abbrev pub ranks_of : {T : Type 0} → (T → ℕ) → List T → Selection
ranks_of rank values = any_of (map (λ value. only (rank value)) values)

-- Whether the new set has the members of the old one and the ranks of the values, and no others.
pub record AddsValues {T : Type 0} (rank : T → ℕ) (old : List Interval) (values : List T)
    (new : List Interval) : Type 0 where
  pub adds : Adds old new (ranks_of rank values)

-- Whether the new set has the members of the old one and those of a prefix of the runs, and no
-- others.
pub record AddsPrefixOf (old new runs : List Interval) : Type 0 where
  pub front : List Interval
  pub is_prefix : IsPrefix front runs
  pub adds : Adds old new (members front)
