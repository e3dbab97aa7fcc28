-- The part of a set between two bounds: how it is stored, and which members it has.
use Rattle.std.specs.Prelude.{◌≡◌, ℕ, ◌&&◌, cond, false, min, nat_le, nat_lt, ◌<◌, ◌≤◌, List, ◌∷◌, map, Option, Some, None, Contains}
use Rattle.std.specs.declared.ops.RangeInclusive.{RangeInclusive}
use Rattle.rsb_integer.specs.Runs.{Interval, from_to, members, IsCanonicalIn}
use Rattle.rsb_storage.specs.Storage.{entry_of}
use Rattle.rsb_storage.specs.Starts.{runs_starting}
use Rattle.rsb_storage.specs.declared.run.Run.{Run}

-- ---- how a window is stored

-- The lesser of two values, by their ranks.
abbrev pub lesser_of : {T : Type 0} → (T → ℕ) → T → T → T
lesser_of rank left right = cond (nat_lt (rank right) (rank left)) right left

-- The entry of the held run, if there is one, followed by the other entries.
abbrev pub with_held : {T : Type 0} → Option (Run T) → List (T × T) → List (T × T)
with_held None entries = entries
with_held (Some run) entries = entry_of run ∷ entries

-- The run of an entry, as a range of values. If the run extends past `last`, the range ends at
-- `last`.
abbrev pub range_up_to : {T : Type 0} → (T → ℕ) → T → T × T → RangeInclusive T
range_up_to rank last entry =
    record { start = entry.0; end = lesser_of rank entry.1 last; exhausted = false }

-- The run of each entry, as such a range.
abbrev pub ranges_up_to : {T : Type 0} → (T → ℕ) → T → List (T × T) → List (RangeInclusive T)
ranges_up_to rank last entries = map (range_up_to rank last) entries

-- ---- what a window has of a list of runs

-- The ranks of the interval up to `last`.
abbrev pub up_to : ℕ → Interval → Interval
up_to last run = from_to run.first (min run.last last)

-- The runs that start between the two ranks, both included.
abbrev pub starting_within : ℕ → ℕ → List Interval → List Interval
starting_within first last runs =
    runs_starting (λ start. nat_le first start && nat_le start last) runs

-- Whether `part` has the ranks, at or above `point`, of a run that starts below `point` and
-- contains it.
pub record ReachesIn (runs : List Interval) (point : ℕ) (part : Interval) : Type 0 where
  pub run : Interval
  pub among : Contains runs run
  pub before : run.first < point
  pub reaches : point ≤ run.last
  pub starts : part.first ≡ point
  pub ends : part.last ≡ run.last

-- Whether the parts are canonical and start at or below `last`. Up to `last`, their members must be
-- those members of the runs that are at or above `first`.
pub record IsWindow (n : ℕ) (runs : List Interval) (first last : ℕ) (parts : List Interval) : Type 0
  where
    pub canonical : IsCanonicalIn n parts
    pub starts : (part : Interval) → Contains parts part → part.first ≤ last
    pub has : (rank : ℕ) → rank ≤ last
        → members parts rank ≡ (members runs rank && nat_le first rank)
