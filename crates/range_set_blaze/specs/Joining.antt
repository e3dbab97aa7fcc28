-- A new run and the runs that it touches.
use Rattle.std.specs.Prelude.{◌≡◌, ℕ, true, false, ◌||◌, ◌+◌, ◌<◌, ◌≤◌, List, Option, MatchOption, Contains}
use Rattle.rsb_integer.specs.Runs.{Interval, covers, members, IsCanonicalIn}
use Rattle.rsb_integer.specs.Selection.{count, LacksSome}
use Rattle.rsb_storage.specs.Storage.{run_of, IsKept}
use Rattle.rsb_storage.specs.Set.{Adds}
use Rattle.rsb_storage.specs.Starts.{with_run}
use Rattle.rsb_storage.specs.declared.run.Run.{Run}
use Rattle.range_set_blaze.specs.declared.set.insert.Joining.{Joining}
pub use Rattle.rsb_storage.specs.Set.{HasAll}

-- ---- runs that start inside another

-- Whether the run is one of the list, and starts inside the joined one, past its start.
pub record IsInside (runs : List Interval) (joined run : Interval) : Type 0 where
  pub among : Contains runs run
  pub later : joined.first < run.first
  pub within : run.first ≤ joined.last

-- Whether no run starts inside the joined one, past its start.
abbrev pub NoneInside : List Interval → Interval → Type 0
NoneInside runs joined = (run : Interval) → IsInside runs joined run → ⊥

-- Whether `last` and `before` start inside the joined run, `before` at a lower rank than `last`.
-- `last` is `None` if no run starts inside, and `before` is `None` if no other one does.
abbrev pub KnowsInside : {T : Type 0} → (T → ℕ) → List Interval → Interval → Option (Run T)
    → Option (Run T) → Type 0
KnowsInside rank runs joined last before = MatchOption last (NoneInside runs joined) (λ run.
    IsInside runs joined (run_of rank run) × MatchOption before
    ((other : Interval) → IsInside runs joined other → other.first ≡ rank run.start)
    (λ other. IsInside runs joined (run_of rank other) × (rank other.start < rank run.start)))

-- Whether the joined run is among others that are canonical without it. Some of those may start
-- inside it, but apart from them it touches none. `others` is the number of members of all others.
pub record IsOver (n : ℕ) (now : List Interval) (joined : Interval) (others : ℕ) : Type 0 where
  pub rest : List Interval
  pub parts : now ≡ with_run joined rest
  pub canonical : IsCanonicalIn n rest
  pub elsewhere : (run : Interval) → Contains rest run → run.first ≡ joined.first → ⊥
  pub ordered : joined.first ≤ joined.last
  pub in_type : joined.last < n
  pub begins : (rank : ℕ) → rank + 1 ≡ joined.first → members rest rank ≡ false
  pub ends : members rest (joined.last + 1) ≡ false
  pub counted : others ≡ count n (members rest)

-- ---- a run joined with those that it touches

-- Whether the run is one of the list, starts at or before `start`, and contains or touches it.
pub record IsReaching (runs : List Interval) (start : ℕ) (run : Interval) : Type 0 where
  pub among : Contains runs run
  pub starts : run.first ≤ start
  pub reaches : start ≤ run.last + 1

-- Whether neither the rank nor the one before it is a member.
abbrev pub IsUnreached : List Interval → ℕ → Type 0
IsUnreached runs start = (rank : ℕ) → rank ≤ start → start ≤ rank + 1 → members runs rank ≡ false

-- Whether the joined run contains the run, all its other ranks are members, and no member is right
-- before or after it.
pub record IsHull (runs : List Interval) (run joined : Interval) : Type 0 where
  pub first : joined.first ≤ run.first
  pub last : run.last ≤ joined.last
  pub has : (rank : ℕ) → covers joined rank ≡ true → (members runs rank || covers run rank) ≡ true
  pub begins : (rank : ℕ) → rank + 1 ≡ joined.first → members runs rank ≡ false
  pub ends : members runs (joined.last + 1) ≡ false

module _ {T : Type 0} (rank : T → ℕ) (n : ℕ) (runs : List Interval) where
  -- Whether the joined run covers the runs that `joining` names and those that start inside it, and
  -- touches no others.
  pub record IsJoining (joining : Joining T) : Type 0 where
    pub ordered : rank joining.joined.start ≤ rank joining.joined.end
    pub in_type : rank joining.joined.end < n
    pub begins : (point : ℕ) → point + 1 ≡ rank joining.joined.start → members runs point ≡ false
    pub ends : members runs (rank joining.joined.end + 1) ≡ false
    pub first : MatchOption joining.first
        ((run : Interval) → Contains runs run → run.first ≡ rank joining.joined.start → ⊥)
        (λ first. Contains runs (run_of rank first)
        × (rank first.start ≡ rank joining.joined.start)
        × (rank first.end ≤ rank joining.joined.end))
    pub inside : KnowsInside rank runs (run_of rank joining.joined) joining.last joining.before

-- ---- what an insertion does

-- Whether the new runs and the length represent a set: the members of the old runs, and those of the
-- added one. Some rank of that run was not a member before.
pub record IsInserted (n : ℕ) (old new : List Interval) (run : Interval) (length : ℕ) : Type 0 where
  pub kept : IsKept n new length
  pub adds : Adds old new (covers run)
  pub lacks : LacksSome (members old) (covers run)
