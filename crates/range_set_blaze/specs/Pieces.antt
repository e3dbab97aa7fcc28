-- The pieces of two sets, and the runs that are gathered from pieces.
use Rattle.std.specs.Prelude.{◌≡◌, ℕ, Bool, true, false, ◌&&◌, ◌||◌, ◌+◌, ◌<◌, ◌≤◌, List, [], ◌∷◌, ◌++◌, Option, None, Some}
use Rattle.std.specs.List.{sum_by}
use Rattle.rsb_integer.specs.Runs.{Interval, covers, length_of, members, IsCanonicalIn}
use Rattle.rsb_integer.specs.Selection.{exclusive_or}
use Rattle.rsb_storage.specs.Set.{IsSetOf}
use Rattle.rsb_storage.specs.Storage.{run_of, runs_of}
use Rattle.rsb_storage.specs.declared.run.Run.{Run}
use Rattle.range_set_blaze.specs.Retain.{IsCanonicalBelow}

-- Whether an operation keeps a rank, given whether the left set and the right one have it: if
-- `common`, whether both have it, and otherwise whether exactly one has it.
abbrev pub is_kept : Bool → Bool → Bool → Bool
is_kept true left right = left && right
is_kept false left right = exclusive_or left right

-- Whether the three lists are canonical, and the set has exactly the ranks of the two others that
-- the operation keeps.
pub record IsKeptOf (n : ℕ) (common : Bool) (lefts rights set : List Interval) : Type 0 where
  pub left : IsCanonicalIn n lefts
  pub right : IsCanonicalIn n rights
  pub made : IsCanonicalIn n set
  pub exact : IsSetOf set (λ rank. is_kept common (members lefts rank) (members rights rank))

-- The first rank of the runs, or n if there are none.
abbrev pub first_in : ℕ → List Interval → ℕ
first_in n [] = n
first_in n (run ∷ runs) = run.first

-- Whether the runs before were the ranks of `run`, if they had any of them (`has`), followed by the
-- runs after it.
pub record IsPassed (n : ℕ) (before : List Interval) (run : Interval) (has : Bool)
    (after : List Interval) : Type 0
  where
    pub parts : (rank : ℕ) → members before rank ≡ ((has && covers run rank) || members after rank)
    pub canonical : IsCanonicalBelow n (run.last + 1) after

-- Whether `run` is the first piece of two lists of runs. `in_left` and `in_right` say which of the
-- lists has its ranks. The other two lists are the runs past it.
pub record IsPiece (n : ℕ) (lefts rights : List Interval) (run : Interval) (in_left in_right : Bool)
    (lefts_after rights_after : List Interval) : Type 0
  where
    pub order : run.first ≤ run.last
    pub value : run.last < n
    pub left : IsPassed n lefts run in_left lefts_after
    pub right : IsPassed n rights run in_right rights_after
    pub begins : (low : ℕ) → IsCanonicalBelow n low lefts → IsCanonicalBelow n low rights
        → low ≤ run.first
    pub later : first_in n lefts + first_in n rights
        < first_in n lefts_after + first_in n rights_after

module _ {T : Type 0} (rank : T → ℕ) where
  -- The run that is held, if there is one.
  abbrev pub held_runs : Option (Run T) → List Interval
  held_runs None = []
  held_runs (Some run) = run_of rank run ∷ []

  -- The runs of the entries, and the run that is held.
  abbrev pub gathered_runs : List (T × T) → Option (Run T) → List Interval
  gathered_runs entries held = runs_of rank entries ++ held_runs held

  -- Whether these runs are canonical, and the length is that of the runs of the entries. If no run
  -- is held, there are no entries.
  pub record IsGathered (n : ℕ) (entries : List (T × T)) (number : ℕ) (held : Option (Run T))
      : Type 0
    where
      pub canonical : IsCanonicalIn n (gathered_runs entries held)
      pub counted : number ≡ sum_by length_of (runs_of rank entries)
      pub first : held ≡ None → entries ≡ []
