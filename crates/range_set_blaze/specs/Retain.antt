-- What `retain` calls its closure on, and what it keeps.
use Rattle.std.specs.Prelude.{◌≡◌, ℕ, zero, suc, Bool, false, ◌||◌, ◌+◌, ◌<◌, ◌≤◌, List, [], ◌∷◌, ◌++◌, map, IsTrue, Option, None, Some}
use Rattle.std.specs.Fn.{always_mut, AlwaysReturns, CalledAt, Mut, Takes}
use Rattle.std.specs.List.{FoldsTo}
use Rattle.std.specs.Range.{range_inclusive_start, range_inclusive_end, range_inclusive_exhausted}
use Rattle.std.specs.declared.ops.RangeInclusive.{RangeInclusive}
use denote.Ref.{Bor}
use Rattle.rsb_integer.specs.Prefix.{IsPrefix}
use Rattle.rsb_integer.specs.Rank.{interval_of, intervals_of}
use Rattle.rsb_integer.specs.Runs.{Interval, covers, from_to, length_of, members, IsMaximalRun}
use Rattle.rsb_integer.specs.Selection.{Selection}
use Rattle.rsb_storage.specs.Storage.{run_of, runs_of}
use Rattle.rsb_storage.specs.declared.run.Run.{Run}

-- The given number of consecutive ranks, starting at `first`.
unfoldable pub ranks_from : ℕ → ℕ → List ℕ
ranks_from first zero = []
ranks_from first (suc more) = first ∷ ranks_from (first + 1) more

-- The members of a set in ascending order.
abbrev pub ascending_ranks : List Interval → List ℕ
ascending_ranks [] = []
ascending_ranks (run ∷ runs) = ranks_from run.first (length_of run) ++ ascending_ranks runs

module _ {F T : Type 0} (rank : T → ℕ) (n : ℕ) (g : Mut F (Bor T × Unit {0}) Bool) where
  -- Whether each call, starting with the closure `f`, returns what `keeps` gives for the rank of
  -- its argument. This covers only arguments whose rank is below n. (For a signed number that does
  -- not fit the type, a test need not depend on the rank.)
  abbrev pub AnswersByRank : Selection → F → Type 0
  AnswersByRank keeps = AlwaysReturns g (λ a r. rank a.0.now < n → r ≡ keeps (rank a.0.now))

-- Whether each call, starting with the closure `f`, returns what `keeps` gives for the ranks of its
-- argument. This covers only ranges whose ends have ranks below n, and which were not iterated to
-- their end. (Ranges that were iterated to their end all have the same ranks, namely none, but a
-- test such as `r.start() < r.end()` still reads their ends.)
abbrev pub AnswersByRun : {F T : Type 0} (rank : T → ℕ) (n : ℕ)
    (g : Mut F (Bor (RangeInclusive T) × Unit {0}) Bool) → (Interval → Bool) → F → Type 0
AnswersByRun rank n g keeps = AlwaysReturns g (λ a r.
    range_inclusive_exhausted a.0.now ≡ false → rank (range_inclusive_start a.0.now) < n
    → rank (range_inclusive_end a.0.now) < n → r ≡ keeps (interval_of rank a.0.now))

-- Whether calls on these items, one after the other, lead from the closure `f` to the closure
-- `last`.
abbrev pub IsAsked : {F X : Type 0} → Mut F (Bor X × Unit {0}) Bool → F → List X → F → Type 0
IsAsked g f items last =
    FoldsTo (λ before item after. (answer : Bool) × CalledAt g before item answer after) f items last

-- ---- what a closure may be called on

module _ {F T : Type 0} (rank : T → ℕ) (n : ℕ) where
  module _ (g : Mut F (Bor T × Unit {0}) Bool) (f : F) (set : List Interval) where
    -- Whether calls on the members before the value, in ascending order, led from `f` to the
    -- closure `now`. The value is then a member. If `f` can always be called, so can `now`.
    pub record IsNextMember (now : F) (value : T) : Type 0 where
      pub asked : List T
      pub calls : IsAsked g f asked now
      pub next : IsPrefix (map rank (asked ++ value ∷ [])) (ascending_ranks set)
      pub member : IsTrue (members set (rank value))
      pub in_type : rank value < n
      pub callable : always_mut g f → always_mut g now

    -- Whether the closure may be called on each member in ascending order.
    pub record CallableOnMembers : Type 0 where
      pub at : (now : F) (shown : Bor T) → IsNextMember now shown.now → Takes g now (shown, tt)

  module _ (g : Mut F (Bor (RangeInclusive T) × Unit {0}) Bool) (f : F) (set : List Interval) where
    -- Whether calls on the runs before the range, in ascending order, led from `f` to the closure
    -- `now`. The range is then a run. If `f` can always be called, so can `now`.
    pub record IsNextRun (now : F) (range : RangeInclusive T) : Type 0 where
      pub asked : List (RangeInclusive T)
      pub calls : IsAsked g f asked now
      pub next : IsPrefix (intervals_of rank (asked ++ range ∷ [])) set
      pub fresh : range_inclusive_exhausted range ≡ false
      pub maximal : IsMaximalRun n (members set)
          (from_to (rank (range_inclusive_start range)) (rank (range_inclusive_end range)))
      pub callable : always_mut g f → always_mut g now

    -- Whether the closure may be called on each run in ascending order.
    pub record CallableOnRuns : Type 0 where
      pub at : (now : F) (shown : Bor (RangeInclusive T)) → IsNextRun now shown.now
          → Takes g now (shown, tt)

-- ---- what a closure was called on

-- Whether the closure `f` was called on each run of the set once, in ascending order.
abbrev pub AsksRuns : {F T : Type 0} (rank : T → ℕ)
    (g : Mut F (Bor (RangeInclusive T) × Unit {0}) Bool) → F → List Interval → Type 0
AsksRuns {F} {T} rank g f set = (ranges : List (RangeInclusive T)) × (last : F)
    × IsAsked g f ranges last × (intervals_of rank ranges ≡ set)

module _ {F T : Type 0} (rank : T → ℕ) (g : Mut F (Bor T × Unit {0}) Bool) where
  -- Whether the closure `f` was called on each member of the set once, in ascending order.
  abbrev pub AsksAll : F → List Interval → Type 0
  AsksAll f set = (values : List T) × (last : F) × IsAsked g f values last
      × (map rank values ≡ ascending_ranks set)

  -- Whether the closure `f` was called on a prefix of the members of the set, once on each, in
  -- ascending order.
  abbrev pub AsksFront : F → List Interval → Type 0
  AsksFront f set = (values : List T) × (last : F) × IsAsked g f values last
      × IsPrefix (map rank values) (ascending_ranks set)

module _ {T : Type 0} (rank : T → ℕ) where
  -- The runs that are left: the rest of the current run, followed by the runs of the entries. If
  -- there is no current run, none is left.
  abbrev pub left_runs : Option (Run T) → List (T × T) → List Interval
  left_runs None entries = []
  left_runs (Some run) entries = run_of rank run ∷ runs_of rank entries

  -- The members of a set, and the ranks of a piece that is not in it yet.
  abbrev pub with_piece : List Interval → Option (Run T) → Selection
  with_piece set None other = members set other
  with_piece set (Some run) other = members set other || covers (run_of rank run) other

  -- The least rank past a piece, or 0 if there is no piece.
  abbrev pub past_piece : Option (Run T) → ℕ
  past_piece None = 0
  past_piece (Some run) = rank run.end + 1

-- Whether the runs are canonical in a type of n values, and the first one starts at `low` or later.
abbrev pub IsCanonicalBelow : ℕ → ℕ → List Interval → Type 0
IsCanonicalBelow n low [] = Unit {0}
IsCanonicalBelow n low (run ∷ runs) = (low ≤ run.first) × (run.first ≤ run.last) × (run.last < n)
    × IsCanonicalBelow n (run.last + 2) runs

-- Whether `first` is the first member of the old runs, and the new runs are canonical and have
-- exactly the other members.
pub record IsPastFirst (n : ℕ) (old new : List Interval) (first : ℕ) : Type 0 where
  pub canonical : IsCanonicalBelow n (first + 1) new
  pub listed : ascending_ranks old ≡ first ∷ ascending_ranks new
