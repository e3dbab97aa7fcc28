-- The gaps of a set between two bounds: how they are stored, and where they begin and end.
use Rattle.std.specs.Prelude.{ℕ, false, ◌+◌, ◌-◌, ◌<◌, ◌≤◌, List, [], ◌∷◌, map, Option, Some, None, MatchOption, IsFalse, IsTrue}
use Rattle.std.specs.declared.ops.RangeInclusive.{RangeInclusive}
use Rattle.rsb_integer.specs.Runs.{Interval, from_to, members, AllEndBelow, IsCanonicalFrom}
use Rattle.rsb_storage.specs.Storage.{runs_of}
use Rattle.rsb_storage.specs.declared.run.Run.{Run}

-- ---- lists of runs

-- The gaps that the runs leave between the two ranks, both included.
abbrev pub gaps_between : ℕ → ℕ → List Interval → List Interval
gaps_between first last [] = from_to first last ∷ []
gaps_between first last (run ∷ runs) =
    from_to first (run.first - 1) ∷ gaps_between (run.last + 1) last runs

-- Whether the runs are canonical and lie between the two ranks, neither of which is a member.
pub record LieBetween (n first last : ℕ) (runs : List Interval) : Type 0 where
  pub in_order : first ≤ last
  pub in_type : last < n
  pub later : IsCanonicalFrom (first + 1) runs
  pub earlier : AllEndBelow last runs

-- ---- how the gaps are stored

-- The gaps still to come: those that the runs of the entries leave between the two ends of `rest`.
-- There are none if `rest` is `None`.
abbrev pub gaps_left : {T : Type 0} → (T → ℕ) → Option (Run T) → List (T × T) → List Interval
gaps_left rank None entries = []
gaps_left rank (Some rest) entries =
    gaps_between (rank rest.start) (rank rest.end) (runs_of rank entries)

-- Whether the runs of the entries lie between the two ends of `rest`, if there is one.
abbrev pub AreGapsLeft : {T : Type 0} → (T → ℕ) → ℕ → Option (Run T) → List (T × T) → Type 0
AreGapsLeft rank n rest entries = MatchOption rest (Unit {0})
    (λ run. LieBetween n (rank run.start) (rank run.end) (runs_of rank entries))

-- The values whose ranks are in an interval, as a range.
abbrev pub range_at : {T : Type 0} → (ℕ → T) → Interval → RangeInclusive T
range_at value_at run =
    record { start = value_at run.first; end = value_at run.last; exhausted = false }

-- The values whose ranks are in each interval, as ranges.
abbrev pub ranges_at : {T : Type 0} → (ℕ → T) → List Interval → List (RangeInclusive T)
ranges_at value_at runs = map (range_at value_at) runs

-- ---- the first and the last rank of an interval that are not members

-- Whether every rank at or below `to` is a member.
abbrev pub HasAllTo : List Interval → ℕ → Type 0
HasAllTo set to = (rank : ℕ) → rank ≤ to → IsTrue (members set rank)

-- Whether `rank` is the last rank at or below `to` that is not a member.
pub record IsLastFree (set : List Interval) (to rank : ℕ) : Type 0 where
  pub earlier : rank ≤ to
  pub free : IsFalse (members set rank)
  pub after : (other : ℕ) → rank < other → other ≤ to → IsTrue (members set other)

-- Whether `part` goes from the first rank of `window` that is not a member to the last one.
pub record IsFreePart (set : List Interval) (window part : Interval) : Type 0 where
  pub in_order : part.first ≤ part.last
  pub from : window.first ≤ part.first
  pub to : part.last ≤ window.last
  pub first_free : IsFalse (members set part.first)
  pub last_free : IsFalse (members set part.last)
  pub before : (rank : ℕ) → window.first ≤ rank → rank < part.first → IsTrue (members set rank)
  pub after : (rank : ℕ) → part.last < rank → rank ≤ window.last → IsTrue (members set rank)
