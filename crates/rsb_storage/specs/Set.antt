-- The definitions that the contracts of a set use. Contracts see a set as the list of its runs,
-- each as the interval of its ranks.
use Rattle.std.specs.Prelude.{◌≡◌, ℕ, ◌&&◌, ◌==◌, ◌+◌, ◌<◌, ◌≤◌, nat_le, nat_lt, List, IsTrue}
use Rattle.std.specs.declared.ops.Bound.{Bound}
use Rattle.std.specs.declared.ops.Bound.TheVariants.{Included, Excluded, Unbounded}
use Rattle.rsb_integer.specs.Runs.{Interval, covers, members, IsMaximalRun}
use Rattle.rsb_integer.specs.Selection.{Selection, difference, union}

-- ---- selections of ranks

-- Only this rank.
abbrev pub only : ℕ → Selection
only rank other = other == rank

-- The least rank that a start bound allows.
abbrev pub first_rank : {T : Type 0} → (T → ℕ) → Bound T → ℕ
first_rank rank (Included value) = rank value
first_rank rank (Excluded value) = rank value + 1
first_rank rank Unbounded = 0

-- The least rank past all that an end bound allows, in a type of n values.
abbrev pub past_rank : {T : Type 0} → (T → ℕ) → ℕ → Bound T → ℕ
past_rank rank n (Included value) = rank value + 1
past_rank rank n (Excluded value) = rank value
past_rank rank n Unbounded = n

-- The ranks between two bounds, in a type of n values.
abbrev pub ranks_between : {T : Type 0} → (T → ℕ) → ℕ → Bound T → Bound T → Selection
ranks_between rank n start end other = nat_le (first_rank rank start) other && nat_lt other
    (past_rank rank n end)

-- The ranks between the bounds of a range, in a type of n values.
abbrev pub ranks_in : {T R : Type 0} → (T → ℕ) → ℕ → (R → Bound T) → (R → Bound T) → R → Selection
ranks_in rank n start_bound end_bound range =
    ranks_between rank n (start_bound range) (end_bound range)

-- ---- sets before and after a call

-- Whether the new set has the members of the old one and the added ranks, and no others.
abbrev pub Adds : List Interval → List Interval → Selection → Type 0
Adds old new added = (rank : ℕ) → members new rank ≡ union (members old) added rank

-- Whether the new set has the members of the old one except the removed ranks, and no others.
abbrev pub Removes : List Interval → List Interval → Selection → Type 0
Removes old new removed = (rank : ℕ) → members new rank ≡ difference (members old) removed rank

-- Whether the members of the set are exactly the selected ranks.
abbrev pub IsSetOf : List Interval → Selection → Type 0
IsSetOf set selected = (rank : ℕ) → members set rank ≡ selected rank

-- Whether the rank or the one before it is a member. If so, some run contains the rank or ends
-- right before it.
abbrev pub IsReached : List Interval → ℕ → Type 0
IsReached set rank = (member : ℕ) × IsTrue (members set member) × (member ≤ rank)
    × (rank ≤ member + 1)

-- ---- single ranks and runs

-- Whether the rank is the least that is selected, in a type of n values.
pub record IsLeast (n : ℕ) (selected : Selection) (rank : ℕ) : Type 0 where
  pub in_type : rank < n
  pub here : IsTrue (selected rank)
  pub least : (other : ℕ) → IsTrue (selected other) → rank ≤ other

-- Whether the rank is the greatest that is selected, in a type of n values.
pub record IsGreatest (n : ℕ) (selected : Selection) (rank : ℕ) : Type 0 where
  pub in_type : rank < n
  pub here : IsTrue (selected rank)
  pub greatest : (other : ℕ) → IsTrue (selected other) → other ≤ rank

-- Whether the interval is the maximal run of selected ranks that contains the rank.
pub record IsRunAround (n : ℕ) (selected : Selection) (rank : ℕ) (run : Interval) : Type 0 where
  pub maximal : IsMaximalRun n selected run
  pub around : IsTrue (covers run rank)

-- Whether every selected rank is a member.
abbrev pub HasAll : List Interval → Selection → Type 0
HasAll set selected = (rank : ℕ) → IsTrue (selected rank) → IsTrue (members set rank)
