-- What a set feeds to a hasher: its length, and the start and the end of each run. It is stated in
-- terms of the ranks of the set, since the law of `Hash` is about every list, canonical or not.
use Rattle.std.specs.Hash.{HashWrites}
use Rattle.std.specs.Prelude.{ℕ, zero, suc, Bool, false, not, ◌&&◌, cond, nat_lt, List, [], ◌∷◌, ◌++◌, flat_map}
use Rattle.rsb_integer.specs.Runs.{Interval, members}
use Rattle.rsb_integer.specs.Selection.{Selection, count}

-- The selected ranks below n.
abbrev pub selected_below : ℕ → Selection → Selection
selected_below n selected rank = nat_lt rank n && selected rank

-- Whether the rank right before the given one is selected. No rank is before 0.
abbrev pub selected_before : Selection → ℕ → Bool
selected_before selected zero = false
selected_before selected (suc rank) = selected rank

-- The rank, once if a run begins there and once if one ends there. This depends on whether the
-- rank, the one before it and the one after it are selected.
abbrev pub bounds_by : Bool → Bool → Bool → ℕ → List ℕ
bounds_by here earlier later rank =
    cond (here && not earlier) (rank ∷ []) [] ++ cond (here && not later) (rank ∷ []) []

-- The rank, once if a maximal run of the set begins there and once if one ends there.
abbrev pub bounds_at : Selection → ℕ → List ℕ
bounds_at selected rank =
    bounds_by (selected rank) (selected_before selected rank) (selected (suc rank)) rank

-- The first and the last rank of each maximal run of the set, in ascending order, among the given
-- number of ranks from `low` on.
unfoldable pub bounds_from : Selection → ℕ → ℕ → List ℕ
bounds_from selected low zero = []
bounds_from selected low (suc more) =
    bounds_at selected low ++ bounds_from selected (suc low) more

-- The first and the last rank of each maximal run of a set, in a type of n values.
abbrev pub run_bounds : ℕ → Selection → List ℕ
run_bounds n selected = bounds_from (selected_below n selected) 0 n

-- The first and the last rank of each interval of a list.
abbrev pub ends_of_runs : List Interval → List ℕ
ends_of_runs runs = flat_map (λ (run : Interval). run.first ∷ run.last ∷ []) runs

-- What a set feeds, given what lengths and values feed: its length, and the start and the end of
-- each of its runs in ascending order.
abbrev pub hashed_runs : (ℕ → HashWrites) → (ℕ → HashWrites) → ℕ → List Interval → HashWrites
hashed_runs length_fed value_fed n set =
    length_fed (count n (members set)) ++ flat_map value_fed (run_bounds n (members set))
