-- Sets built from any number of sets.
use Rattle.std.specs.Iterator.Runs.{EachRunFrom}
use Rattle.std.specs.Prelude.{◌≡◌, ℕ, ◌≤◌, List, length, map, sum_by, true, Option}
use Rattle.rsb_integer.specs.Runs.{Interval, members}
use Rattle.rsb_integer.specs.Selection.{Agree, Selection}

-- Whether the set has the ranks that an operation selects from the sets, in a type of n values.
abbrev pub IsMadeOf : ℕ → (List Selection → Selection) → List (List Interval) → List Interval
    → Type 0
IsMadeOf n operation sets set = Agree n (members set) (operation (map members sets))

-- Whether the set has at most as many runs as the others together.
abbrev pub HasRunsOfAllAtMost : List (List Interval) → List Interval → Type 0
HasRunsOfAllAtMost sets set =
    length set ≤ sum_by (λ (runs : List Interval). length runs) sets

-- Whether the items that the value gives as an iterator, up to `None`, show these sets. `shown` says
-- which sets a list of items shows. The proof search finds this for a slice, an array and a list.
abbrev pub GivesSets : {J I X : Type 0} → (J → I → Type 0) → (I → Option X → I → Type 0)
    → (List X → List (List Interval)) → J → List (List Interval) → Type 0
GivesSets {I = I} becomes steps shown value sets = (iter : I) → becomes value iter
    → EachRunFrom steps iter (λ run. run.whole ≡ true → shown run.items ≡ sets)
