-- How many runs the results of operations on streams have.
use Rattle.std.proofs.Common.{◌≡◌, ℕ, Bool, false, List}
use Rattle.std.proofs.lemmas.Bool.{and_parts}
use Rattle.rsb_integer.specs.Runs.{Interval, members, AreRuns, IsCanonicalIn}
use Rattle.rsb_integer.specs.Selection.{Selection, complement, intersection}
use Rattle.rsb_integer.specs.declared.integer.Integer.{Ghosts as Elements}
use Rattle.rsb_integer.proofs.lemmas.Begins.{runs-none}
use Rattle.rsb_integer.proofs.lemmas.RunCount.{runs-complement, runs-intersection, runs-of_one}
use Rattle.rsb_integer.proofs.lemmas.Runs.{canonical-runs}
use Rattle.rsb_streams.specs.RunCount.{GivesFewerRunsThanBoth, GivesOneRunMoreAtMost, GivesRunsOfBothAtMost, HasFewerRunsThanBoth, HasOneRunMoreAtMost, HasRunsOfBothAtMost, bounded_by, bounded_by_two}
use Rattle.rsb_streams.specs.Stream.{Outcomes, ◌⊆◌, runs_by, runs_by_two}
use Rattle.rsb_streams.specs.declared.draw.Draw.{Ghosts as Stream}

-- ---- of lists

-- An intersection has no run if one of the lists has none, and otherwise fewer than both together.
bounded-intersection : (n : ℕ) (left right runs : List Interval) → IsCanonicalIn n left
    → IsCanonicalIn n right → AreRuns n (intersection (members left) (members right)) runs
    → HasFewerRunsThanBoth left right runs
bounded-intersection n left right runs canonical also are =
    let one = canonical-runs n left canonical.apart canonical.within in
    let other = canonical-runs n right also.apart also.within in
    let both = intersection (members left) (members right) in (
      runs-none n (members left) both left runs one are
          (λ rank in_both. (and_parts (members left rank) (members right rank) in_both).0),
      runs-none n (members right) both right runs other are
          (λ rank in_both. (and_parts (members left rank) (members right rank) in_both).1),
      λ some more. runs-intersection n (members left) (members right) left right runs one other are some,
    )

-- ---- of streams that give canonical lists

-- A bound on the runs that an operation has for one list is a bound for a stream.
bounded-runs_by : (n : ℕ) (Bound : List Interval → List Interval → Type 0)
    (operation : Selection → Selection) (P Given : Outcomes)
    → ((given runs : List Interval) → IsCanonicalIn n given
    → AreRuns n (operation (members given)) runs → Bound given runs)
    → P ⊆ IsCanonicalIn n → Given ⊆ runs_by n operation P
    → Given ⊆ bounded_by n Bound operation P
bounded-runs_by n Bound operation P Given bounds canonical gives runs may = λ nothing.
    gives runs may (λ given at are.
    nothing given at (are, bounds given runs (canonical given at) are))

-- A bound on the runs that an operation has for two lists is a bound for two streams.
bounded-runs_by_two : (n : ℕ) (Bound : List Interval → List Interval → List Interval → Type 0)
    (operation : Selection → Selection → Selection) (P Q Given : Outcomes)
    → ((left right runs : List Interval) → IsCanonicalIn n left → IsCanonicalIn n right
    → AreRuns n (operation (members left) (members right)) runs → Bound left right runs)
    → P ⊆ IsCanonicalIn n → Q ⊆ IsCanonicalIn n → Given ⊆ runs_by_two n operation P Q
    → Given ⊆ bounded_by_two n Bound operation P Q
bounded-runs_by_two n Bound operation P Q Given bounds canonical also gives runs may = λ nothing.
    gives runs may (λ left right at too are.
    nothing left right at too
    (are, bounds left right runs (canonical left at) (also right too) are))

-- A complement has at most one run more.
pub run_count-complement : {T N I O : Type 0} (integer : Elements T N) (stream : Stream I T N)
    (made : Stream O T N) (of : I) (result : O)
    → stream.may_give of ⊆ IsCanonicalIn integer.value_count
    → made.may_give result ⊆ runs_by integer.value_count complement (stream.may_give of)
    → GivesOneRunMoreAtMost integer stream made of result
unfolding GivesOneRunMoreAtMost
run_count-complement integer stream made of result =
    let n = integer.value_count in
    bounded-runs_by n HasOneRunMoreAtMost complement (stream.may_give of) (made.may_give result)
    (λ given runs canonical. runs-complement n (members given) given runs
    (canonical-runs n given canonical.apart canonical.within))

module _ {T N L R O : Type 0} (integer : Elements T N) (left : Stream L T N) (right : Stream R T N)
    (made : Stream O T N) (one : L) (other : R) (result : O) where
  open integer use {value_count as n}

  -- If an operation selects no rank that is in neither set, its result has at most as many runs as
  -- both.
  pub run_count-of_one : (op : Bool → Bool → Bool) → op false false ≡ false
      → left.may_give one ⊆ IsCanonicalIn n → right.may_give other ⊆ IsCanonicalIn n
      → made.may_give result ⊆ runs_by_two n (λ these those rank. op (these rank) (those rank))
      (left.may_give one) (right.may_give other)
      → GivesRunsOfBothAtMost (λ these those rank. op (these rank) (those rank)) integer left right
      made one other result
  unfolding GivesRunsOfBothAtMost
  run_count-of_one op none = bounded-runs_by_two n HasRunsOfBothAtMost
      (λ these those rank. op (these rank) (those rank)) (left.may_give one) (right.may_give other)
      (made.may_give result)
      (λ these those runs canonical also. runs-of_one op none n (members these) (members those)
      these those runs (canonical-runs n these canonical.apart canonical.within)
      (canonical-runs n those also.apart also.within))

  -- An intersection has fewer runs than both.
  pub run_count-intersection : left.may_give one ⊆ IsCanonicalIn n
      → right.may_give other ⊆ IsCanonicalIn n
      → made.may_give result ⊆ runs_by_two n intersection (left.may_give one) (right.may_give other)
      → GivesFewerRunsThanBoth integer left right made one other result
  unfolding GivesFewerRunsThanBoth
  run_count-intersection = bounded-runs_by_two n HasFewerRunsThanBoth intersection
      (left.may_give one) (right.may_give other) (made.may_give result) (bounded-intersection n)
