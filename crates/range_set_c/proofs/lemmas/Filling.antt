-- An array that gets the items of a list, place by place, until it is full or no item is left.
use Rattle.std.proofs.Common.{◌≡◌, ℕ, Bool, ◌&&◌, nat_le, nat_lt, ◌+◌, ◌≤◌, List, [], ◌++◌, length, map, min, take, drop, sym, ap, ◌∙◌, subst, arith}
use Rattle.std.proofs.Common.{slice_index_or, slice_set}
use Rattle.std.proofs.lemmas.Bool.Decides.{nat_tests}
use Rattle.std.proofs.lemmas.List.{length-append, length-map, length-take-le, set-get_or, take-map}
use Rattle.std.proofs.Math.Nat.{min-eq_left, min-eq_right}
use Rattle.std.proofs.Math.Seq.{take-append_seam}
use Rattle.rsb_integer.specs.Runs.{Interval, covers, from_to, members, AreRuns}
use Rattle.rsb_integer.specs.Selection.{Selection, intersection}
use Rattle.rsb_integer.proofs.lemmas.Runs.{runs-along}
use Rattle.range_set_c.specs.Walk.{BeginsWithRuns}

module _ {X Y : Type 0} (value : X → Y) (all : List Y) (old : List X) where
  -- Whether the first `count` places of the array have the first of all items, and the others are
  -- as they were. `left` has the items that are left.
  pub record IsFilling (new : List X) (count : ℕ) (left : List Y) : Type 0 where
    pub stored : map value (take count new) ++ left ≡ all
    pub kept : drop count new ≡ drop count old

  module _ (new : List X) (count : ℕ) (left : List Y) (fits : count ≤ length new)
      (filling : IsFilling new count left) where
    stored-length : length (map value (take count new)) ≡ count
    stored-length = length-map (take count new) value ∙ length-take-le count new fits

    -- The array begins with the first items.
    pub filled : take count (map value new) ≡ take count all
    filled =
        let front = map value (take count new) in
        take-map value count new
        ∙ sym (subst (λ (n : ℕ). take n (front ++ left) ≡ front) stored-length
        (take-append_seam front left))
        ∙ ap (take count) filling.stored

    all-length : count + length left ≡ length all
    all-length =
        subst (λ (n : ℕ). n + length left ≡ length all) stored-length
        (sym (length-append (map value (take count new)) left) ∙ ap length filling.stored)

    -- If no item is left, the array has all of them.
    pub ended-count : left ≡ [] → count ≡ min (length all) (length new)
    ended-count none =
        let rest = ap length none in
        let items = all-length in
        let same : count ≡ length all = omega (arith, rest, items) in
        same ∙ sym (min-eq_left (omega (arith, fits, same)))

    -- If the array is full, there are at least as many items.
    pub full-count : length new ≤ count → count ≡ min (length all) (length new)
    full-count full =
        let items = all-length in
        let same : count ≡ length new = omega (arith, full, fits) in
        same ∙ sym (min-eq_right (omega (arith, full, items)))

-- ---- an array that gets the runs of a set

-- The runs between two bounds are those of the members in an interval.
pub runs-between : (n : ℕ) (set runs : List Interval) (start end first last : ℕ) → start ≡ first
    → end ≡ last
    → AreRuns n (intersection (members set) (λ rank. nat_le start rank && nat_lt rank (end + 1))) runs
    → AreRuns n (intersection (members set) (covers (from_to first last))) runs
runs-between n set runs start end first last begins ends all =
    runs-along n _ _ runs (λ rank below. ap (λ (inside : Bool). members set rank && inside)
    (grind (arith, nat_tests, begins, ends))) all

module _ {X : Type 0} (interval : X → Interval) (n : ℕ) (selected : Selection)
    (all : List Interval) (runs : AreRuns n selected all) (old new : List X) (count : ℕ)
    (left : List Interval) (same : length new ≡ length old) (fits : count ≤ length old)
    (filling : IsFilling interval all old new count left) where
  within : count ≤ length new
  within = omega (arith, same, fits)

  begins : count ≡ min (length all) (length new)
      → BeginsWithRuns n selected (length old) (map interval new) count
  begins counted = record {
    all = all;
    runs = runs;
    counted = counted ∙ ap (min (length all)) same;
    begins = filled interval all old new count left within filling;
  }

  -- No run is left. The place that would get the next one keeps what it has.
  pub begins-ended : left ≡ [] → (other : X)
      → BeginsWithRuns n selected (length old)
      (map interval (slice_set new count (slice_index_or new count other))) count
  begins-ended none other =
      subst (λ (items : List X).
      BeginsWithRuns n selected (length old) (map interval items) count)
      (sym (set-get_or new count other))
      (begins (ended-count interval all old new count left within filling none))

  -- The array is full.
  pub begins-full : length old ≤ count
      → BeginsWithRuns n selected (length old) (map interval new) (length new)
  begins-full full =
      let all-places : count ≡ length new = omega (arith, same, fits, full) in
      subst (BeginsWithRuns n selected (length old) (map interval new)) all-places
      (begins (full-count interval all old new count left within filling
      (omega (arith, all-places))))
