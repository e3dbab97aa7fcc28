-- The order of two maps, found piece by piece.
use Rattle.std.proofs.Common.{◌≡◌, ◌↔◌, ◌⊎◌, ℕ, zero, suc, Bool, true, false, ◌+◌, ◌-◌, ◌<◌, ◌≤◌, List, [], ◌∷◌, ◌++◌, Option, Some, None, refl, sym, ap, ◌∙◌, inl, inr, arith, length}
use Rattle.std.specs.Cmp.{alike_right, Equal-is, IsTotalOrder}
use Rattle.std.specs.Cmp.Lexicographic.{slice_cmp}
use Rattle.std.specs.Ordering.{is_ne, eq_by_cmp, nat_cmp, ordering_then}
use Rattle.std.specs.declared.cmp.Ordering.{Ordering}
use Rattle.std.specs.declared.cmp.Ordering.TheVariants.{Less, Equal, Greater}
use Rattle.std.proofs.lemmas.Bool.{cases_lt}
use Rattle.std.proofs.lemmas.Bool.Decides.{nat_tests}
use Rattle.rsb_integer.specs.Runs.{Interval}
use Rattle.range_map_blaze.specs.Map.{none_at, value_at, IsMapFrom, IsMapIn}
use Rattle.range_map_blaze.specs.Order.{map_cmp, pair_cmp, pair_if_any, pairs, pairs_from}
use Rattle.range_map_blaze.specs.Parts.{after}
use Rattle.range_map_blaze.proofs.lemmas.Parted.{after-later, after-map, after-value, after-whole, after-cut, is-less, is-not-less}
use Rattle.range_map_blaze.proofs.lemmas.Values.{map-first, map-lower, value-below, value-here}

-- ---- orders

-- The order of a number and itself.
nat_cmp-itself : (a : ℕ) → nat_cmp a a ≡ Equal
nat_cmp-itself a = grind (arith, nat_tests)

-- A first comparison that is not equal decides.
then-first : (first second : Ordering) → true ≡ is_ne first → ordering_then first second ≡ first
then-first Less second differs = refl
then-first Equal second differs = absurd (cc)
then-first Greater second differs = refl

-- An order that is not different from equal is equal.
equal-if : (order : Ordering) → false ≡ is_ne order → order ≡ Equal
equal-if Less level = absurd (cc)
equal-if Equal level = refl
equal-if Greater level = absurd (cc)

-- If a first comparison is equal, the second decides.
pub then-second : (starts ranks values found : Ordering) → starts ≡ ranks → false ≡ is_ne starts
    → values ≡ found → values ≡ ordering_then ranks found
then-second starts ranks values found same level is =
    is ∙ ap (λ first. ordering_then first found) (sym (sym same ∙ equal-if starts level))

module _ {V : Type 0} where
  -- ---- lists of pairs

  -- Functions that agree at these ranks have the same pairs there.
  pairs-same : (low more : ℕ) (value other : ℕ → Option V)
      → ((rank : ℕ) → low ≤ rank → value rank ≡ other rank)
      → pairs_from low more value ≡ pairs_from low more other
  unfolding pairs_from
  pairs-same low zero value other same = refl
  pairs-same low (suc more) value other same =
      let here = same low (omega arith) in
      let rest = pairs-same (suc low) more value other (λ rank from. same rank (omega (arith, from))) in
      λ i. pair_if_any low (here i) ++ rest i

  -- Ranks with no value are passed over.
  pairs-skip : (low skipped more : ℕ) (value : ℕ → Option V)
      → ((rank : ℕ) → low ≤ rank → rank < low + skipped → value rank ≡ None)
      → pairs_from low (skipped + more) value ≡ pairs_from (low + skipped) more value
  unfolding pairs_from
  pairs-skip low zero more value none =
      let count : zero + more ≡ more = omega arith in
      let start : low ≡ low + zero = omega arith in
      λ i. pairs_from (start i) (count i) value
  pairs-skip low (suc skipped) more value none =
      let count : suc skipped + more ≡ suc (skipped + more) = omega arith in
      let start : suc low + skipped ≡ low + suc skipped = omega arith in
      ap (λ each. pairs_from low each value) count
      ∙ ap (λ found. pair_if_any low found ++ pairs_from (suc low) (skipped + more) value)
      (none low (omega arith) (omega arith))
      ∙ pairs-skip (suc low) skipped more value
      (λ rank from below. none rank (omega (arith, from)) (omega (arith, below)))
      ∙ ap (λ each. pairs_from each more value) start

  -- With no value at all, there are no pairs.
  pairs-none : (low more : ℕ) → pairs_from {V = V} low more none_at ≡ []
  unfolding pairs_from
  pairs-none low zero = refl
  pairs-none low (suc more) = pairs-none (suc low) more

  -- The pairs of a map start with the first key and its value.
  pairs-first : (n : ℕ) (piece : Interval × V) (pieces : List (Interval × V)) → IsMapIn n (piece ∷ pieces)
      → (rest : List (ℕ × V)) × (pairs n (piece ∷ pieces) ≡ (piece.0.first, piece.1) ∷ rest)
  unfolding pairs_from
  pairs-first n piece pieces canonical =
      let order = canonical.1 in
      let ends = canonical.2 in
      let first = piece.0.first in
      let value = value_at (piece ∷ pieces) in
      let count : n ≡ first + suc (n - first - 1) = omega (arith, order, ends) in
      let start : 0 + first ≡ first = omega arith in (
        pairs_from (suc first) (n - first - 1) value,
        ap (λ each. pairs_from 0 each value) count
            ∙ pairs-skip 0 first (suc (n - first - 1)) value
            (λ rank from below. value-below n first (piece ∷ pieces) rank
            (map-first n 0 piece pieces canonical) (omega (arith, below)))
            ∙ ap (λ each. pairs_from each (suc (n - first - 1)) value) start
            ∙ ap (λ found. pair_if_any first found ++ pairs_from (suc first) (n - first - 1) value)
            (value-here piece pieces first (omega arith) order),
      )

module _ {V : Type 0} (cmp : V → V → Ordering) where
  -- Whether two functions have no value at a rank, or values of which neither is less.
  TiedAt : Option V → Option V → Type 0
  TiedAt None None = Unit {0}
  TiedAt None (Some other) = ⊥
  TiedAt (Some value) None = ⊥
  TiedAt (Some value) (Some other) = cmp value other ≡ Equal

  tied-first : (low : ℕ) (found other : Option V) (left right : List (ℕ × V)) → TiedAt found other
      → slice_cmp (pair_cmp cmp) (pair_if_any low found ++ left) (pair_if_any low other ++ right)
      ≡ slice_cmp (pair_cmp cmp) left right
  unfolding TiedAt
  tied-first low None None left right tied = refl
  tied-first low None (Some other) left right tied = absurd tied
  tied-first low (Some value) None left right tied = absurd tied
  tied-first low (Some value) (Some other) left right tied = rw (nat_cmp-itself low, tied) refl

  -- Ranks where two functions are tied are passed over.
  order-skip : (low skipped more : ℕ) (left right : ℕ → Option V)
      → ((rank : ℕ) → low ≤ rank → rank < low + skipped → TiedAt (left rank) (right rank))
      → slice_cmp (pair_cmp cmp) (pairs_from low (skipped + more) left) (pairs_from low (skipped + more) right)
      ≡ slice_cmp (pair_cmp cmp) (pairs_from (low + skipped) more left) (pairs_from (low + skipped) more right)
  unfolding pairs_from
  order-skip low zero more left right tied =
      let count : zero + more ≡ more = omega arith in
      let start : low ≡ low + zero = omega arith in
      λ i. slice_cmp (pair_cmp cmp) (pairs_from (start i) (count i) left) (pairs_from (start i) (count i) right)
  order-skip low (suc skipped) more left right tied =
      let count : suc skipped + more ≡ suc (skipped + more) = omega arith in
      let start : suc low + skipped ≡ low + suc skipped = omega arith in
      ap (λ each. slice_cmp (pair_cmp cmp) (pairs_from low each left) (pairs_from low each right)) count
      ∙ tied-first low (left low) (right low) (pairs_from (suc low) (skipped + more) left)
      (pairs_from (suc low) (skipped + more) right) (tied low (omega arith) (omega arith))
      ∙ order-skip (suc low) skipped more left right
      (λ rank from below. tied rank (omega (arith, from)) (omega (arith, below)))
      ∙ ap (λ each. slice_cmp (pair_cmp cmp) (pairs_from each more left) (pairs_from each more right)) start

  -- ---- maps

  module _ (n : ℕ) where
    -- If the first pairs of two maps are different, they determine the order.
    pub heads-decide : (piece other : Interval × V) (pieces others : List (Interval × V)) (heads : Ordering)
        → IsMapIn n (piece ∷ pieces) → IsMapIn n (other ∷ others)
        → heads ≡ pair_cmp cmp (piece.0.first, piece.1) (other.0.first, other.1)
        → true ≡ is_ne heads
        → heads ≡ map_cmp n cmp (piece ∷ pieces) (other ∷ others)
    heads-decide piece other pieces others heads left right is differs =
        let one = pairs-first n piece pieces left in
        let two = pairs-first n other others right in
        let first = pair_cmp cmp (piece.0.first, piece.1) (other.0.first, other.1) in
        is
        ∙ sym (then-first first (slice_cmp (pair_cmp cmp) one.0 two.0) (differs ∙ ap is_ne is))
        ∙ λ i. slice_cmp (pair_cmp cmp) (sym one.1 i) (sym two.1 i)

    -- A map with a key is greater than the empty one, and that is less.
    pub some-greater : (piece : Interval × V) (pieces : List (Interval × V)) → IsMapIn n (piece ∷ pieces)
        → Greater ≡ map_cmp n cmp (piece ∷ pieces) []
    some-greater piece pieces canonical =
        let one = pairs-first n piece pieces canonical in
        λ i. slice_cmp (pair_cmp cmp) (sym one.1 i) (sym (pairs-none {V = V} 0 n) i)

    pub none-less : (other : Interval × V) (others : List (Interval × V)) → IsMapIn n (other ∷ others)
        → Less ≡ map_cmp n cmp [] (other ∷ others)
    none-less other others canonical =
        let one = pairs-first n other others canonical in
        λ i. slice_cmp (pair_cmp cmp) (sym (pairs-none {V = V} 0 n) i) (sym one.1 i)

    pub none-equal : Equal ≡ map_cmp n cmp [] []
    none-equal = λ i. slice_cmp (pair_cmp cmp) (sym (pairs-none {V = V} 0 n) i) (sym (pairs-none {V = V} 0 n) i)

    -- The part past a rank has nothing at or below it.
    past-none : (end : ℕ) (pieces : List (Interval × V)) → IsMapIn n pieces → (rank : ℕ) → rank ≤ end
        → value_at (after end pieces) rank ≡ None
    past-none end pieces canonical rank most =
        after-value n 0 end pieces rank canonical ∙ rw (is-not-less end rank most) refl

    past-same : (end : ℕ) (pieces : List (Interval × V)) → IsMapIn n pieces → (rank : ℕ) → end < rank
        → value_at (after end pieces) rank ≡ value_at pieces rank
    past-same end pieces canonical rank past =
        after-value n 0 end pieces rank canonical ∙ rw (is-less end rank past) refl

    -- Two maps that are tied up to a rank compare as their parts past it do.
    past-order : (end : ℕ) (left right : List (Interval × V)) → IsMapIn n left → IsMapIn n right → end < n
        → ((rank : ℕ) → rank ≤ end → TiedAt (value_at left rank) (value_at right rank))
        → map_cmp n cmp (after end left) (after end right) ≡ map_cmp n cmp left right
    unfolding TiedAt
    past-order end left right one two below tied =
        let more = n - end - 1 in
        let count : n ≡ (end + 1) + more = omega (arith, below) in
        let all = λ (f g : ℕ → Option V). slice_cmp (pair_cmp cmp) (pairs_from 0 n f) (pairs_from 0 n g) in
        let skip = λ (f g : ℕ → Option V) (both : (rank : ℕ) → rank ≤ end → TiedAt (f rank) (g rank)).
        ap (λ each. slice_cmp (pair_cmp cmp) (pairs_from 0 each f) (pairs_from 0 each g)) count
        ∙ order-skip 0 (end + 1) more f g (λ rank from within. both rank (omega (arith, within))) in
        let parts = λ (pieces : List (Interval × V)) (canonical : IsMapIn n pieces).
        pairs-same (0 + (end + 1)) more (value_at (after end pieces)) (value_at pieces)
        (λ rank from. past-same end pieces canonical rank (omega (arith, from))) in
        skip (value_at (after end left)) (value_at (after end right))
        (λ rank most. rw (past-none end left one rank most, past-none end right two rank most) tt)
        ∙ (λ i. slice_cmp (pair_cmp cmp) (parts left one i) (parts right two i))
        ∙ sym (skip (value_at left) (value_at right) tied)

    -- If the first pieces have the same start and values of which neither is less, the maps compare
    -- as their parts past a common rank of these pieces do.
    pub heads-passed : (piece other : Interval × V) (pieces others : List (Interval × V)) (end : ℕ)
        → IsMapIn n (piece ∷ pieces) → IsMapIn n (other ∷ others)
        → piece.0.first ≡ other.0.first → cmp piece.1 other.1 ≡ Equal
        → end ≤ piece.0.last → end ≤ other.0.last
        → map_cmp n cmp (after end (piece ∷ pieces)) (after end (other ∷ others))
        ≡ map_cmp n cmp (piece ∷ pieces) (other ∷ others)
    unfolding TiedAt
    heads-passed piece other pieces others end left right start tie within inside =
        let ends = left.2 in
        past-order end (piece ∷ pieces) (other ∷ others) left right (omega (arith, within, ends))
        (λ rank most. elim (cases_lt rank piece.0.first) [
          | inl below ↦
              rw (
                value-below n piece.0.first (piece ∷ pieces) rank (map-first n 0 piece pieces left) below,
                value-below n other.0.first (other ∷ others) rank (map-first n 0 other others right)
                    (omega (arith, below, start)),
              ) tt
          | inr from ↦
              rw (
                value-here piece pieces rank from (omega (arith, most, within)),
                value-here other others rank (omega (arith, from, start)) (omega (arith, most, inside)),
              ) tie
        ])

    -- If the first pairs of two maps compare as equal, they have one rank, and values of which neither
    -- is less.
    pub heads-tied : (rank other : ℕ) (value found : V)
        → false ≡ is_ne (pair_cmp cmp (rank, value) (other, found))
        → (rank ≡ other) × (cmp value found ≡ Equal)
    heads-tied rank other value found is = by (nat_cmp rank other) refl is
      where
        by : (first : Ordering) → nat_cmp rank other ≡ first
            → false ≡ is_ne (ordering_then first (cmp value found))
            → (rank ≡ other) × (cmp value found ≡ Equal)
        by Less first is = absurd (cc)
        by Equal first is = (grind (arith, nat_tests, first), equal-if (cmp value found) is)
        by Greater first is = absurd (cc)

    -- ---- fewer pieces are left

    after-length : (low end : ℕ) (pieces : List (Interval × V)) → IsMapFrom n low pieces
        → length (after end pieces) ≤ length pieces
    after-length low end [] canonical = omega arith
    after-length low end (piece ∷ pieces) canonical = elim (cases_lt end piece.0.last) [
      | inl over ↦ elim (cases_lt end piece.0.first) [
        | inl starts ↦ rw (after-whole end piece pieces over starts) (omega arith)
        | inr within ↦ rw (after-cut end piece pieces over within) (omega arith)
      ]
      | inr below ↦
          let rest = after-length (piece.0.last + 1) end pieces canonical.4 in
          rw (after-later end piece pieces below) (omega (arith, rest))
    ]

    after-fewer : (end : ℕ) (piece : Interval × V) (pieces : List (Interval × V))
        → IsMapIn n (piece ∷ pieces) → piece.0.last ≤ end
        → length (after end (piece ∷ pieces)) < length (piece ∷ pieces)
    after-fewer end piece pieces canonical most =
        let rest = after-length (piece.0.last + 1) end pieces canonical.4 in
        rw (after-later end piece pieces most) (omega (arith, rest))

    -- The parts of two maps past the end of the shorter first piece have fewer pieces.
    pub both-fewer : (end : ℕ) (piece other : Interval × V) (pieces others : List (Interval × V))
        → IsMapIn n (piece ∷ pieces) → IsMapIn n (other ∷ others)
        → (piece.0.last ≤ end) ⊎ (other.0.last ≤ end)
        → length (after end (piece ∷ pieces)) + length (after end (other ∷ others))
        < length (piece ∷ pieces) + length (other ∷ others)
    both-fewer end piece other pieces others left right shorter = elim shorter [
      | inl one ↦
          let fewer = after-fewer end piece pieces left one in
          let least = after-length 0 end (other ∷ others) right in
          omega (arith, fewer, least)
      | inr two ↦
          let fewer = after-fewer end other others right two in
          let least = after-length 0 end (piece ∷ pieces) left in
          omega (arith, fewer, least)
    ]

    pub after-canonical : (end : ℕ) (pieces : List (Interval × V)) → IsMapIn n pieces
        → IsMapIn n (after end pieces)
    after-canonical end pieces canonical =
        map-lower n (end + 1) 0 (after end pieces) (omega arith) (after-map n 0 end pieces canonical)

-- ---- what is seen of a value compares as the value does

module _ {V : Type 0} (eq : V → V → Bool) (cmp : V → V → Ordering) (seen : V → V)
    (exact : (left right : V) → (eq left right ≡ true) ↔ (seen left ≡ seen right))
    (twice : (value : V) → seen (seen value) ≡ seen value) (total : IsTotalOrder cmp)
    (ties : (left right : V) → eq left right ≡ eq_by_cmp cmp left right) where
  tied-seen : (value : V) → cmp value (seen value) ≡ Equal
  tied-seen value =
      (Equal-is (cmp value (seen value))).0
      (sym (ties value (seen value)) ∙ (exact value (seen value)).1 (sym (twice value)))

  pub seen-cmp : (left right : V) → cmp left right ≡ cmp (seen left) (seen right)
  seen-cmp left right =
      total.congr left (seen left) right (tied-seen left)
      ∙ alike_right total right (seen right) (seen left) (tied-seen right)
