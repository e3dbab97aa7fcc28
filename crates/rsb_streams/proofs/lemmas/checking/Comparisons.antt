-- Comparisons of values, by their ranks.
use Rattle.std.proofs.Common.{◌≡◌, ℕ, ◌+◌, ◌<◌, ◌≤◌, ◌&&◌, Bool, true, false, cond, max, min, nat_eq, nat_le, nat_lt, not, refl, sym, ap, ◌∙◌, inl, inr, arith}
use Rattle.std.proofs.Math.Bool.{not-not}
use Rattle.std.proofs.lemmas.Bool.{cases_lt}
use Rattle.std.proofs.lemmas.Bool.Decides.{nat_tests}
use Rattle.std.specs.Prelude.{Option, Some, IsTrue, MatchBool}
use Rattle.std.specs.Cmp.{IsPartialOrder, ties}
use Rattle.std.specs.Ordering.{is_eq, is_le, is_lt, is_some_and, nat_cmp, ord_max, ord_min, partial_le, partial_lt}
use Rattle.std.specs.declared.cmp.Ordering.{Ordering}
use Rattle.std.specs.Range.{range_inclusive_start, range_inclusive_end, range_inclusive_exhausted}
use Rattle.std.specs.declared.ops.RangeInclusive.{RangeInclusive}
use Rattle.rsb_integer.specs.Rank.{interval_of}
use Rattle.rsb_integer.specs.Runs.{Interval, HasNoRanks, HasRanks}
use Rattle.rsb_integer.proofs.lemmas.List.{not_both}
use Rattle.rsb_integer.proofs.lemmas.Members.{same_interval}
use Rattle.rsb_integer.proofs.lemmas.Range.{exhausted-some}
use Rattle.rsb_streams.proofs.lemmas.sources.Known.{range-end, range-start}
use borrow.Author.Tests.{eq-eqb, eqb-true, leb-false, leb-true, ltb-false, ltb-true}
use mathlib.Core.Bool.{beq}

-- A comparison of two numbers is less exactly if the first is less than the second.
pub is_lt-nat : (a b : ℕ) → is_lt (nat_cmp a b) ≡ nat_lt a b
is_lt-nat a b = grind (arith, nat_tests)

-- A comparison of two numbers is less or equal exactly if the first is at most the second.
is_le-nat : (a b : ℕ) → is_le (nat_cmp a b) ≡ nat_le a b
is_le-nat a b = grind (arith, nat_tests)

-- The value chosen for its greater rank has the greater of both ranks.
later-rank : {T : Type 0} (rank : T → ℕ) (x y : T) (test : Bool) → nat_lt (rank y) (rank x) ≡ test
    → rank (cond test x y) ≡ max (rank x) (rank y)
later-rank rank x y true is = let less = ltb-true (rank y) (rank x) is in omega arith
later-rank rank x y false is = let most = ltb-false (rank y) (rank x) is in omega arith

-- The value chosen for its lesser rank has the lesser of both ranks.
earlier-rank : {T : Type 0} (rank : T → ℕ) (x y : T) (test : Bool) → nat_lt (rank y) (rank x) ≡ test
    → rank (cond test y x) ≡ min (rank x) (rank y)
earlier-rank rank x y true is = let less = ltb-true (rank y) (rank x) is in omega arith
earlier-rank rank x y false is = let most = ltb-false (rank y) (rank x) is in omega arith

-- Whether values are ordered as their ranks are.
pub record IsRanked {T : Type 0} (rank : T → ℕ) (n : ℕ)
    (partial_cmp : T → T → Option Ordering) (cmp : T → T → Ordering) : Type 0 where
  pub matches : (x y : T) → partial_cmp x y ≡ Some (cmp x y)
  pub in_order : (x y : T) → rank x < n → rank y < n → cmp x y ≡ nat_cmp (rank x) (rank y)

-- Whether the interval is non-empty.
abbrev has_rank : Interval → Bool
has_rank run = nat_le run.first run.last

module _ {T : Type 0} {rank : T → ℕ} {n : ℕ} {partial_cmp : T → T → Option Ordering}
    {cmp : T → T → Ordering} (ranked : IsRanked rank n partial_cmp cmp)
    (x y : T) (left : rank x < n) (right : rank y < n) where
  -- One value is less than another exactly if its rank is.
  pub less-by : partial_lt partial_cmp x y ≡ nat_lt (rank x) (rank y)
  less-by =
      ap (is_some_and is_lt) (ranked.matches x y) ∙ ap is_lt (ranked.in_order x y left right)
      ∙ is_lt-nat (rank x) (rank y)

  -- A lesser value has a lesser rank.
  pub less-rank : true ≡ partial_lt partial_cmp x y → rank x < rank y
  less-rank is = ltb-true (rank x) (rank y) (sym less-by ∙ sym is)

  -- If one value is not less than another, neither is its rank.
  pub not_less-rank : false ≡ partial_lt partial_cmp x y → rank y ≤ rank x
  not_less-rank is = ltb-false (rank x) (rank y) (sym less-by ∙ sym is)

  -- One value is at most another exactly if its rank is.
  pub at_most-by : partial_le partial_cmp x y ≡ nat_le (rank x) (rank y)
  at_most-by =
      ap (is_some_and is_le) (ranked.matches x y) ∙ ap is_le (ranked.in_order x y left right)
      ∙ is_le-nat (rank x) (rank y)

  -- Whether `answer` is what `is_empty` returns for a range between two values, which may be
  -- iterated to its end.
  abbrev IsEmptyBy : Bool → Bool → Type 0
  IsEmptyBy exhausted answer =
      MatchBool exhausted (IsTrue answer) (answer ≡ not (partial_le partial_cmp x y))

  -- The range is non-empty exactly if `is_empty` returns false.
  some-by : (exhausted answer : Bool) → IsEmptyBy exhausted answer
      → has_rank (interval_of rank (record { start = x; end = y; exhausted = exhausted })) ≡ not answer
  some-by true answer is = ap not (sym is)
  some-by false answer is =
      sym at_most-by ∙ sym (not-not (partial_le partial_cmp x y)) ∙ ap not (sym is)

  -- The range ends within the type.
  below-by : (exhausted : Bool)
      → (interval_of rank (record { start = x; end = y; exhausted = exhausted })).last < n
  below-by true = omega arith
  below-by false = right

  -- The rank of the greater value is the greater rank.
  pub max-rank : rank (ord_max cmp x y) ≡ max (rank x) (rank y)
  max-rank =
      ap (λ test. rank (cond test x y))
      (ap is_lt (ranked.in_order y x right left) ∙ is_lt-nat (rank y) (rank x))
      ∙ later-rank rank x y (nat_lt (rank y) (rank x)) refl

  -- The rank of the lesser value is the lesser rank.
  pub min-rank : rank (ord_min cmp x y) ≡ min (rank x) (rank y)
  min-rank =
      ap (λ test. rank (cond test y x))
      (ap is_lt (ranked.in_order y x right left) ∙ is_lt-nat (rank y) (rank x))
      ∙ earlier-rank rank x y (nat_lt (rank y) (rank x)) refl

module _ {T : Type 0} {rank : T → ℕ} {n : ℕ} {partial_cmp : T → T → Option Ordering}
    {cmp : T → T → Ordering} (ranked : IsRanked rank n partial_cmp cmp)
    (range : RangeInclusive T) (left : rank (range_inclusive_start range) < n)
    (right : rank (range_inclusive_end range) < n) where
  -- Whether `answer` is what `is_empty` returns for the range.
  abbrev IsEmptyAt : Bool → Type 0
  IsEmptyAt answer = IsEmptyBy ranked (range_inclusive_start range)
      (range_inclusive_end range) left right (range_inclusive_exhausted range) answer

  -- A range whose ends are values of the type ends within the type.
  pub ends-below : (interval_of rank range).last < n
  ends-below = below-by ranked (range_inclusive_start range)
      (range_inclusive_end range) left right (range_inclusive_exhausted range)

  -- The range is non-empty exactly if `is_empty` returns false.
  pub some-test : (answer : Bool) → IsEmptyAt answer → has_rank (interval_of rank range) ≡ not answer
  some-test answer is = some-by ranked (range_inclusive_start range)
      (range_inclusive_end range) left right (range_inclusive_exhausted range) answer is

  -- If `is_empty` returns true, the range is empty.
  pub empty-ranks : IsEmptyAt true → HasNoRanks (interval_of rank range)
  empty-ranks is = leb-false _ _ (some-test true is)

  -- If `is_empty` returns false, the range is non-empty.
  pub some-ranks : IsEmptyAt false → HasRanks (interval_of rank range)
  some-ranks is = leb-true _ _ (some-test false is)

-- A comparison of two numbers is equal exactly if they are equal.
is_eq-nat : (a b : ℕ) → is_eq (nat_cmp a b) ≡ nat_eq a b
is_eq-nat a b = grind (arith, nat_tests)

-- If all three tests are true, so are the first two.
three-hold : (a b c : Bool) → (a && (b && c)) ≡ true → (a ≡ true) × (b ≡ true)
three-hold true true c holds = (refl, refl)
three-hold true false c holds = absurd (cc)
three-hold false b c holds = absurd (cc)

module _ {T : Type 0} {rank : T → ℕ} {n : ℕ} {partial_cmp : T → T → Option Ordering}
    {cmp : T → T → Ordering} (ranked : IsRanked rank n partial_cmp cmp)
    (eq : T → T → Bool) (ordered : IsPartialOrder eq partial_cmp) where
  -- Values are equal exactly if their ranks are.
  equal-by : (x y : T) → rank x < n → rank y < n → eq x y ≡ nat_eq (rank x) (rank y)
  equal-by x y left right =
      ties ordered ranked.matches x y ∙ ap is_eq (ranked.in_order x y left right)
      ∙ is_eq-nat (rank x) (rank y)

  -- What `==` returns for two ranges.
  abbrev range_eq : RangeInclusive T → RangeInclusive T → Bool
  range_eq x y = eq (range_inclusive_start x) (range_inclusive_start y)
      && (eq (range_inclusive_end x) (range_inclusive_end y)
      && beq (range_inclusive_exhausted x) (range_inclusive_exhausted y))

  module _ (range other : RangeInclusive T)
      (some : (interval_of rank range).first ≤ (interval_of rank range).last)
      (below : (interval_of rank range).last < n)
      (some_other : (interval_of rank other).first ≤ (interval_of rank other).last)
      (below_other : (interval_of rank other).last < n) where
    -- Their starts are equal exactly if their first ranks are.
    starts-by : eq (range_inclusive_start range) (range_inclusive_start other)
        ≡ nat_eq (interval_of rank range).first (interval_of rank other).first
    starts-by =
        let start = range-start rank range some in
        let start_other = range-start rank other some_other in
        equal-by (range_inclusive_start range) (range_inclusive_start other)
        (omega (arith, start)) (omega (arith, start_other))
        ∙ ap (λ first. nat_eq first (rank (range_inclusive_start other))) (sym start)
        ∙ ap (nat_eq (interval_of rank range).first) (sym start_other)

    -- Their ends are equal exactly if their last ranks are.
    ends-by : eq (range_inclusive_end range) (range_inclusive_end other)
        ≡ nat_eq (interval_of rank range).last (interval_of rank other).last
    ends-by =
        let end = range-end rank range some in
        let end_other = range-end rank other some_other in
        equal-by (range_inclusive_end range) (range_inclusive_end other)
        (omega (arith, end)) (omega (arith, end_other))
        ∙ ap (λ last. nat_eq last (rank (range_inclusive_end other))) (sym end)
        ∙ ap (nat_eq (interval_of rank range).last) (sym end_other)

    -- Non-empty ranges that `!=` does not tell apart have the same ranks.
    pub same-ranks : false ≡ not (range_eq range other)
        → interval_of rank range ≡ interval_of rank other
    same-ranks is =
        let parts = three-hold (eq (range_inclusive_start range) (range_inclusive_start other))
        (eq (range_inclusive_end range) (range_inclusive_end other))
        (beq (range_inclusive_exhausted range) (range_inclusive_exhausted other))
        (sym (not-not (range_eq range other)) ∙ sym (ap not is)) in
        same_interval (interval_of rank range) (interval_of rank other)
        (eqb-true _ _ (sym starts-by ∙ parts.0)) (eqb-true _ _ (sym ends-by ∙ parts.1))

    -- Ranges that `!=` tells apart do not have the same ranks.
    pub other-ranks : true ≡ not (range_eq range other)
        → ¬ (interval_of rank range ≡ interval_of rank other)
    other-ranks is same =
        let start : eq (range_inclusive_start range) (range_inclusive_start other) ≡ true =
        starts-by ∙ eq-eqb _ _ (ap (λ (run : Interval). run.first) same) in
        let end : eq (range_inclusive_end range) (range_inclusive_end other) ≡ true =
        ends-by ∙ eq-eqb _ _ (ap (λ (run : Interval). run.last) same) in
        let equal : range_eq range other ≡ true =
        rw (start, end, exhausted-some rank range some, exhausted-some rank other some_other) refl in
        not_both (not (range_eq range other)) (sym is) (ap not equal)

-- What `checked_add_one` returns is a value of the type.
pub next-value : (n end next : ℕ) → end < n → (end + 1 ≡ n → ⊥) → next ≡ end + 1 → next < n
next-value n end next below more is = elim (cases_lt (end + 1) n) [
  | inl less ↦ omega arith
  | inr most ↦ absurd (more (omega arith))
]
