-- The heads of inputs, of which the least comes out first.
use Rattle.std.specs.Prelude.{ℕ, zero, suc, Bool, true, false, cond, nat_eq, nat_lt, ◌+◌, ◌*◌, ◌/◌, ◌<◌, ◌≡◌, List, [], ◌∷◌, length, IfSome, IsFalse, None, Option, Some}
use Rattle.std.specs.Range.{range_inclusive_start, range_inclusive_end}
use Rattle.std.specs.declared.ops.RangeInclusive.{RangeInclusive}
use Rattle.rsb_integer.specs.Runs.{Interval}
use Rattle.rsb_many.specs.Keys.{comes_before, Key}
use Rattle.rsb_many.specs.declared.heads.Head.{Head}

-- What contracts see of a heap of heads: the heads, and whether the place at the top is open. They
-- read the list only by `head_of` and its length (docs/DECISIONS.md, heads-by-input). `room` is the
-- number of heads it has room for, and `comparisons` counts the comparisons of keys made so far.
pub record HeapView (T : Type 0) : Type 0 where
  pub heads : List (Head T)
  pub is_open : Bool
  pub room : ℕ
  pub comparisons : ℕ

-- The head of an input among the heads of a list, if there is one.
abbrev pub head_of : {T : Type 0} → List (Head T) → ℕ → Option (Head T)
head_of [] input = None
head_of (head ∷ heads) input = cond (nat_eq head.input input) (Some head) (head_of heads input)

-- The ranks of the range of a head.
abbrev pub run_of_head : {T : Type 0} → (T → ℕ) → Head T → Interval
run_of_head rank head = record { first = rank head.start; last = rank head.end }

-- The head of a range that was drawn from an input. It is at the start of the range.
abbrev pub head_at_start : {T : Type 0} → ℕ → RangeInclusive T → Head T
head_at_start input range = record {
  at = range_inclusive_start range;
  start = range_inclusive_start range;
  end = range_inclusive_end range;
  started = false;
  input = input;
}

-- The head of a range whose start was reported. It is at the end of the range.
abbrev pub head_at_end : {T : Type 0} → Head T → Head T
head_at_end head = record {
  at = head.end;
  start = head.start;
  end = head.end;
  started = true;
  input = head.input;
}

-- The key of a head: the start of its range, or the end once the start was reported.
abbrev pub key_of : {T : Type 0} → (T → ℕ) → Head T → Key
key_of rank head = record {
  at = cond head.started (rank head.end) (rank head.start);
  is_end = head.started;
  input = head.input;
}

-- Whether both ends of a head's range are values of a type of `value_count` values, and the head is
-- at whichever of the two ends its key gives.
pub record HasValues {T : Type 0} (rank : T → ℕ) (value_count : ℕ) (head : Head T) : Type 0 where
  pub at : rank head.at < value_count
  pub stands : rank head.at ≡ (key_of rank head).at
  pub start : rank head.start < value_count
  pub end : rank head.end < value_count

-- Whether no input has a head.
pub record HasNone {T : Type 0} (heads : List (Head T)) : Type 0 where
  pub none : (input : ℕ) → head_of heads input ≡ None
  pub count : length heads ≡ 0

-- Whether the input has this head now, if any, and each other input the head it had.
pub record SetsHead {T : Type 0} (old : List (Head T)) (input : ℕ) (now : Option (Head T))
    (new : List (Head T)) : Type 0 where
  pub here : head_of new input ≡ now
  pub others : (other : ℕ) → ¬ (other ≡ input) → head_of new other ≡ head_of old other

-- Whether `head` came out, and no head that is left comes before it.
pub record TakesLeastHead {T : Type 0} (rank : T → ℕ) (old : List (Head T)) (head : Head T)
    (new : List (Head T)) : Type 0 where
  pub was : head_of old head.input ≡ Some head
  pub leaves : SetsHead old head.input None new
  pub count : length old ≡ length new + 1
  pub least : (input : ℕ) → IfSome (head_of new input)
      (λ other. (other.input ≡ input) × IsFalse (comes_before (key_of rank other) (key_of rank head)))

-- The number of binary digits of `n`, which is 0 for 0. The first argument must be at least that
-- number.
abbrev pub digits_within : ℕ → ℕ → ℕ
digits_within zero n = 0
digits_within (suc most) n = cond (nat_lt 0 n) (suc (digits_within most (n / 2))) 0

-- The number of binary digits of a number, which is 0 for 0.
unfoldable pub binary_digits : ℕ → ℕ
binary_digits n = digits_within n n

-- The most comparisons that closing the place at the top can take: 0 if it is not open.
abbrev pub closing_bound : {T : Type 0} → HeapView T → ℕ
closing_bound kept = cond kept.is_open (2 * binary_digits (length kept.heads)) 0
