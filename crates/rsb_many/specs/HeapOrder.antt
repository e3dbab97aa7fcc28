-- The order of a binary heap. The parent of place j is place (j - 1) / 2.
use Rattle.std.specs.Prelude.{ℕ, cond, nat_eq, ◌-◌, ◌/◌, ◌<◌, ◌≤◌, ◌≡◌, ◌≢◌, Bool, List, drop, length, slice_index_or, sum_by, All, IsFalse, IsTrue}
use Rattle.rsb_many.specs.Heads.{key_of, HasValues}
use Rattle.rsb_many.specs.Keys.{comes_before, Key}
use Rattle.rsb_many.specs.declared.heads.Head.{Head}

-- The parent of a place.
abbrev pub parent : ℕ → ℕ
parent place = (place - 1) / 2

-- ---- keys, one at each place

-- Whether the key at a place does not come before its parent's.
abbrev pub IsUnder : (ℕ → Key) → ℕ → Type 0
IsUnder keys place = IsFalse (comes_before (keys place) (keys (parent place)))

-- Whether no key comes before its parent's.
abbrev pub IsHeapOf : (ℕ → Key) → ℕ → Type 0
IsHeapOf keys count = (place : ℕ) → 0 < place → place < count → IsUnder keys place

-- Whether no key comes before its parent's, except perhaps the key at `here`.
abbrev pub IsHeapBut : (ℕ → Key) → ℕ → ℕ → Type 0
IsHeapBut keys count here =
    (place : ℕ) → 0 < place → place < count → place ≢ here → IsUnder keys place

-- Whether no key comes before its parent's, except perhaps the keys of the children of `here`.
abbrev pub IsHeapButUnder : (ℕ → Key) → ℕ → ℕ → Type 0
IsHeapButUnder keys count here =
    (place : ℕ) → 0 < place → place < count → parent place ≢ here → IsUnder keys place

-- Whether no key of a child of `here` comes before the key of the parent of `here`.
abbrev pub IsBridged : (ℕ → Key) → ℕ → ℕ → Type 0
IsBridged keys count here =
    0 < here → (place : ℕ) → 0 < place → place < count → parent place ≡ here
    → IsFalse (comes_before (keys place) (keys (parent here)))

-- ---- heads in a list

module _ {T : Type 0} (rank : T → ℕ) (heads : List (Head T)) where
  -- The key at a place. Past the last place it is the key of the given head.
  abbrev pub key_at : Head T → ℕ → Key
  key_at other place = key_of rank (slice_index_or heads place other)

  -- Whether no head comes before its parent.
  abbrev pub IsHeap : Type 0
  IsHeap = (other : Head T) → IsHeapOf (key_at other) (length heads)

  -- Whether no head comes before its parent, except perhaps the last.
  abbrev pub IsHeapButLast : Type 0
  IsHeapButLast = (other : Head T) → IsHeapBut (key_at other) (length heads) (length heads - 1)

  -- Whether no head comes before its parent, except perhaps the children of the first.
  abbrev pub IsHeapButFirst : Type 0
  IsHeapButFirst = (other : Head T) → IsHeapButUnder (key_at other) (length heads) 0

  -- Whether `child` is a child of `place`, and no other child comes before it.
  pub record IsLesserChild (place child : ℕ) : Type 0 where
    pub under : (0 < child) × (child < length heads) × (parent child ≡ place)
    pub lesser : (other : Head T) (next : ℕ) → 0 < next → next < length heads → parent next ≡ place
        → IsFalse (comes_before (key_at other next) (key_at other child))

-- The heads of a list that count: all but the first if its place is open, and otherwise all.
abbrev pub counted_heads : {T : Type 0} → Bool → List (Head T) → List (Head T)
counted_heads is_open heads = drop (cond is_open 1 0) heads

-- 1 for a head of the input, and 0 for any other.
abbrev pub is_of : {T : Type 0} → ℕ → Head T → ℕ
is_of input head = cond (nat_eq head.input input) 1 0

-- Whether a list has at most one head of each input.
abbrev pub HasOneOfEach : {T : Type 0} → List (Head T) → Type 0
HasOneOfEach heads = (input : ℕ) → sum_by (is_of input) heads ≤ 1

-- What always holds of a heap: its heads have values, none comes before its parent, and at most one
-- that counts belongs to each input. While the place at the top is open, the head that came out
-- last is still stored there.
pub record AreKept {T : Type 0} (rank : T → ℕ) (value_count : ℕ) (is_open : Bool)
    (heads : List (Head T)) : Type 0 where
  pub values : All (HasValues rank value_count) heads
  pub order : IsHeap rank heads
  pub some : IsTrue is_open → 0 < length heads
  pub one : HasOneOfEach (counted_heads is_open heads)
