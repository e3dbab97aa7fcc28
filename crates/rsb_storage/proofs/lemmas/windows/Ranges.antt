-- The ranges of a window, one after the other.
use Rattle.std.proofs.Common.{◌≡◌, ℕ, Bool, false, not, ◌&&◌, min, nat_le, nat_lt, ◌<◌, ◌≤◌, List, [], ◌∷◌, ◌++◌, ◌∙◌, Some, map, ap, refl, sym, arith, length, length-append, subst, inl, inr}
use Rattle.std.proofs.lemmas.Bool.Decides.{nat_tests}
use Rattle.std.proofs.lemmas.List.{map-append}
use Rattle.std.specs.BTreeMap.Range.{range_contains}
use Rattle.std.specs.Iterator.{MakesProgress, item_count}
use Rattle.std.specs.List.{filter}
use Rattle.std.specs.Range.{range_inclusive_end, range_inclusive_exhausted, range_inclusive_start}
use Rattle.std.specs.Ordering.{nat_cmp, is_gt, is_le, is_lt}
use Rattle.std.specs.declared.cmp.Ordering.{Ordering}
use Rattle.std.specs.declared.ops.Bound.TheVariants.{Included}
use Rattle.std.specs.declared.ops.RangeInclusive.{RangeInclusive}
use Rattle.rsb_integer.specs.Rank.{interval_of, intervals_of}
use Rattle.rsb_integer.specs.Runs.{IsCanonicalIn}
use Rattle.rsb_integer.proofs.lemmas.Canonical.{canonical-front}
use Rattle.rsb_integer.proofs.lemmas.List.{true_or_false}
use Rattle.rsb_streams.proofs.lemmas.sources.ListCalls.{canonical-goes}
use Rattle.rsb_storage.specs.Storage.{entry_of, runs_of}
use Rattle.rsb_storage.specs.Starts.{StartsAscendFrom}
use Rattle.rsb_storage.specs.Windows.{lesser_of, range_up_to, ranges_up_to, starting_within, up_to}
use Rattle.rsb_storage.specs.declared.run.Run.{Run}
use Rattle.rsb_storage.proofs.lemmas.runs.Maps.{order-cases, runs-filter}

module _ {T : Type 0} (rank : T → ℕ) where
  -- The rank of the lesser of two values is the lesser of their ranks.
  lesser-rank : (left right : T) → rank (lesser_of rank left right) ≡ min (rank left) (rank right)
  lesser-rank left right = elim (true_or_false (nat_lt (rank right) (rank left))) [
    | inl less ↦ rw less (grind (arith, nat_tests, less))
    | inr most ↦ rw most (grind (arith, nat_tests, most))
  ]

  -- The ranges of entries up to a value have the parts of their runs up to its rank.
  pub intervals_of-ranges_up_to : (last : T) (entries : List (T × T))
      → intervals_of rank (ranges_up_to rank last entries)
      ≡ map (up_to (rank last)) (runs_of rank entries)
  intervals_of-ranges_up_to last [] = refl
  intervals_of-ranges_up_to last (entry ∷ entries) = λ i.
      (record { first = rank entry.0; last = lesser-rank entry.1 last i })
      ∷ intervals_of-ranges_up_to last entries i

module _ {T : Type 0} (rank : T → ℕ) (last : T) where
  -- If a run is the first of those that are left, its range is the first of their ranges.
  pub window-first : {entries others : List (T × T)} (run : Run T) (item : RangeInclusive T)
      → range_inclusive_start item ≡ run.start
      → range_inclusive_end item ≡ lesser_of rank run.end last
      → range_inclusive_exhausted item ≡ false → entries ≡ entry_of run ∷ others
      → ranges_up_to rank last entries ≡ item ∷ ranges_up_to rank last others
  window-first {others = others} run item starts ends more parts =
      ap (ranges_up_to rank last) parts ∙ λ i.
      (record { start = sym starts i; end = sym ends i; exhausted = sym more i })
      ∷ ranges_up_to rank last others

  -- If a run is the last of those that are left, its range is the last of their ranges.
  pub window-last : {entries : List (T × T)} (others : List (T × T)) (run : Run T)
      (item : RangeInclusive T) → range_inclusive_start item ≡ run.start
      → range_inclusive_end item ≡ lesser_of rank run.end last
      → range_inclusive_exhausted item ≡ false → entries ≡ others ++ entry_of run ∷ []
      → ranges_up_to rank last entries ≡ ranges_up_to rank last others ++ item ∷ []
  window-last others run item starts ends more parts =
      ap (ranges_up_to rank last) parts
      ∙ map-append (range_up_to rank last) others (entry_of run ∷ []) ∙ λ i.
      ranges_up_to rank last others
      ++ (record { start = sym starts i; end = sym ends i; exhausted = sym more i }) ∷ []

-- The ranges of some items.
module _ {T X : Type 0} (rank : T → ℕ) (n : ℕ) (range : X → RangeInclusive T) where
  -- Whether a call that takes a range makes progress: canonical ranges are left.
  abbrev Goes : List (RangeInclusive T) → RangeInclusive T → List (RangeInclusive T) → Type 0
  Goes ranges item rest = MakesProgress (λ each. IsCanonicalIn n (intervals_of rank each))
      (item_count (λ (each : List (RangeInclusive T)). each)) ranges (Some item) rest

  -- A call that takes the first range makes progress.
  pub mapped-goes_first : {ranges : List (RangeInclusive T)} {items others : List X} {first : X}
      {item : RangeInclusive T} → map range items ≡ ranges
      → IsCanonicalIn n (intervals_of rank ranges) → items ≡ first ∷ others
      → Goes ranges item (map range others)
  mapped-goes_first are canonical is =
      canonical-goes rank n _ _ _ _ (sym are ∙ ap (map range) is) canonical

  -- A call that takes the last range makes progress.
  pub mapped-goes_last : {ranges : List (RangeInclusive T)} {items : List X}
      {item : RangeInclusive T} (others : List X) (last : X) → map range items ≡ ranges
      → IsCanonicalIn n (intervals_of rank ranges) → items ≡ others ++ last ∷ []
      → Goes ranges item (map range others)
  mapped-goes_last others last are canonical is =
      let parts = sym are ∙ ap (map range) is ∙ map-append range others (last ∷ []) in
      let rest = canonical-front n (intervals_of rank (map range others)) _
      (subst (IsCanonicalIn n) (ap (intervals_of rank) parts
      ∙ map-append (interval_of rank) (map range others) (range last ∷ [])) canonical) in
      let count = ap length parts ∙ length-append (map range others) (range last ∷ []) in
      record { on = λ finite. (rest, tt, omega (arith, count)); keeps = rest; rests = λ finite. tt }

-- ---- ranges of a map

-- No key both passes and fails a test.
pub filter-neither : {T : Type 0} (test : T → Bool) (entries : List (T × T))
    → filter (λ (entry : T × T). test entry.0 && not (test entry.0)) entries ≡ []
filter-neither test [] = refl
filter-neither test (entry ∷ entries) = elim (true_or_false (test entry.0)) [
  | inl passes ↦ rw passes (filter-neither test entries)
  | inr fails ↦ rw fails (filter-neither test entries)
]

module _ {T : Type 0} (cmp : T → T → Ordering) (rank : T → ℕ) (n : ℕ)
    (in_order : (x y : T) → rank x < n → rank y < n → cmp x y ≡ nat_cmp (rank x) (rank y)) where
  -- A value is at most a key exactly if its rank is at most that of the key.
  from-test : (value key : T) → rank value < n → rank key < n
      → is_le (cmp value key) ≡ nat_le (rank value) (rank key)
  from-test value key known other = elim (order-cases cmp rank n in_order value key known other) [
    | inl less ↦ rw less.1 (grind (arith, nat_tests, less.0))
    | inr (inl same) ↦ rw same.1 (grind (arith, nat_tests, same.0))
    | inr (inr more) ↦ rw more.1 (grind (arith, nat_tests, more.0))
  ]

  -- A value is not less than a key exactly if the rank of the key is at most that of the value.
  to-test : (value key : T) → rank value < n → rank key < n
      → not (is_lt (cmp value key)) ≡ nat_le (rank key) (rank value)
  to-test value key known other = elim (order-cases cmp rank n in_order value key known other) [
    | inl less ↦ rw less.1 (grind (arith, nat_tests, less.0))
    | inr (inl same) ↦ rw same.1 (grind (arith, nat_tests, same.0))
    | inr (inr more) ↦ rw more.1 (grind (arith, nat_tests, more.0))
  ]

  -- If the rank of a value is at most that of another, it does not compare as greater.
  pub order-forward : (first last : T) → rank first < n → rank last < n → rank first ≤ rank last
      → is_gt (cmp first last) ≡ false
  order-forward first last low high order =
      elim (order-cases cmp rank n in_order first last low high) [
        | inl less ↦ rw less.1 refl
        | inr (inl same) ↦ rw same.1 refl
        | inr (inr more) ↦ let wrong = more.0 in absurd (omega (arith, wrong, order))
      ]

  -- The entries from one value to another have the runs that start from its rank to that of the
  -- other.
  pub runs-within : (first last : T) → rank first < n → rank last < n → (entries : List (T × T))
      → StartsAscendFrom n 0 (runs_of rank entries)
      → runs_of rank
      (filter (λ (entry : T × T). range_contains cmp (Included first) (Included last) entry.0) entries)
      ≡ starting_within (rank first) (rank last) (runs_of rank entries)
  runs-within first last low high entries ascending =
      runs-filter rank n (range_contains cmp (Included first) (Included last))
      (λ start. nat_le (rank first) start && nat_le start (rank last)) 0 entries
      (λ key other. λ i. from-test first key low other i && to-test last key high other i) ascending
