-- A range that is removed from the runs that it meets, starting with the last.
use Rattle.std.proofs.Common.{◌≡◌, ◌↔◌, ℕ, Bool, true, false, not, ◌&&◌, ◌+◌, ◌<◌, ◌≤◌, List, IsTrue, ◌∙◌, inl, inr, arith, refl}
use Rattle.std.proofs.lemmas.Bool.{cases_lt, false≢true}
use Rattle.rsb_integer.specs.Runs.{Interval, covers, length_of, members, IsCanonicalIn}
use Rattle.rsb_integer.specs.Selection.{count, intersection, IsEmpty}
use Rattle.rsb_integer.proofs.lemmas.List.{true_or_false, not_both}
use Rattle.rsb_integer.proofs.lemmas.Members.{covers-bounds, covers-inside}
use Rattle.rsb_storage.specs.Set.{HasAll}
use Rattle.range_set_blaze.specs.RemoveRanges.{HasSome, IsCommon, IsLastMeeting, IsSameOutside, Lacks}
use Rattle.range_set_blaze.specs.Removal.{IsRemoved}
use Rattle.rsb_storage.specs.Set.{Removes}
use Rattle.rsb_storage.specs.Starts.{IsLastBelow, NoneBelow}
use Rattle.rsb_storage.proofs.lemmas.runs.Apart.{contained-after, contained-maximal, contained-members, last-gap, none-gap}
use Rattle.rsb_storage.proofs.lemmas.runs.Storage.{lt-fails}

-- ---- ranges that meet no run

-- If no rank of the range is a member, the runs and the range have no rank in common.
common-none : (runs : List Interval) (range : Interval)
    → ((rank : ℕ) → range.first ≤ rank → rank ≤ range.last → members runs rank ≡ false)
    → IsEmpty (intersection (members runs) (covers range))
common-none runs range free rank = elim (true_or_false (covers range rank)) [
  | inl here ↦
      let bounds = covers-bounds range rank here in
      let lacks = free rank bounds.0 bounds.1 in
      grind (arith, lacks)
  | inr outside ↦ grind (arith, outside)
]

-- If some rank of the range is a member, they have one in common.
pub some-common : (runs : List Interval) (range : Interval)
    → IsEmpty (intersection (members runs) (covers range)) → HasSome (members runs) (covers range) → ⊥
some-common runs range none some =
    let lacks = none some.0 in
    let here = some.1 in
    let member = some.2 in
    not_both (members runs some.0 && covers range some.0) (grind (arith, here, member)) lacks

module _ (n : ℕ) (runs : List Interval) (canonical : IsCanonicalIn n runs) (range : Interval) where
  -- If no run starts at or before the end of the range, none meets it.
  pub none-meets : NoneBelow runs (range.last + 1)
      → IsEmpty (intersection (members runs) (covers range))
  none-meets none = common-none runs range (λ rank from to.
      none-gap n runs canonical (range.last + 1) none rank (omega (arith, to)))

  -- If the last of those runs ends before the range, none meets it.
  pub last-before : (run : Interval) → IsLastBelow runs (range.last + 1) run → run.last < range.first
      → IsEmpty (intersection (members runs) (covers range))
  last-before run found less = common-none runs range (λ rank from to.
      last-gap n runs canonical (range.last + 1) run found rank (omega (arith, less, from))
      (omega (arith, to)))

-- ---- a run that has a rank of the range

module _ (n : ℕ) (runs : List Interval) (canonical : IsCanonicalIn n runs) (range run : Interval)
    (order : range.first ≤ range.last) (meets : IsLastMeeting runs range run) where
  -- The run is non-empty, and ends within the type.
  pub meeting-value : (run.first ≤ run.last) × (run.last < n)
  meeting-value =
      let maximal = contained-maximal n runs canonical run meets.last.among in
      (maximal.in_order, maximal.in_type)

  -- Some rank of the range is a member.
  pub meeting-some : HasSome (members runs) (covers range)
  meeting-some =
      let starts = meets.last.starts in
      let own = meeting-value.0 in
      elim (cases_lt run.first range.first) [
        | inl less ↦ (
          range.first,
          covers-inside range range.first (omega arith) order,
          contained-members n runs canonical run range.first meets.last.among
              (omega (arith, less)) meets.reaches,
        )
        | inr from ↦ (
          run.first,
          covers-inside range run.first from (omega (arith, starts)),
          contained-members n runs canonical run run.first meets.last.among (omega arith) own,
        )
      ]

  -- If the rank right after the range is not a member, the run does not extend past the range.
  pub meeting-within : Lacks n runs (range.last + 1) → run.last ≤ range.last
  meeting-within lacks = elim (cases_lt range.last run.last) [
    | inl more ↦
        let starts = meets.last.starts in
        absurd (not_both (members runs (range.last + 1))
        (contained-members n runs canonical run (range.last + 1) meets.last.among
        (omega (arith, starts)) (omega (arith, more)))
        (lacks (omega (arith, more, meeting-value.1))))
    | inr ends ↦ ends
  ]

  -- If the last rank of the range is not a member, the run does not extend past the range.
  pub meeting-ends : members runs range.last ≡ false → run.last ≤ range.last
  meeting-ends lacks = elim (cases_lt range.last run.last) [
    | inl more ↦
        let starts = meets.last.starts in
        absurd (not_both (members runs range.last)
        (contained-members n runs canonical run range.last meets.last.among (omega (arith, starts))
        (omega (arith, more))) lacks)
    | inr ends ↦ ends
  ]

  module _ (piece : Interval) (common : IsCommon run range piece) where
    -- What the run and the range have in common is non-empty and lies in both.
    pub piece-from : run.first ≤ piece.first
    piece-from = omega (arith, common.first)

    pub piece-order : piece.first ≤ piece.last
    piece-order =
        omega (
          arith,
          common.first,
          common.last,
          order,
          meets.reaches,
          meets.last.starts,
          meeting-value.0,
        )

    pub piece-to : piece.last ≤ run.last
    piece-to = omega (arith, common.last)

    pub piece-ends : run.last ≤ range.last → run.last ≤ piece.last
    piece-ends ends = omega (arith, common.last, ends)

    module _ (new : List Interval) (removed : IsRemoved n runs new piece) where
      -- Removing the piece changes nothing outside the range.
      pub taken-outside : IsSameOutside range runs new
      taken-outside rank outside =
          removed.removes rank
          ∙ elim (true_or_false (covers piece rank)) [
            | inl here ↦
                let bounds = covers-bounds piece rank here in
                absurd (not_both (covers range rank)
                (covers-inside range rank (omega (arith, bounds.0, common.first))
                (omega (arith, bounds.1, common.last))) outside)
            | inr lacks ↦ grind (arith, lacks)
          ]

      -- After that, the last rank of the range is not a member.
      pub taken-ends : members new range.last ≡ false
      taken-ends =
          removed.removes range.last
          ∙ elim (cases_lt run.last range.last) [
            | inl less ↦
                let gap = last-gap n runs canonical (range.last + 1) run meets.last range.last less
                (omega arith) in
                grind (arith, gap)
            | inr reaches ↦
                let here = covers-inside piece range.last
                (omega (arith, common.first, order, meets.last.starts))
                (omega (arith, common.last, reaches)) in
                grind (arith, here)
          ]

      -- So there are fewer members.
      pub taken-fewer : count n (members new) < count n (members runs)
      taken-fewer = omega (arith, removed.counted, piece-order)

      -- The ranks of the piece are among the members that were counted.
      pub taken-counted : length_of piece ≤ count n (members runs)
      taken-counted = omega (arith, removed.counted)

-- ---- ranges that are removed

-- If two changes leave everything outside the range as it is, so do both together.
pub outside-then : (range : Interval) (old mid new : List Interval) → IsSameOutside range old mid
    → IsSameOutside range mid new → IsSameOutside range old new
outside-then range old mid new first second rank outside =
    second rank outside ∙ first rank outside

-- If no member is left in the range, exactly its ranks are removed.
pub outside-removes : (range : Interval) (old new : List Interval) → IsSameOutside range old new
    → IsEmpty (intersection (members new) (covers range)) → Removes old new (covers range)
outside-removes range old new outside none rank = elim (true_or_false (covers range rank)) [
  | inl here ↦ let lacks = none rank in grind (arith, here, lacks)
  | inr beyond ↦ let same = outside rank beyond in grind (arith, beyond, same)
]

-- ---- whether a set has a whole range

module _ (n : ℕ) (runs : List Interval) (canonical : IsCanonicalIn n runs) (range : Interval)
    (order : range.first ≤ range.last) where
  -- If no run starts at or before the start of the range, the set does not have the whole range.
  pub none-has : NoneBelow runs (range.first + 1) → HasAll runs (covers range) → ⊥
  none-has none has = not_both (members runs range.first)
      (has range.first (covers-inside range range.first (omega arith) order))
      (none-gap n runs canonical (range.first + 1) none range.first (omega arith))

  module _ (run : Interval) (found : IsLastBelow runs (range.first + 1) run) where
    -- If the last of those runs ends at the end of the range or past it, the set has the whole
    -- range.
    pub last-has : range.last ≤ run.last → HasAll runs (covers range)
    last-has ends rank here =
        let bounds = covers-bounds range rank here in
        let starts = found.starts in
        contained-members n runs canonical run rank found.among (omega (arith, starts, bounds.0))
        (omega (arith, bounds.1, ends))

    -- Otherwise the set does not have the whole range.
    pub last-lacks : run.last < range.last → HasAll runs (covers range) → ⊥
    last-lacks less has = elim (cases_lt run.last range.first) [
      | inl before ↦ not_both (members runs range.first)
          (has range.first (covers-inside range range.first (omega arith) order))
          (last-gap n runs canonical (range.first + 1) run found range.first before (omega arith))
      | inr reaches ↦ not_both (members runs (run.last + 1))
          (has (run.last + 1) (covers-inside range (run.last + 1) (omega (arith, reaches))
          (omega (arith, less))))
          (contained-after n runs canonical run (run.last + 1) found.among refl)
    ]

    -- So where that run ends determines whether the set has the whole range.
    pub has-told : (less : Bool) → IsTrue less ↔ (run.last < range.last)
        → IsTrue (not less) ↔ HasAll runs (covers range)
    has-told true tells = (
      λ is. absurd (false≢true is),
      λ has. absurd (last-lacks (tells.0 refl) has),
    )
    has-told false tells = (λ is. last-has (lt-fails false _ _ tells refl), λ has. refl)
