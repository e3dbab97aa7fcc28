-- What comparisons of their ends determine about two ranges.
use Rattle.std.proofs.Common.{◌≡◌, ◌⊎◌, ℕ, ◌+◌, ◌<◌, ◌≤◌, Bool, true, false, cond, max, min, nat_le, not, refl, sym, ap, ◌∙◌, subst, inl, inr, arith}
use Rattle.std.specs.Prelude.{◌↔◌, Option, Some, None, IfSome, IsNone, IsTrue, MatchBool}
use Rattle.std.specs.Ordering.{ord_max, ord_min, partial_le}
use Rattle.std.specs.declared.cmp.Ordering.{Ordering}
use Rattle.std.specs.Range.{range_inclusive_start, range_inclusive_end, range_inclusive_exhausted}
use Rattle.std.specs.declared.ops.RangeInclusive.{RangeInclusive}
use Rattle.rsb_integer.specs.Rank.{interval_of}
use Rattle.rsb_integer.specs.Runs.{Interval, HasNoRanks}
use Rattle.rsb_integer.proofs.lemmas.List.{true_or_false}
use Rattle.rsb_streams.specs.UnsortedDisjoint.{starts_past, IsProper, Meet}
use Rattle.rsb_streams.proofs.lemmas.checking.Comparisons.{IsRanked, at_most-by, less-rank, max-rank, min-rank, next-value, not_less-rank}
use Rattle.rsb_streams.proofs.lemmas.sources.Known.{range-end, range-start}
use borrow.Author.Tests.{leb-true, leb-false}

-- If the test of a range returns false, the range was not iterated to its end, and its ends are in
-- order.
some-by : (exhausted test told : Bool) (first last : ℕ) → nat_le first last ≡ test
    → MatchBool exhausted (IsTrue told) (told ≡ not test) → false ≡ told
    → (exhausted ≡ false) × (first ≤ last)
some-by true test told first last is tells fails = absurd (cc)
some-by false true told first last is tells fails = (refl, leb-true first last is)
some-by false false told first last is tells fails = absurd (cc)

-- If the test of a range returns true, the range was iterated to its end, or its ends are not in
-- order.
empty-by : (exhausted test told : Bool) (first last : ℕ) → nat_le first last ≡ test
    → MatchBool exhausted (IsTrue told) (told ≡ not test) → true ≡ told
    → (exhausted ≡ true) ⊎ (last < first)
empty-by true test told first last is tells holds = inl refl
empty-by false true told first last is tells holds = absurd (cc)
empty-by false false told first last is tells holds = inr (leb-false first last is)

module _ {T : Type 0} {rank : T → ℕ} {n : ℕ} {partial_cmp : T → T → Option Ordering}
    {cmp : T → T → Ordering} (ranked : IsRanked rank n partial_cmp cmp) where
  -- The ranks of a range, by whether it was iterated to its end.
  abbrev interval_at : Bool → RangeInclusive T → Interval
  interval_at exhausted range = cond exhausted (record { first = 1; last = 0 })
      (record { first = rank (range_inclusive_start range); last = rank (range_inclusive_end range) })

  -- A range that was iterated to its end is empty.
  gone-empty : (range : RangeInclusive T) → range_inclusive_exhausted range ≡ true
      → HasNoRanks (interval_of rank range)
  gone-empty range gone =
      subst HasNoRanks (ap (λ exhausted. interval_at exhausted range) (sym gone)) (omega arith)

  -- Whether `told` is what a test of the range for emptiness returns.
  abbrev pub Tells : RangeInclusive T → Bool → Type 0
  Tells range told = MatchBool (range_inclusive_exhausted range) (IsTrue told)
      (told ≡ not (partial_le partial_cmp (range_inclusive_start range) (range_inclusive_end range)))

  module _ (range : RangeInclusive T) (start : rank (range_inclusive_start range) < n)
      (end : rank (range_inclusive_end range) < n) (told : Bool) (tells : Tells range told) where
    -- The comparison of the ends is that of their ranks.
    tested : nat_le (rank (range_inclusive_start range)) (rank (range_inclusive_end range))
        ≡ partial_le partial_cmp (range_inclusive_start range) (range_inclusive_end range)
    tested = sym (at_most-by ranked (range_inclusive_start range)
        (range_inclusive_end range) start end)

    -- If the test returns false, the range is proper.
    pub proper-told : false ≡ told → IsProper rank n range
    proper-told fails =
        let some = some-by (range_inclusive_exhausted range) _ told _ _ tested tells fails in
        let is = ap (λ exhausted. interval_at exhausted range) (sym some.0) in
        record {
          in_order = subst (λ (run : Interval). run.first ≤ run.last) is some.1;
          in_type = subst (λ (run : Interval). run.last < n) is end;
        }

    -- If the test returns true, the range is empty.
    pub empty-told : true ≡ told → HasNoRanks (interval_of rank range)
    empty-told holds = elim (empty-by (range_inclusive_exhausted range) _ told _ _ tested tells holds) [
      | inl gone ↦ gone-empty range gone
      | inr past ↦ elim (true_or_false (range_inclusive_exhausted range)) [
        | inl gone ↦ gone-empty range gone
        | inr fresh ↦
            subst HasNoRanks (ap (λ exhausted. interval_at exhausted range) (sym fresh)) past
      ]
    ]

  -- What `checked_add_one` returns at the end of a range: the next value, or `None` at the greatest
  -- one.
  pub record IsAfter (range : RangeInclusive T) (after : Option T) : Type 0 where
    pub none : IsNone after ↔ (rank (range_inclusive_end range) + 1 ≡ n)
    pub next : IfSome after (λ next. rank next ≡ rank (range_inclusive_end range) + 1)

  -- If it was called with the end of a range, `checked_add_one` returned the value after the range.
  pub is_after : (range : RangeInclusive T) (end : T) (after : Option T)
      → end ≡ range_inclusive_end range → (IsNone after ↔ (rank end + 1 ≡ n))
      → IfSome after (λ next. rank next ≡ rank end + 1) → IsAfter range after
  is_after range end after is none next = record {
    none = subst (λ value. IsNone after ↔ (rank value + 1 ≡ n)) is none;
    next = subst (λ value. IfSome after (λ next. rank next ≡ rank value + 1)) is next;
  }

  -- If `starts_past` is true, the start leaves a gap after the range.
  past-true : (after : Option T) (range : RangeInclusive T) (start : T) → IsAfter range after
      → rank (range_inclusive_end range) < n → rank start < n
      → true ≡ starts_past partial_cmp after start
      → rank (range_inclusive_end range) + 1 < rank start
  past-true None range start is end within told = absurd (cc)
  past-true (Some next) range start is end within told =
      let value = next-value n (rank (range_inclusive_end range)) (rank next) end
      (λ last. let no = is.none.1 last in absurd (cc)) is.next in
      let less = less-rank ranked next start value within told in
      omega (arith, less, is.next)

  -- If `starts_past` is false, the start leaves no gap after the range.
  past-false : (after : Option T) (range : RangeInclusive T) (start : T) → IsAfter range after
      → rank (range_inclusive_end range) < n → rank start < n
      → false ≡ starts_past partial_cmp after start
      → rank start ≤ rank (range_inclusive_end range) + 1
  past-false None range start is end within told =
      let last = is.none.0 refl in omega (arith, last, within)
  past-false (Some next) range start is end within told =
      let value = next-value n (rank (range_inclusive_end range)) (rank next) end
      (λ last. let no = is.none.1 last in absurd (cc)) is.next in
      let most = not_less-rank ranked next start value within told in
      omega (arith, most, is.next)

  -- The result of a test of a value equal to `start` is `starts_past` of `start`.
  pub told-past : (test told : Bool) (after : Option T) (value start : T) → test ≡ told
      → test ≡ starts_past partial_cmp after value → value ≡ start
      → told ≡ starts_past partial_cmp after start
  told-past test told after value start is tests same =
      sym is ∙ tests ∙ ap (starts_past partial_cmp after) same

  -- ---- two ranges

  module _ (one other : RangeInclusive T) (one_proper : IsProper rank n one)
      (other_proper : IsProper rank n other) where
    -- The first rank of `one` is that of its start.
    one_start : (interval_of rank one).first ≡ rank (range_inclusive_start one)
    one_start = range-start rank one one_proper.in_order

    -- The last rank of `one` is that of its end.
    one_end : (interval_of rank one).last ≡ rank (range_inclusive_end one)
    one_end = range-end rank one one_proper.in_order

    -- The first rank of `other` is that of its start.
    other_start : (interval_of rank other).first ≡ rank (range_inclusive_start other)
    other_start = range-start rank other other_proper.in_order

    -- The last rank of `other` is that of its end.
    other_end : (interval_of rank other).last ≡ rank (range_inclusive_end other)
    other_end = range-end rank other other_proper.in_order

    -- The start of `one` is a value of the type.
    one_value : rank (range_inclusive_start one) < n
    one_value = omega (arith, one_start, one_proper.in_order, one_proper.in_type)

    -- The start of `other` is a value of the type.
    other_value : rank (range_inclusive_start other) < n
    other_value = omega (arith, other_start, other_proper.in_order, other_proper.in_type)

    -- The end of `one` is a value of the type.
    one_last : rank (range_inclusive_end one) < n
    one_last = omega (arith, one_end, one_proper.in_type)

    -- The end of `other` is a value of the type.
    other_last : rank (range_inclusive_end other) < n
    other_last = omega (arith, other_end, other_proper.in_type)

    module _ (after_one after_other : Option T) (after : IsAfter one after_one)
        (also : IsAfter other after_other) where
      -- If neither range starts past the other, with a gap between, they overlap or touch.
      pub meet-told : false ≡ starts_past partial_cmp after_one (range_inclusive_start other)
          → false ≡ starts_past partial_cmp after_other (range_inclusive_start one)
          → Meet (interval_of rank one) (interval_of rank other)
      meet-told past before =
          let low = past-false after_other other (range_inclusive_start one) also other_last one_value
          before in
          let high = past-false after_one one (range_inclusive_start other) after one_last other_value
          past in
          (omega (arith, low, one_start, other_end), omega (arith, high, other_start, one_end))

      -- If one of the ranges starts past the other, with a gap between, they neither overlap nor
      -- touch.
      pub apart-told : (true ≡ starts_past partial_cmp after_one (range_inclusive_start other))
          ⊎ (true ≡ starts_past partial_cmp after_other (range_inclusive_start one))
          → ¬ (Meet (interval_of rank one) (interval_of rank other))
      apart-told told meets = elim told [
        | inl past ↦
            let high = past-true after_one one (range_inclusive_start other) after one_last
            other_value past in
            absurd (omega (arith, meets.1, high, other_start, one_end))
        | inr before ↦
            let low = past-true after_other other (range_inclusive_start one) also other_last one_value
            before in
            absurd (omega (arith, meets.0, low, one_start, other_end))
      ]

    -- The range from the lesser start to the greater end.
    module _ (whole : RangeInclusive T)
        (start : range_inclusive_start whole
        ≡ ord_min cmp (range_inclusive_start one) (range_inclusive_start other))
        (end : range_inclusive_end whole
        ≡ ord_max cmp (range_inclusive_end one) (range_inclusive_end other))
        (fresh : range_inclusive_exhausted whole ≡ false) where
      -- It starts at the lesser of the two starts.
      pub joined-first : (interval_of rank whole).first
          ≡ min (interval_of rank one).first (interval_of rank other).first
      joined-first =
          let least = min-rank ranked (range_inclusive_start one)
          (range_inclusive_start other) one_value other_value in
          ap (λ exhausted. (interval_at exhausted whole).first) fresh
          ∙ omega (arith, ap rank start, least, one_start, other_start)

      -- It ends at the greater of the two ends.
      pub joined-last : (interval_of rank whole).last
          ≡ max (interval_of rank one).last (interval_of rank other).last
      joined-last =
          let most = max-rank ranked (range_inclusive_end one)
          (range_inclusive_end other) one_last other_last in
          ap (λ exhausted. (interval_at exhausted whole).last) fresh
          ∙ omega (arith, ap rank end, most, one_end, other_end)

      -- It is proper.
      pub joined-proper : IsProper rank n whole
      joined-proper = record {
        in_order = omega (arith, joined-first, joined-last, one_proper.in_order);
        in_type = omega (arith, joined-last, one_proper.in_type, other_proper.in_type);
      }
