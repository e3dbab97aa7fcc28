-- Iterators whose state shows the list of the ranges to come, as sources of streams.
use Rattle.std.proofs.Common.{◌≡◌, ℕ, List, [], ◌∷◌, ◌++◌, refl, sym, ap, ◌∙◌, subst, inl, inr, arith}
use Rattle.std.proofs.lemmas.List.{append-nil, map-append}
use Rattle.std.specs.Prelude.{Some, None}
use Rattle.std.specs.Iterator.{IsFinite, Yields, YieldsFirst, item_count}
use Rattle.std.specs.declared.iter.Iterator.{Ghosts as Iteration}
use Rattle.std.specs.declared.ops.RangeInclusive.{RangeInclusive}
use Rattle.rsb_integer.specs.Rank.{interval_of, intervals_of}
use Rattle.rsb_integer.specs.Runs.{IsCanonicalIn}
use Rattle.rsb_integer.proofs.lemmas.Canonical.{canonical-front, canonical-tail}
use Rattle.rsb_streams.specs.Calls.{Call, IsSource, calls_give}
use Rattle.rsb_streams.specs.laws.Calls.{calls-steps}
use Rattle.rsb_streams.specs.Stream.{◌⊆◌, just}

module _ {S T : Type 0} (rank : T → ℕ) (iterator : Iteration S (RangeInclusive T))
    (left : S → List (RangeInclusive T))
    (some : (s t : S) (range : RangeInclusive T) → iterator.next_gives s (Some range) t
    → left s ≡ range ∷ left t)
    (none : (s t : S) → iterator.next_gives s None t → left s ≡ []) where
  -- Calls give a prefix of the list, and leave the rest.
  pub listed-yields : (ranges : List (RangeInclusive T)) (s t : S) → Yields iterator.next_gives s ranges t
      → left s ≡ ranges ++ left t
  listed-yields [] s t all = ap left all
  listed-yields (range ∷ ranges) s t all =
      some s all.0 range all.1 ∙ ap (λ rest. range ∷ rest) (listed-yields ranges all.0 t all.2)

  module _ (finite : (s : S) → IsFinite (iterator.remaining s))
      (more : (s : S) (range : RangeInclusive T) (ranges : List (RangeInclusive T)) → iterator.can_next s
      → left s ≡ range ∷ ranges → (t : S)
      × Call rank iterator s (Some range) t) where
    -- Calls give a prefix of the list and leave the rest. After them, another call may be made.
    called : (ranges : List (RangeInclusive T)) (s t : S) → iterator.can_next s
        → Yields (Call rank iterator) s ranges t → (left s ≡ ranges ++ left t)
        × iterator.can_next t
    called [] s t can all = (ap left all, subst iterator.can_next all can)
    called (range ∷ ranges) s t can all =
        let rest = called ranges all.0 t (all.1.nearer (finite s)).0 all.2 in
        (some s all.0 range all.1.gives ∙ ap (λ rest. range ∷ rest) rest.0, rest.1)

    -- If no call returns a range, none is left.
    stuck : (t : S) → iterator.can_next t
        → ((range : RangeInclusive T) (u : S)
        → ¬ (Call rank iterator t (Some range) u))
        → (ranges : List (RangeInclusive T)) → left t ≡ ranges → ranges ≡ []
    stuck t can never [] is = refl
    stuck t can never (range ∷ ranges) is =
        let next = more t range ranges can is in absurd (never range next.0 next.1)

    -- The calls give exactly the list that is left.
    pub listed-calls : (s : S) → iterator.can_next s
        → calls_give rank iterator s ⊆ just (intervals_of rank (left s))
    listed-calls s can runs at =
        let ranges = at.0 in
        let all = called ranges s at.1 can at.3 in
        let end : left at.1 ≡ [] = elim at.4 [
          | inl last ↦ none at.1 last.0 last.1.gives
          | inr never ↦ stuck at.1 all.1 never (left at.1) refl
        ] in
        at.2 ∙ ap (intervals_of rank)
        (sym (append-nil ranges) ∙ ap (λ rest. ranges ++ rest) (sym end) ∙ sym all.0)

-- ---- the list itself as the state, if it is canonical in a type of n values
module _ {T : Type 0} (rank : T → ℕ) (n : ℕ) where
  -- The type of the state: the ranges that are left.
  abbrev Ranges : Type 0
  Ranges = List (RangeInclusive T)

  -- The list as an iterator. It may be called if it is canonical, and a call returns its first
  -- range.
  abbrev pub itself : Iteration Ranges (RangeInclusive T)
  itself = record {
    can_next = λ ranges. IsCanonicalIn n (intervals_of rank ranges);
    next_gives = YieldsFirst (λ ranges. ranges);
    remaining = item_count (λ ranges. ranges);
  }

  -- If a range is left, a call returns it.
  more-left : (s : Ranges) (range : RangeInclusive T) (ranges : Ranges) → itself.can_next s → s ≡ range ∷ ranges
      → (t : Ranges) × Call rank itself s (Some range) t
  more-left s range ranges canonical is = (
    ranges,
    record {
      gives = is;
      nearer = λ finite. (
        canonical-tail n (interval_of rank range) (intervals_of rank ranges)
            (subst itself.can_next is canonical),
        tt,
        rw is (omega arith),
      );
    },
  )

  -- Its calls give exactly the list.
  pub list-calls : (s : Ranges) → itself.can_next s
      → calls_give rank itself s ⊆ just (intervals_of rank s)
  list-calls =
      listed-calls rank itself (λ ranges. ranges) (λ s t range call. call)
      (λ s t call. call.0)
      (λ s. tt) more-left

  -- It is a source of a canonical list.
  pub list-source : (s : Ranges) → itself.can_next s → IsSource rank itself (IsCanonicalIn n) s
  list-source s canonical = record {
    callable = canonical;
    finite = tt;
    fronts = λ ranges t all.
        let whole = listed-yields rank itself (λ each. each) (λ s t range call. call)
        (λ s t call. call.0) ranges s t (calls-steps rank itself ranges s t all) in
        canonical-front n (intervals_of rank ranges) (intervals_of rank t)
        (subst (IsCanonicalIn n) (ap (intervals_of rank) whole ∙ map-append (interval_of rank) ranges t)
        canonical);
  }
