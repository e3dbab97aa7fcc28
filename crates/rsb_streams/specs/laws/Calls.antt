-- The laws of streams of which only the results of calls are known.
use Rattle.std.proofs.Common.{ℕ, zero, suc, ◌<◌, ◌≤◌, List, [], ◌∷◌, refl, sym, ap, subst, inl, inr, arith}
use Rattle.std.specs.Prelude.{Option, Some, None}
use Rattle.std.specs.Iterator.{IsFinite, IsNearerEnd, Yields, size}
use Rattle.std.specs.declared.iter.Iterator.{Ghosts as Iteration}
use Rattle.std.specs.declared.ops.RangeInclusive.{RangeInclusive}
use Rattle.rsb_integer.specs.Rank.{interval_of, intervals_of}
use Rattle.rsb_integer.specs.Runs.{Interval, IsCanonicalIn}
use Rattle.rsb_integer.specs.declared.integer.Integer.{Ghosts as Elements}
use Rattle.rsb_streams.specs.Calls.{calls, gives_by, Call, IsSource}
use Rattle.rsb_streams.specs.Fused.{fuse}
use Rattle.rsb_streams.specs.laws.Fused.{fuse-answered, fuse-keeps}
use Rattle.rsb_streams.specs.Rows.{IsAnswered, IsDisjoint, IsSorted, KeepsLaw}
use Rattle.rsb_streams.specs.Stream.{Answers, HasOutcome, HasSortedStarts}
use Rattle.rsb_streams.specs.Touching.{IsTouchingIn}
use Rattle.rsb_integer.proofs.lemmas.Canonical.{canonical-none}
use Rattle.rsb_streams.specs.laws.Stream.{spaced-none}

module _ {S T : Type 0} (rank : T → ℕ) (call : S → Option (RangeInclusive T) → S → Type 0) where
  -- A call fits what may be given: what it returned comes first, followed by what later calls give.
  pub gives_by-answers : (s t : S) (item : Option (RangeInclusive T)) → call s item t
      → Answers rank (gives_by rank call) s item t
  gives_by-answers s t None this = ([], s, refl, refl, inl (t, this))
  gives_by-answers s t (Some range) this = λ rest at. (
    range ∷ at.0,
    at.1,
    ap (λ runs. interval_of rank range ∷ runs) at.2,
    (t, this, at.3),
    at.4,
  )

  -- If fewer ranges are still to come after each range, calls give something. `more` is at least
  -- the number still to come.
  pub gives_by-some : (can_next : S → Type 0) (left : S → ℕ)
      → ((s t : S) (range : RangeInclusive T) → can_next s → call s (Some range) t
      → can_next t × (left t < left s))
      → (more : ℕ) (s : S) → can_next s → left s ≤ more → HasOutcome (gives_by rank call s)
  gives_by-some can_next left fewer zero s can most = λ never. never [] (
    [],
    s,
    refl,
    refl,
    inr (λ range u this. let next = fewer s u range can this in absurd (omega (arith, next.1))),
  )
  gives_by-some can_next left fewer (suc more) s can most = λ never. never [] (
    [],
    s,
    refl,
    refl,
    inr (λ range u this.
        let next = fewer s u range can this in
        gives_by-some can_next left fewer more u next.0 (omega (arith, next.1))
        (λ rest at. never (interval_of rank range ∷ rest)
        (gives_by-answers s u (Some range) this rest at))),
  )

module _ {I T : Type 0} (rank : T → ℕ) (iterator : Iteration I (RangeInclusive T)) where
  -- After a call that returns a range, fewer are still to come.
  fewer : (s t : I) (range : RangeInclusive T) → IsFinite (iterator.remaining s)
      → Call rank iterator s (Some range) t
      → IsFinite (iterator.remaining t) × (size (iterator.remaining t) < size (iterator.remaining s))
  fewer s t range finite call = let near = call.nearer finite in (near.1, near.2)

  -- If the law passes from a list to its tail, an iterator that satisfies it still does after a
  -- call.
  pub source-after : (law : List Interval → Type 0)
      → ((run : Interval) (runs : List Interval) → law (run ∷ runs) → law runs)
      → (s t : I) (range : RangeInclusive T) → IsSource rank iterator law s
      → iterator.next_gives s (Some range) t
      → IsNearerEnd iterator.can_next iterator.remaining s t → IsSource rank iterator law t
  source-after law tail s t range source call near = record {
    callable = near.0;
    finite = near.1;
    fronts = λ ranges u all. tail (interval_of rank range) (intervals_of rank ranges)
        (source.fronts (range ∷ ranges) u
        (t, record { gives = call; nearer = λ finite. near }, all));
  }

  -- Successive calls as `Call` describes them are successive calls of `next`.
  pub calls-steps : (ranges : List (RangeInclusive T)) (s t : I) → Yields (Call rank iterator) s ranges t
      → Yields iterator.next_gives s ranges t
  calls-steps [] s t all = all
  calls-steps (range ∷ ranges) s t all = (all.0, all.1.gives, calls-steps ranges all.0 t all.2)

module _ {I T N : Type 0} (integer : Elements T N) (iterator : Iteration I (RangeInclusive T)) where
  -- An iterator may give something, all that its calls may give satisfies the law, and it ends.
  pub calls-keeps : (law : List Interval → Type 0) → KeepsLaw law (calls integer iterator law)
  calls-keeps law s source = record {
    some = gives_by-some integer.rank (Call integer.rank iterator)
        (λ each. IsFinite (iterator.remaining each)) (λ each. size (iterator.remaining each))
        (fewer integer.rank iterator)
        (size (iterator.remaining s)) s source.finite (omega arith);
    all = λ runs at. subst law (sym at.2) (source.fronts at.0 at.1 at.3);
    ends = source.finite;
  }

  -- A call in a `Fuse` fits what may be given.
  pub known-answered : (law : List Interval → Type 0)
      → IsAnswered integer (fuse (calls integer iterator law))
  known-answered law = fuse-answered integer (calls integer iterator law)
      (gives_by-answers integer.rank (Call integer.rank iterator))

  -- What is known to be canonical is canonical in a `Fuse`.
  pub known-disjoint :
      IsDisjoint integer (fuse (calls integer iterator (IsCanonicalIn integer.value_count)))
  known-disjoint = fuse-keeps (calls integer iterator (IsCanonicalIn integer.value_count))
      (IsCanonicalIn integer.value_count)
      (canonical-none integer.value_count)
      (calls-keeps (IsCanonicalIn integer.value_count))

  -- What is known to be sorted by start is sorted by start in a `Fuse`.
  pub known-sorted :
      IsSorted integer (fuse (calls integer iterator (HasSortedStarts integer.value_count)))
  known-sorted = fuse-keeps (calls integer iterator (HasSortedStarts integer.value_count))
      (HasSortedStarts integer.value_count) tt (calls-keeps (HasSortedStarts integer.value_count))

  -- What is known to ascend, and may touch, does so in a `Fuse`.
  pub known-touching :
      KeepsLaw (IsTouchingIn integer.value_count)
      (fuse (calls integer iterator (IsTouchingIn integer.value_count)))
  known-touching = fuse-keeps (calls integer iterator (IsTouchingIn integer.value_count))
      (IsTouchingIn integer.value_count)
      (spaced-none 1 integer.value_count)
      (calls-keeps (IsTouchingIn integer.value_count))
