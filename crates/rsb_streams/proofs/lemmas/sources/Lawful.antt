-- Lawful streams, as sources of streams that are known to satisfy a law.
use Rattle.rsb_integer.specs.declared.integer.Integer.{Ghosts as Elements}
use Rattle.rsb_streams.specs.declared.draw.Draw.{Ghosts as Stream}
use Rattle.std.proofs.Common.{ℕ, List, [], ◌∷◌, ◌++◌, sym, subst}
use Rattle.std.specs.Iterator.{IsFinite, Yields}
use Rattle.std.specs.Prelude.{Some}
use Rattle.std.specs.declared.iter.Iterator.{Ghosts as Iteration}
use Rattle.std.specs.declared.ops.RangeInclusive.{RangeInclusive}
use Rattle.rsb_integer.specs.Rank.{intervals_of}
use Rattle.rsb_integer.specs.Runs.{Interval, IsCanonicalIn}
use Rattle.rsb_integer.proofs.lemmas.Canonical.{canonical-front}
use Rattle.rsb_streams.specs.Adapters.{NextIsDraw}
use Rattle.rsb_streams.specs.Calls.{Call, IsSource}
use Rattle.rsb_streams.specs.laws.Calls.{calls-steps}
use Rattle.rsb_streams.specs.laws.Stream.{settled_canonical_in, settled_sorted, settled_spaced}
use Rattle.rsb_streams.specs.Touching.{IsTouchingIn}
use Rattle.rsb_streams.specs.laws.Touching.{touching-canonical_in}
use Rattle.rsb_streams.proofs.lemmas.checking.Spaced.{spaced-front}
use Rattle.rsb_streams.specs.Stream.{◌⊆◌, HasSortedStarts, HasSortedStartsFrom}
use Rattle.rsb_streams.proofs.lemmas.sources.Known.{IsLawful}

-- A prefix of a list sorted by start is sorted by start.
pub sorted-front : (n low : ℕ) (runs others : List Interval)
    → HasSortedStartsFrom n low (runs ++ others)
    → HasSortedStartsFrom n low runs
sorted-front n low [] others sorted = tt
sorted-front n low (run ∷ runs) others sorted = record {
  starts = sorted.starts;
  in_order = sorted.in_order;
  in_type = sorted.in_type;
  rest = sorted-front n run.first runs others sorted.rest;
}

module _ {S T N : Type 0} (integer : Elements T N) (source : Stream S T N)
    (next : Iteration S (RangeInclusive T)) (laws : IsLawful integer source)
    (drawn : NextIsDraw source next) where
  open integer use {rank, value_count as n}

  -- What calls gave, followed by what may still come, might come before the calls.
  given-before : (ranges : List (RangeInclusive T)) (s t : S) (rest : List Interval)
      → Yields next.next_gives s ranges t → source.may_give t rest
      → source.may_give s (intervals_of rank ranges ++ rest)
  given-before [] s t rest all may = subst (λ each. source.may_give each rest) (sym all) may
  given-before (range ∷ ranges) s t rest all may =
      laws.answers s all.0 (Some range) (drawn.gives s all.0 range all.1) (intervals_of rank ranges ++ rest)
      (given-before ranges all.0 t rest all.2 may)

  -- After calls that gave ranges, the stream may be called.
  callable-after : (ranges : List (RangeInclusive T)) (s t : S) → next.can_next s
      → IsFinite (next.remaining s)
      → Yields (Call rank next) s ranges t → next.can_next t
  callable-after [] s t can finite all = subst next.can_next all can
  callable-after (range ∷ ranges) s t can finite all =
      let near = all.1.nearer finite in callable-after ranges all.0 t near.0 near.1 all.2

  -- Here the law holds of a prefix if it holds of the whole list, and holds if it cannot fail.
  module _ (law : List Interval → Type 0)
      (front : (runs others : List Interval) → law (runs ++ others) → law runs)
      (settled : (runs : List Interval) → ¬ (¬ (law runs)) → law runs) where
    -- If a stream gives only what satisfies the law, it is a source for that law.
    pub lawful-source : (s : S) → next.can_next s → source.may_give s ⊆ law
        → IsSource rank next law s
    lawful-source s can keeps =
        let finite = subst IsFinite (sym (drawn.counts s)) (laws.sorted s (drawn.drawable s can)).ends in
        record {
          callable = can;
          finite = finite;
          fronts = λ ranges t all. settled (intervals_of rank ranges) (λ fails.
              (laws.sorted t (drawn.drawable t (callable-after ranges s t can finite all))).some (λ rest may.
              fails (front (intervals_of rank ranges) rest (keeps (intervals_of rank ranges ++ rest)
              (given-before ranges s t rest
              (calls-steps rank next ranges s t all)
              may)))));
        }

  -- Every lawful stream is a source of a list sorted by start.
  pub sorted-source : (s : S) → next.can_next s
      → IsSource rank next (HasSortedStarts n) s
  sorted-source s can =
      lawful-source (HasSortedStarts n) (sorted-front n 0) (settled_sorted n 0) s can
      (laws.sorted s (drawn.drawable s can)).all

  -- Every canonical stream is a source of a canonical list.
  pub canonical-source : (s : S) → next.can_next s → source.may_give s ⊆ IsCanonicalIn n
      → IsSource rank next (IsCanonicalIn n) s
  canonical-source =
      lawful-source (IsCanonicalIn n) (canonical-front n) (settled_canonical_in n)

  -- Every stream that gives touching lists is a source of a touching list.
  pub touching-source : (s : S) → next.can_next s → source.may_give s ⊆ IsTouchingIn n
      → IsSource rank next (IsTouchingIn n) s
  touching-source =
      lawful-source (IsTouchingIn n) (spaced-front 1 n) (settled_spaced 1 n)

  -- Every canonical stream is a source of a touching list, because its ranges do not overlap.
  pub canonical-touching_source : (s : S) → next.can_next s → source.may_give s ⊆ IsCanonicalIn n
      → IsSource rank next (IsTouchingIn n) s
  canonical-touching_source s can canonical =
      touching-source s can (λ runs may. touching-canonical_in n runs (canonical runs may))
