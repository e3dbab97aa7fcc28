-- The laws of streams of which one law about a single call is known: they are canonical, or ascend
-- and may touch.
use Rattle.std.proofs.Common.{ℕ, ◌+◌, ◌<◌, ◌≤◌, List, [], ◌∷◌, subst, sym, arith}
use Rattle.std.proofs.lemmas.List.Elements.{All-cons, All-nil}
use Rattle.std.specs.Prelude.{Option, Some}
use Rattle.std.specs.Iterator.{Count, IsFinite, Yields, size}
use Rattle.std.specs.declared.ops.RangeInclusive.{RangeInclusive}
use Rattle.rsb_integer.specs.Rank.{interval_of, intervals_of}
use Rattle.rsb_integer.specs.Runs.{Interval, AllEndBelow, IsCanonicalIn}
use Rattle.rsb_streams.specs.Ascending.{Ascends, AscendsBy, AscendsTouching}
use Rattle.rsb_streams.specs.Calls.{gives_by}
use Rattle.rsb_streams.specs.laws.Calls.{gives_by-some}
use Rattle.rsb_streams.specs.Stream.{Keeps}
use Rattle.rsb_streams.specs.laws.Stream.{keeps-weaker, spaced-canonical}
use Rattle.rsb_streams.specs.Touching.{IsSpacedFrom, IsSpacedIn, IsTouchingIn}

module _ {S T : Type 0} (rank : T → ℕ) (n : ℕ) (can_next : S → Type 0)
    (steps : S → Option (RangeInclusive T) → S → Type 0) (remaining : S → Count) (low : S → ℕ) where
  module _ (gap : ℕ)
      (ascends : (s t : S) (range : RangeInclusive T) → can_next s → steps s (Some range) t
      → AscendsBy rank n can_next remaining low gap s range t) where
    -- What calls give is spaced from each rank that is at most `low`.
    spaced-from : (ranges : List (RangeInclusive T)) (s t : S) (from : ℕ) → can_next s
        → from ≤ low s
        → Yields steps s ranges t
        → IsSpacedFrom gap from (intervals_of rank ranges)
        × AllEndBelow n (intervals_of rank ranges)
    spaced-from [] s t from can least all = (tt, All-nil (λ (run : Interval). run.last < n))
    spaced-from (range ∷ ranges) s t from can least all =
        let run = interval_of rank range in
        let call = ascends s all.0 range can all.1 in
        let rest = spaced-from ranges all.0 t (run.last + gap) call.nearer.0 call.past all.2 in (
          record {
            starts = omega (arith, least, call.from_low);
            in_order = call.in_order;
            rest = rest.0;
          },
          All-cons (λ (each : Interval). each.last < n) run (intervals_of rank ranges)
              call.in_type rest.1,
        )

    -- The stream may give something, all that it may give is spaced, and it ends.
    spaced-keeps : (s : S) → can_next s → IsFinite (remaining s)
        → Keeps (IsSpacedIn gap n) (gives_by rank steps s) (remaining s)
    spaced-keeps s can finite = record {
      some = gives_by-some rank steps can_next (λ each. size (remaining each))
          (λ old new range ready call.
          let near = (ascends old new range ready call).nearer in (near.0, near.2))
          (size (remaining s)) s can (omega arith);
      all = λ runs at.
          let fronts = spaced-from at.0 s at.1 0 can (omega arith) at.3 in
          subst (IsSpacedIn gap n) (sym at.2)
          (record { spaced = fronts.0; within = fronts.1 });
      ends = finite;
    }

  -- If each range leaves a gap, all that the stream may give is canonical.
  pub ascending-keeps : ((s t : S) (range : RangeInclusive T) → can_next s → steps s (Some range) t
      → Ascends rank n can_next remaining low s range t)
      → (s : S) → can_next s → IsFinite (remaining s)
      → Keeps (IsCanonicalIn n) (gives_by rank steps s) (remaining s)
  ascending-keeps ascends s can finite =
      keeps-weaker (spaced-canonical n) (spaced-keeps 2 ascends s can finite)

  -- If ranges may touch, all that the stream may give ascends and may touch.
  pub touching-keeps : ((s t : S) (range : RangeInclusive T) → can_next s → steps s (Some range) t
      → AscendsTouching rank n can_next remaining low s range t)
      → (s : S) → can_next s → IsFinite (remaining s)
      → Keeps (IsTouchingIn n) (gives_by rank steps s) (remaining s)
  touching-keeps = spaced-keeps 1
