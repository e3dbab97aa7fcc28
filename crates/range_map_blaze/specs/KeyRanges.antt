-- The laws of lists of ranges that may touch, as streams.
use Rattle.std.proofs.Common.{◌≡◌, ℕ, List, ◌∷◌, ◌+◌, ◌<◌, refl, arith, subst}
use Rattle.std.specs.Prelude.{Some}
use Rattle.std.specs.Iterator.{MakesProgress, item_count}
use Rattle.std.specs.declared.ops.RangeInclusive.{RangeInclusive}
use Rattle.std.proofs.lemmas.List.Elements.{All-tail}
use Rattle.rsb_integer.specs.Rank.{interval_of, intervals_of}
use Rattle.rsb_integer.specs.Runs.{Interval}
use Rattle.rsb_streams.specs.Listed.{listed_may_give}
use Rattle.rsb_streams.specs.Stream.{Keeps}
use Rattle.rsb_streams.specs.Touching.{IsTouchingIn}
use Rattle.rsb_streams.specs.laws.Touching.{touching-lower}

-- If the ranges that are left may touch but do not overlap, so do all that may be given, and the
-- stream ends.
pub listed-touches : {T : Type 0} (rank : T → ℕ) (n : ℕ) (s : List (RangeInclusive T))
    → IsTouchingIn n (intervals_of rank s)
    → Keeps (IsTouchingIn n) (listed_may_give rank (λ (each : List (RangeInclusive T)). each) s)
    (item_count (λ (each : List (RangeInclusive T)). each) s)
listed-touches rank n s touching = record {
  some = λ never. never (intervals_of rank s) refl;
  all = λ runs at. rw at touching;
  ends = tt;
}

-- What follows the first of such intervals are such intervals.
pub touching-tail : (n : ℕ) (run : Interval) (runs : List Interval) → IsTouchingIn n (run ∷ runs)
    → IsTouchingIn n runs
touching-tail n run runs touching = record {
  spaced = touching-lower (run.last + 1) 0 runs (omega arith) touching.spaced.rest;
  within = All-tail (λ (other : Interval). other.last < n) run runs touching.within;
}

-- A call that takes the first of them makes progress.
pub touching-goes : {T : Type 0} (rank : T → ℕ) (n : ℕ) (before after : List (RangeInclusive T))
    (first item : RangeInclusive T) → before ≡ first ∷ after
    → IsTouchingIn n (intervals_of rank before)
    → MakesProgress (λ ranges. IsTouchingIn n (intervals_of rank ranges))
    (item_count (λ (ranges : List (RangeInclusive T)). ranges)) before (Some item) after
touching-goes rank n before after first item is touching =
    let rest = touching-tail n (interval_of rank first) (intervals_of rank after)
    (subst (λ ranges. IsTouchingIn n (intervals_of rank ranges)) is touching) in
    record {
      on = λ finite. (rest, tt, rw is (omega arith));
      keeps = rest;
      rests = λ finite. tt;
    }
