-- What the adapters of std over a stream may give: some of the ranges that the stream may give.
use Rattle.std.proofs.Common.{◌≡◌, ◌⊎◌, ℕ, ◌<◌, ◌≤◌, Bool, true, false, List, [], take, drop, length}
use Rattle.std.specs.Prelude.{Option, None, MatchBool}
use Rattle.std.specs.Iterator.{CallableOnAllAt, CallableWhileAt, YieldsThen}
use Rattle.std.specs.Iterator.Adapters.{filter_callee, filter_source, skip_count, skip_source, skip_while_callee, skip_while_done_skipping, skip_while_source, take_count, take_source, take_while_callee, take_while_done, take_while_source}
use Rattle.std.specs.declared.iter.Filter.{Filter}
use Rattle.std.specs.declared.iter.Fuse.{Fuse}
use Rattle.std.specs.declared.iter.Iterator.{Ghosts as Iteration}
use Rattle.std.specs.declared.iter.Skip.{Skip}
use Rattle.std.specs.declared.iter.SkipWhile.{SkipWhile}
use Rattle.std.specs.declared.iter.Take.{Take}
use Rattle.std.specs.declared.iter.TakeWhile.{TakeWhile}
use Rattle.std.specs.declared.ops.RangeInclusive.{RangeInclusive}
use Rattle.rsb_integer.specs.Prefix.{IsPrefix, IsSuffix}
use Rattle.rsb_integer.specs.Runs.{Interval}
use Rattle.rsb_integer.specs.declared.integer.Integer.{Ghosts as Elements}
use Rattle.rsb_streams.specs.Fused.{fuse_can_next, fuse_may_give}
use Rattle.rsb_streams.specs.Stream.{Outcomes, Answers, IsDrawn, SomeOutcome}
use Rattle.rsb_streams.specs.Sublists.{IsSublist}
use Rattle.rsb_streams.specs.declared.draw.Draw.{Ghosts as Stream}
use denote.Param.Members.{Mut}
use denote.Ref.{Bor}

-- ---- what they may give

-- The lists in the relation `Part` to a list that may be given.
abbrev pub part_of : Outcomes → (List Interval → List Interval → Type 0) → Outcomes
part_of P Part runs = SomeOutcome P (λ given. Part runs given)

-- Some of the ranges that the stream may give, in their order. A closure decides which.
abbrev pub filter_may_give : {S F : Type 0} → (S → Outcomes) → Filter S F → Outcomes
filter_may_give may_give s = part_of (may_give (filter_source s)) IsSublist

-- A prefix of what the stream may give, or nothing once a range has failed the test.
abbrev pub take_while_may_give : {S F : Type 0} → (S → Outcomes) → TakeWhile S F → Outcomes
take_while_may_give may_give s = part_of (may_give (take_while_source s))
    (λ runs given. MatchBool (take_while_done s) (runs ≡ []) (IsPrefix runs given))

-- A suffix of what the stream may give, or all of it once a range has failed the test.
abbrev pub skip_while_may_give : {S F : Type 0} → (S → Outcomes) → SkipWhile S F → Outcomes
skip_while_may_give may_give s = part_of (may_give (skip_while_source s))
    (λ runs given. MatchBool (skip_while_done_skipping s) (runs ≡ given) (IsSuffix runs given))

-- The first ranges of what the stream may give, up to the given number.
abbrev pub take_may_give : {S : Type 0} → (S → Outcomes) → Take S → Outcomes
take_may_give may_give s =
    part_of (may_give (take_source s)) (λ runs given. runs ≡ take (take_count s) given)

-- Whether calls can end within the given number of ranges.
abbrev pub EndsWithin : {S A : Type 0} → (S → Option A → S → Type 0) → S → ℕ → Type 0
EndsWithin {S} {A} steps s count =
    (items : List A) × (t : S) × YieldsThen steps s items None t × (length items ≤ count)

-- Whether `runs` is `given` without its first `count` ranges, or is empty because the calls may end
-- within those.
abbrev pub IsSkipped : {S A : Type 0} → (S → Option A → S → Type 0) → S → ℕ
    → List Interval → List Interval → Type 0
IsSkipped steps s count runs given = (runs ≡ drop count given)
    ⊎ ((0 < count) × (runs ≡ []) × EndsWithin steps s count)

-- What the stream may give, without the ranges at its start that are skipped.
abbrev pub skip_may_give : {S A : Type 0} → (S → Option A → S → Type 0) → (S → Outcomes)
    → Skip S → Outcomes
skip_may_give steps may_give s =
    part_of (may_give (skip_source s)) (IsSkipped steps (skip_source s) (skip_count s))

-- ---- when they are ready, and what a draw returns

-- Whether a draw is a call to `next` that fits what may be given.
pub record IsCall {S T : Type 0} (rank : T → ℕ)
    (next_gives : S → Option (RangeInclusive T) → S → Type 0) (may_give : S → Outcomes)
    (s : S) (item : Option (RangeInclusive T)) (t : S) : Type 0 where
  pub call : next_gives s item t
  pub answers : Answers rank may_give s item t

-- Whether an adapter is ready: its stream is ready, the `next` of that stream is its `draw`, and
-- the closure may be called on what may come.
pub record MayDraw (Source Closure Drawn : Type 0) : Type 0 where
  pub source : Source
  pub closure : Closure
  pub drawn : Drawn

-- Whether the `next` of a stream is its `draw`. This is a fact and not a trait bound: with a bound,
-- the dictionaries that the compiler passes would double at each level of nested adapters.
abbrev pub NextIsDraw : {S T N : Type 0} → Stream S T N → Iteration S (RangeInclusive T) → Type 0
NextIsDraw stream next = IsDrawn stream.can_draw stream.draw_gives stream.draws_left
    next.can_next next.next_gives next.remaining

module _ {S T N : Type 0} (integer : Elements T N) (stream : Stream S T N)
    (next : Iteration S (RangeInclusive T)) where
  -- An adapter as a stream, from its own `next`. `Source` states that its stream is ready, and
  -- `Closure` that its closure may be called.
  abbrev pub adapter_stream : {A : Type 0} → Iteration A (RangeInclusive T) → (A → Type 0)
      → (A → Type 0)
      → (A → Outcomes) → Stream A T N
  adapter_stream own Source Closure may_give = record {
    can_draw = λ s. MayDraw (Source s) (Closure s) (NextIsDraw stream next);
    draw_gives = IsCall integer.rank own.next_gives may_give;
    draws_left = own.remaining;
    may_give = may_give;
  }

  -- `Take` as a stream: the first ranges of its stream.
  abbrev pub take_draws : Iteration (Take S) (RangeInclusive T) → Stream (Take S) T N
  take_draws own = adapter_stream own (λ s. stream.can_draw (take_source s)) (λ s. Unit {0})
      (take_may_give stream.may_give)

  -- `Skip` as a stream: the ranges after the first ones.
  abbrev pub skip_draws : Iteration (Skip S) (RangeInclusive T) → Stream (Skip S) T N
  skip_draws own = adapter_stream own (λ s. stream.can_draw (skip_source s)) (λ s. Unit {0})
      (skip_may_give next.next_gives stream.may_give)

  -- `Fuse` as a stream: all ranges, and nothing after the end.
  abbrev pub fuse_draws : Iteration (Fuse S) (RangeInclusive T) → Stream (Fuse S) T N
  fuse_draws own = adapter_stream own (fuse_can_next stream.can_draw) (λ s. Unit {0})
      (fuse_may_give stream.may_give)

  module _ {F : Type 0} (call : Mut F (Bor (RangeInclusive T) × Unit {0}) Bool) where
    -- `Filter` as a stream: the ranges that pass the test of its closure.
    abbrev pub filter_draws : Iteration (Filter S F) (RangeInclusive T) → Stream (Filter S F) T N
    filter_draws own = adapter_stream own (λ s. stream.can_draw (filter_source s))
        (λ s. CallableOnAllAt next.next_gives call (filter_source s) (filter_callee s))
        (filter_may_give stream.may_give)

    -- `TakeWhile` as a stream: the ranges before the first that fails the test.
    abbrev pub take_while_draws : Iteration (TakeWhile S F) (RangeInclusive T)
        → Stream (TakeWhile S F) T N
    take_while_draws own = adapter_stream own (λ s. stream.can_draw (take_while_source s))
        (λ s. CallableWhileAt next.next_gives call true (take_while_source s) (take_while_callee s))
        (take_while_may_give stream.may_give)

    -- `SkipWhile` as a stream: the first range that fails the test, and all ranges after it.
    abbrev pub skip_while_draws : Iteration (SkipWhile S F) (RangeInclusive T)
        → Stream (SkipWhile S F) T N
    skip_while_draws own = adapter_stream own (λ s. stream.can_draw (skip_while_source s))
        (λ s. skip_while_done_skipping s ≡ false
        → CallableWhileAt next.next_gives call true (skip_while_source s) (skip_while_callee s))
        (skip_while_may_give stream.may_give)
