-- One call of a stream whose items are known to satisfy a law.
use Rattle.std.proofs.Common.{◌≡◌, ℕ, Bool, true, false, List, ◌∷◌, refl, arith}
use Rattle.std.specs.Prelude.{Option, Some, None, MatchBool}
use Rattle.std.specs.declared.iter.Fuse.{Fuse}
use Rattle.std.specs.declared.iter.Iterator.{Ghosts as Iteration}
use Rattle.std.specs.declared.ops.RangeInclusive.{RangeInclusive}
use Rattle.std.specs.Iterator.{IsFinite, MakesProgress}
use Rattle.std.specs.Iterator.Adapters.{fuse_done, fuse_source, fuse_steps}
use Rattle.rsb_integer.specs.Runs.{Interval}
use Rattle.rsb_streams.specs.Calls.{IsSource}
use Rattle.rsb_streams.specs.laws.Calls.{source-after}
use Rattle.rsb_streams.specs.laws.Stream.{sorted-lower}
use Rattle.rsb_streams.specs.Stream.{HasSortedStarts}
use Rattle.rsb_streams.specs.Fused.{fuse_can_next, fuse_remaining}

-- What follows the first interval of a list sorted by start is also sorted by start.
pub sorted-tail : (n : ℕ) (run : Interval) (runs : List Interval) → HasSortedStarts n (run ∷ runs)
    → HasSortedStarts n runs
sorted-tail n run runs sorted = sorted-lower n run.first 0 runs (omega arith) sorted.rest

module _ {I T : Type 0} (rank : T → ℕ) (iterator : Iteration I (RangeInclusive T))
    (law : List Interval → Type 0)
    (tail : (run : Interval) (runs : List Interval) → law (run ∷ runs) → law runs) where
  -- Whether the stream is a source for the law.
  abbrev Source : I → Type 0
  Source = IsSource rank iterator law

  -- Whether a call of the stream in a `Fuse` makes progress.
  abbrev Goes : Fuse I → Option (RangeInclusive T) → Fuse I → Type 0
  Goes = MakesProgress (fuse_can_next iterator.can_next) (fuse_remaining iterator.remaining)

  -- If the stream was a source, it still is after a call that returned a range. The cases are
  -- whether it had ended.
  after-by : (done after : Bool) (s t : I) (range : RangeInclusive T) → (done ≡ false → Source s)
      → MatchBool done (Some range ≡ None) (iterator.next_gives s (Some range) t) → after ≡ false
      → Goes (record { iter = s; done = done }) (Some range) (record { iter = t; done = after })
      → Source t
  after-by true after s t range source call more goes = absurd (cc)
  after-by false true s t range source call more goes = absurd (cc)
  after-by false false s t range source call more goes =
      let on = goes.on (source refl).finite in
      source-after rank iterator law tail s t range (source refl) call
      (on.0 refl, on.1, on.2)

  -- In a `Fuse`, a source is still a source after a call that returned a range.
  pub source-next : (s t : Fuse I) (range : RangeInclusive T) → fuse_can_next Source s
      → fuse_steps iterator.next_gives s (Some range) t → Goes s (Some range) t → fuse_can_next Source t
  source-next s t range source call goes = λ undone.
      after-by (fuse_done s) (fuse_done t) (fuse_source s) (fuse_source t) range source call.0
      call.1 goes

  -- A call in a `Fuse` that makes progress leads from one source to another.
  pub source-goes : (s t : Fuse I) (item : Option (RangeInclusive T)) → fuse_can_next Source s
      → IsFinite (fuse_remaining iterator.remaining s)
      → fuse_steps iterator.next_gives s item t → Goes s item t
      → MakesProgress (fuse_can_next Source) (fuse_remaining iterator.remaining) s item t
  source-goes s t None source finite call goes = record
      { on = λ _. tt; keeps = tt; rests = goes.rests }
  source-goes s t (Some range) source finite call goes =
      let next = source-next s t range source call goes in
      let on = goes.on finite in
      record { on = λ _. (next, on.1, on.2); keeps = next; rests = λ _. tt }
