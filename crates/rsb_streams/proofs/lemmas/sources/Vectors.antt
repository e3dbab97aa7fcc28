-- What a `Vec` becomes by `into_iter`, as a source of a stream.
use Rattle.std.proofs.Common.{◌≡◌, ℕ, ◌+◌, List, [], ◌∷◌, ◌++◌, length, refl, sym, ap, ◌∙◌, subst, arith}
use Rattle.std.proofs.lemmas.List.{map-append, nil_from_length}
use Rattle.std.specs.Prelude.{Some, None}
use Rattle.std.specs.Iterator.{at_most}
use Rattle.std.specs.Vec.Iter.{into_iter_items, into_iter_len, into_iter_steps}
use Rattle.std.specs.declared.iter.Iterator.{Ghosts as Iteration}
use Rattle.std.specs.declared.ops.RangeInclusive.{RangeInclusive}
use Rattle.std.specs.declared.vec.IntoIter.{IntoIter}
use Rattle.std.specs.VecDeque.Ownership.{in_place}
use Rattle.rsb_integer.specs.Rank.{interval_of, intervals_of}
use Rattle.rsb_integer.specs.Runs.{Interval, IsCanonicalIn}
use Rattle.rsb_integer.proofs.lemmas.Canonical.{canonical-front}
use Rattle.rsb_streams.specs.Calls.{Call, IsSource, calls_give}
use Rattle.rsb_streams.specs.laws.Calls.{calls-steps}
use Rattle.rsb_streams.specs.Stream.{◌⊆◌, just, HasSortedStarts}
use Rattle.rsb_streams.specs.Touching.{IsTouchingIn}
use Rattle.rsb_streams.proofs.lemmas.sources.Lawful.{sorted-front}
use Rattle.rsb_streams.proofs.lemmas.sources.Listed.{listed-calls, listed-yields}
use Rattle.rsb_streams.proofs.lemmas.checking.Spaced.{spaced-front}

-- What a `Vec` of ranges becomes.
abbrev Items : Type 0 → Type 0 → Type 0
Items T Z = IntoIter (RangeInclusive T) Z

-- Its iteration. It may always be called.
abbrev items : {T Z : Type 0} → Iteration (Items T Z) (RangeInclusive T)
items {T} {Z} = record {
  can_next = λ s. Unit {0};
  next_gives = into_iter_steps {X = RangeInclusive T} {Z = Z};
  remaining = λ s. at_most (into_iter_len s);
}

module _ {T Z : Type 0} (rank : T → ℕ) (n : ℕ) where
  -- If a call returns `None`, no item was left.
  ended : (s t : Items T Z) → into_iter_steps s None t → into_iter_items s ≡ []
  ended s t call = nil_from_length (into_iter_items s) (omega (arith, s.rest.ok.0, call.0))

  -- The state after the first item is taken.
  abbrev taken : (s : Items T Z) (range : RangeInclusive T) (ranges : List (RangeInclusive T))
      → into_iter_items s ≡ range ∷ ranges
      → Items T Z
  taken s range ranges is =
      let size : into_iter_len s ≡ length ranges + 1 = s.rest.ok.0 ∙ ap length is ∙ omega arith in
      let fits = s.rest.small in
      record {
        rest = record {
          ptr = s.rest.ptr;
          len = length ranges;
          cap = s.rest.cap;
          head = 0;
          wrapped = 0;
          alloc = s.rest.alloc;
          items = ranges;
          ok = (refl, omega arith);
          small = (fits.0, omega (arith, size, fits.1));
          ring_fits = in_place (length ranges) s.rest.cap 0 0
              (omega arith, (omega (arith, size, fits.1), omega arith));
        };
      }

  -- If an item is left, a call returns it.
  more : (s : Items T Z) (range : RangeInclusive T) (ranges : List (RangeInclusive T)) → Unit {0}
      → into_iter_items s ≡ range ∷ ranges
      → (t : Items T Z) × Call rank items s
      (Some range) t
  more s range ranges ready is =
      let size : length ranges + 1
      ≡ into_iter_len s = sym (s.rest.ok.0 ∙ ap length is ∙ omega arith) in (
        taken s range ranges is,
        record {
          gives = (is, size);
          nearer = λ finite. (tt, tt, omega (arith, size));
        },
      )

  -- Its calls give its items.
  pub vec-calls : (s : Items T Z)
      → calls_give rank items s
      ⊆ just (intervals_of rank (into_iter_items s))
  vec-calls s =
      listed-calls rank items into_iter_items
      (λ s t range call. call.0) ended (λ s. tt) more s tt

  -- If its items satisfy a law that prefixes keep, it is a source for that law.
  vec-source_of : (law : List Interval → Type 0)
      → ((runs others : List Interval) → law (runs ++ others) → law runs)
      → (s : Items T Z) → law (intervals_of rank (into_iter_items s))
      → IsSource rank items law s
  vec-source_of law front s lawful = record {
    callable = tt;
    finite = tt;
    fronts = λ ranges t all.
        let whole = listed-yields rank items
        into_iter_items
        (λ s t range call. call.0) ended ranges s t
        (calls-steps rank items ranges s t
        all) in
        front (intervals_of rank ranges) (intervals_of rank (into_iter_items t))
        (subst law (ap (intervals_of rank) whole
        ∙ map-append (interval_of rank) ranges (into_iter_items t)) lawful);
  }

  -- It is a source of a canonical list if its items are canonical.
  pub vec-source : (s : Items T Z) → IsCanonicalIn n (intervals_of rank (into_iter_items s))
      → IsSource rank items (IsCanonicalIn n) s
  vec-source = vec-source_of (IsCanonicalIn n) (canonical-front n)

  -- It is a source of a list sorted by start if its items are sorted by start.
  pub vec-sorted : (s : Items T Z) → HasSortedStarts n (intervals_of rank (into_iter_items s))
      → IsSource rank items (HasSortedStarts n) s
  vec-sorted = vec-source_of (HasSortedStarts n) (sorted-front n 0)

  -- It is a source of a touching list if its items are touching.
  pub vec-touching : (s : Items T Z) → IsTouchingIn n (intervals_of rank (into_iter_items s))
      → IsSource rank items (IsTouchingIn n) s
  vec-touching = vec-source_of (IsTouchingIn n) (spaced-front 1 n)
