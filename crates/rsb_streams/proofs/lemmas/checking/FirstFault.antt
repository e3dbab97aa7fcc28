-- The first position at which a list of ranges does not ascend, with or without gaps between.
use Rattle.std.proofs.Common.{◌≡◌, ℕ, suc, ◌+◌, ◌<◌, ◌≤◌, true, false, nat_lt, List, [], ◌∷◌, ◌++◌, length, take, drop, get_or, refl, sym, ap, ◌∙◌, subst, arith}
use Rattle.std.proofs.lemmas.List.{length-map, take-append-drop, take_all}
use Rattle.std.proofs.lemmas.List.Elements.{All-push}
use Rattle.std.proofs.Math.ListN.{get_or-map}
use Rattle.std.proofs.Math.Seq.{take-suc}
use Rattle.std.specs.Range.{range_inclusive_end}
use Rattle.std.specs.Prelude.{Option, Some, None}
use Rattle.std.specs.declared.ops.RangeInclusive.{RangeInclusive}
use Rattle.rsb_integer.specs.Rank.{interval_of, intervals_of}
use Rattle.rsb_integer.specs.Runs.{Interval, AllEndBelow}
use Rattle.rsb_streams.proofs.lemmas.sources.Known.{range-end}
use Rattle.rsb_streams.specs.OutOfPlace.{start_after, IsFirstBad}
use Rattle.rsb_streams.specs.Stream.{◌⊆◌}
use Rattle.rsb_streams.specs.Touching.{IsSpacedFrom, IsSpacedIn}
use Rattle.rsb_streams.proofs.lemmas.checking.Spaced.{spaced-append, spaced-front, spaced-parts, spaced_next, spaced_next-push}
use borrow.Author.Tests.{ltb-false, ltb-true}
use Rattle.rsb_streams.specs.laws.Stream.{spaced-none}

-- A position that passed the test is within the list.
pub place-within : (position n : ℕ) → true ≡ nat_lt position n → position < n
place-within position n is = ltb-true position n (sym is)

-- A position that failed the test is at or past the end of the list.
pub place-past : (position n : ℕ) → false ≡ nat_lt position n → n ≤ position
place-past position n is = ltb-false position n (sym is)

-- The first fault of a list is the same for laws that follow from each other.
pub first_bad-along : {law other : List Interval → Type 0} {runs : List Interval} {position : ℕ}
    → law ⊆ other → other ⊆ law → IsFirstBad law runs position → IsFirstBad other runs position
first_bad-along {law} {other} {runs} {position} follows back bad = record {
  within = bad.within;
  before = follows (take position runs) bad.before;
  broken = λ holds. bad.broken (back (take (position + 1) runs) holds);
}

module _ {T : Type 0} (rank : T → ℕ) (gap : ℕ) (n : ℕ)
    (ranges : List (RangeInclusive T)) where
  -- The ranks of each range.
  abbrev runs : List Interval
  runs = intervals_of rank ranges

  -- What holds before each iteration. The ranges before the position ascend, and `previous` is the
  -- end of the last of them.
  pub record IsChecked (position : ℕ) (previous : Option T) : Type 0 where
    pub within : position ≤ length ranges
    pub before : IsSpacedIn gap n (take position runs)
    pub next : spaced_next gap 0 (take position runs) ≡ start_after rank gap previous

  -- Before the first range, nothing is left to check.
  pub checked-none : IsChecked 0 None
  checked-none = record {
    within = omega arith;
    before = spaced-none gap n;
    next = refl;
  }

  -- ---- the range at the position
  module _ (position : ℕ) (previous : Option T) (checked : IsChecked position previous)
      (range : RangeInclusive T)
      (within : position < length ranges) (item : range ≡ get_or ranges position range) where
    -- The ranks of the range.
    abbrev run : Interval
    run = interval_of rank range

    -- The intervals up to and including the position are those before it, then this one.
    one-more : take (position + 1) runs ≡ take position runs ++ run ∷ []
    one-more =
        let size : position < length runs = omega
        (arith, within, length-map ranges (interval_of rank)) in
        let step : position + 1 ≡ suc position = omega arith in
        rw step (take-suc runs position run size
        ∙ ap (λ each. take position runs ++ each ∷ [])
        (get_or-map (interval_of rank) ranges position range ∙ sym (ap (interval_of rank) item)))

    -- If the list ascends with the range, the range may follow those before it.
    pub follows-after : IsSpacedIn gap n (take (position + 1) runs)
        → IsSpacedFrom gap (start_after rank gap previous) (run ∷ [])
    follows-after spaced =
        subst (λ low. IsSpacedFrom gap low (run ∷ [])) checked.next
        (spaced-parts gap 0 (take position runs) (run ∷ [])
        (subst (IsSpacedFrom gap 0) one-more spaced.spaced)).1

    -- If the range may not follow those before it, it is the first fault.
    pub bad-here : ¬ (IsSpacedFrom gap (start_after rank gap previous) (run ∷ []))
        → IsFirstBad (IsSpacedIn gap n) runs position
    bad-here broken = record {
      within = omega (arith, within, length-map ranges (interval_of rank));
      before = checked.before;
      broken = λ spaced. broken (follows-after spaced);
    }

    -- If the range is within the type, so are all up to it.
    pub below-here : run.last < n → AllEndBelow n (take (position + 1) runs)
    below-here below =
        rw one-more (All-push (λ (each : Interval). each.last < n) (take position runs) run
        checked.before.within below)

    -- If the range may follow those before it and is within the type, `IsChecked` holds at the next
    -- position.
    pub checked-one : IsSpacedFrom gap (start_after rank gap previous) (run ∷ [])
        → run.last < n
        → (end : T) → end ≡ range_inclusive_end range → IsChecked (position + 1) (Some end)
    checked-one spaced below end is =
        let low = subst (λ low. IsSpacedFrom gap low (run ∷ [])) (sym checked.next) spaced in
        record {
          within = omega (arith, within);
          before = rw one-more (record {
            spaced = spaced-append gap 0 (take position runs) (run ∷ []) checked.before.spaced low;
            within = All-push (λ (each : Interval). each.last < n) (take position runs) run
                checked.before.within below;
          });
          next = rw one-more (spaced_next-push gap 0 (take position runs) run
              ∙ ap (λ last. last + gap) (range-end rank range spaced.in_order ∙ sym (ap rank is)));
        }

  -- A list that ascends does so up to each position.
  pub spaced-take : (position : ℕ) → IsSpacedIn gap n runs
      → IsSpacedIn gap n (take position runs)
  spaced-take position spaced =
      spaced-front gap n (take position runs) (drop position runs)
      (subst (IsSpacedIn gap n) (sym (take-append-drop position runs)) spaced)

  -- If the position is past the last range, the whole list ascends.
  pub checked-all : (position : ℕ) (previous : Option T) → IsChecked position previous
      → length ranges ≤ position
      → IsSpacedIn gap n runs
  checked-all position previous checked past =
      subst (IsSpacedIn gap n) (take_all position runs
      (omega (arith, past, length-map ranges (interval_of rank))))
      checked.before
