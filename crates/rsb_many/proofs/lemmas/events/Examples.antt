-- The events of a sweep, worked out on two inputs.
use Rattle.rsb_integer.specs.Runs.{from_to}
use Rattle.std.proofs.Common.{List, [], ◌∷◌, refl, lit<}
use Rattle.rsb_many.specs.Sweep.{AreEvents, End, Event, Precedes, Start}
use Rattle.rsb_many.proofs.lemmas.events.Ascending.{ascending-chain}
use Rattle.rsb_many.proofs.lemmas.events.Lists.{precedes-through}

-- The ranges are 1..=5 and 5..=6. The second starts before the first ends, at the value that both
-- have.
pub start_before_end : AreEvents ((from_to 1 5 ∷ []) ∷ (from_to 5 6 ∷ []) ∷ [])
    (Start (from_to 1 5) 0 ∷ Start (from_to 5 6) 1 ∷ End 5 0 ∷ End 6 1 ∷ [])
start_before_end = record {
  all = record { moves = (1, 2) ∷ []; below = (lit< tt, lit< tt, tt); is = refl };
  ascending = ascending-chain Precedes precedes-through (Start (from_to 1 5) 0)
      (Start (from_to 5 6) 1 ∷ End 5 0 ∷ End 6 1 ∷ []) (refl, (refl, (refl, tt)));
}

-- What follows the first start if one input has 1..=2 and 3..=4, and the other has 2..=3.
abbrev later_events : List Event
later_events =
    Start (from_to 2 3) 1 ∷ End 2 0 ∷ Start (from_to 3 4) 0 ∷ End 3 1 ∷ End 4 0 ∷ []

-- Ranges of one input that touch stay apart, even if a range of another input joins them.
pub touching_ranges_stay_apart :
    AreEvents ((from_to 1 2 ∷ from_to 3 4 ∷ []) ∷ (from_to 2 3 ∷ []) ∷ [])
    (Start (from_to 1 2) 0 ∷ later_events)
touching_ranges_stay_apart = record {
  all = record {
    moves = (4, 5) ∷ (3, 4) ∷ (2, 4) ∷ (1, 4) ∷ [];
    below = (
      lit< tt,
      lit< tt,
      (lit< tt, lit< tt, (lit< tt, lit< tt, (lit< tt, lit< tt, tt))),
    );
    is = refl;
  };
  ascending = ascending-chain Precedes precedes-through (Start (from_to 1 2) 0) later_events
      (refl, (refl, (refl, (refl, (refl, tt)))));
}
