-- The parts of spaced lists of intervals.
use Rattle.std.proofs.Common.{◌≡◌, ℕ, ◌+◌, List, [], ◌∷◌, ◌++◌, refl, arith, ◌<◌}
use Rattle.std.proofs.lemmas.List.Elements.{All-tail}
use Rattle.rsb_integer.specs.Runs.{Interval}
use Rattle.rsb_integer.proofs.lemmas.List.{All-front}
use Rattle.rsb_streams.specs.laws.Stream.{spaced-weaker}
use Rattle.rsb_streams.specs.Touching.{IsSpacedFrom, IsSpacedIn}

-- The first rank at which a spaced list may continue after these intervals.
abbrev pub spaced_next : ℕ → ℕ → List Interval → ℕ
spaced_next gap low [] = low
spaced_next gap low (run ∷ runs) = spaced_next gap (run.last + gap) runs

-- A list whose last interval is `run` may continue at `gap` past its end.
pub spaced_next-push : (gap low : ℕ) (runs : List Interval) (run : Interval)
    → spaced_next gap low (runs ++ run ∷ []) ≡ run.last + gap
spaced_next-push gap low [] run = refl
spaced_next-push gap low (other ∷ runs) run = spaced_next-push gap (other.last + gap) runs run

-- Both parts of a spaced list are spaced, the second from where the first may continue.
pub spaced-parts : (gap low : ℕ) (runs others : List Interval)
    → IsSpacedFrom gap low (runs ++ others)
    → IsSpacedFrom gap low runs × IsSpacedFrom gap (spaced_next gap low runs) others
spaced-parts gap low [] others spaced = (tt, spaced)
spaced-parts gap low (run ∷ runs) others spaced =
    let parts = spaced-parts gap (run.last + gap) runs others spaced.rest in
    (record { starts = spaced.starts; in_order = spaced.in_order; rest = parts.0 }, parts.1)

-- Two spaced lists put together are spaced, if the second is spaced from where the first may
-- continue.
pub spaced-append : (gap low : ℕ) (runs others : List Interval) → IsSpacedFrom gap low runs
    → IsSpacedFrom gap (spaced_next gap low runs) others
    → IsSpacedFrom gap low (runs ++ others)
spaced-append gap low [] others front rest = rest
spaced-append gap low (run ∷ runs) others front rest =
    record {
      starts = front.starts;
      in_order = front.in_order;
      rest = spaced-append gap (run.last + gap) runs others front.rest rest;
    }

-- A prefix of a spaced list is spaced.
pub spaced-front : (gap n : ℕ) (runs others : List Interval) → IsSpacedIn gap n (runs ++ others)
    → IsSpacedIn gap n runs
spaced-front gap n runs others spaced = record {
  spaced = (spaced-parts gap 0 runs others spaced.spaced).0;
  within = All-front (λ (run : Interval). run.last < n) runs others spaced.within;
}

-- A spaced list without its first interval is spaced.
pub spaced-tail : (gap n : ℕ) (run : Interval) (runs : List Interval) → IsSpacedIn gap n (run ∷ runs)
    → IsSpacedIn gap n runs
spaced-tail gap n run runs spaced = record {
  spaced = spaced-weaker gap gap (run.last + gap) 0 runs (omega arith) (omega arith)
      spaced.spaced.rest;
  within = All-tail (λ (other : Interval). other.last < n) run runs spaced.within;
}
