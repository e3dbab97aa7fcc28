-- Iterators over elements of a stream whose state shows the list of its ranges.
use Rattle.std.proofs.Common.{◌≡◌, ◌↔◌, ℕ, true, cond, ◌+◌, ◌<◌, ◌≤◌, List, [], ◌∷◌, append-nil, length, length-append, refl, sym, ◌∙◌, ap, arith}
use Rattle.std.proofs.lemmas.Bool.Decides.{nat_tests}
use Rattle.std.proofs.lemmas.List.{length-map, map-append}
use Rattle.std.proofs.lemmas.List.Sums.{sum_by-cons}
use Rattle.std.specs.Iterator.{MakesProgress, YieldsLast, at_most, item_count}
use Rattle.std.specs.Iterator.SizeHint.{IsWithinCount}
use Rattle.std.specs.List.{sum_by}
use Rattle.std.specs.Prelude.{Option, Some, None, ⊤}
use Rattle.std.specs.declared.ops.RangeInclusive.{RangeInclusive}
use Rattle.rsb_integer.specs.Rank.{interval_of, intervals_of}
use Rattle.rsb_integer.specs.Runs.{Interval, length_of, members, IsCanonicalFrom, IsCanonicalIn}
use Rattle.rsb_integer.specs.Selection.{Selection, count}
use Rattle.rsb_integer.proofs.lemmas.Count.{count-less, count-members}
use Rattle.rsb_streams.specs.Listed.{listed_may_give}
use Rattle.rsb_streams.specs.Stream.{Outcomes}
use Rattle.rsb_streams.proofs.lemmas.checking.Fresh.{none-if_empty}
use Rattle.range_set_blaze.specs.BothEnds.{elements_ready, is_ready, left_between, ranges_left, runs_left, AnswersLast, Gives, IsListReady, IsOverSet, IsWhole, ListedReady, Takes}
use Rattle.range_set_blaze.specs.declared.iter.Iter.{Iter}

-- A call that takes a member from a set makes progress.
pub takes-goes : {T : Type 0} {rank : T → ℕ} {n : ℕ} {IsFound : Selection → ℕ → Type 0}
    {old new : List Interval} (item : Option T)
    → ((point : ℕ) → IsFound (members old) point → (point < n) × (members old point ≡ true))
    → Takes rank IsFound (members old) item (members new)
    → MakesProgress (λ _. ⊤) (λ runs. at_most (count n (members runs))) old item new
takes-goes None member takes = record { on = λ finite. tt; keeps = tt; rests = λ finite. tt }
takes-goes {rank = rank} {n = n} {old = old} {new = new} (Some value) member takes =
    let here = member (rank value) takes.found in
    let less = count-less n (members new) (members old)
    (λ other is. grind (arith, takes.rest other, is)) (rank value) here.0 here.1
    (grind (arith, nat_tests, takes.rest (rank value))) in
    record { on = λ finite. (tt, tt, less); keeps = tt; rests = λ finite. tt }

-- A canonical list has at least as many members as intervals.
length-sum : (low : ℕ) (runs : List Interval) → IsCanonicalFrom low runs
    → length runs ≤ sum_by length_of runs
length-sum low [] canonical = omega arith
length-sum low (run ∷ runs) canonical =
    let rest = length-sum (run.last + 2) runs canonical.rest in
    omega (arith, sum_by-cons length_of run runs, rest, canonical.in_order)

module _ {T : Type 0} (rank : T → ℕ) (n : ℕ) where
  -- What a list may still give.
  abbrev given : List (RangeInclusive T) → Outcomes
  given = listed_may_give rank (λ ranges. ranges)

  -- What may be left of the iterator is only one list.
  listed-left : (s : Iter T (List (RangeInclusive T))) (runs : List Interval)
      → left_between rank given s runs ↔ (runs ≡ runs_left rank s)
  listed-left s runs = (
    (λ at. let may = at.1 in let is = at.2 in grind (arith, may, is)),
    (λ is. (cond s.done [] (intervals_of rank s.ranges), grind arith, is)),
  )

  -- So what a call takes is taken from this list.
  pub listed-takes : {IsFound : Selection → ℕ → Type 0} {s t : Iter T (List (RangeInclusive T))}
      {item : Option T} → Gives rank n (IsListReady rank n) given IsFound s item t
      → Takes rank IsFound (members (runs_left rank s)) item (members (runs_left rank t))
  listed-takes {s = s} {t = t} gives =
      let taken = gives.takes (runs_left rank t) ((listed-left t (runs_left rank t)).1 refl) in
      rw (← (listed-left s taken.0).0 taken.1) taken.2

  -- It has at least as many members as the stream still has ranges, since it is canonical.
  pub hint-count : (s : Iter T (List (RangeInclusive T))) → ListedReady rank n s → (low : ℕ)
      → IsWithinCount low (ranges_left (item_count (λ (each : List (RangeInclusive T)). each)) s)
      → low ≤ count n (members (runs_left rank s))
  hint-count s ready low within =
      let runs = runs_left rank s in
      let canonical = (is_ready rank n (IsListReady rank n) given s ready).canonical runs
      ((listed-left s runs).1 refl) in
      let least = length-sum 0 runs canonical.apart in
      let all = count-members n 0 runs canonical.apart canonical.within in
      let some = within tt in
      grind (arith, length-append, length-map, least, all, some)

  -- The last range of the list is what may come last.
  listed-last : (s t : List (RangeInclusive T)) (item : Option (RangeInclusive T))
      → YieldsLast (λ (ranges : List (RangeInclusive T)). ranges) s item t
      → AnswersLast rank n (IsListReady rank n) given s item t
  listed-last s t None call = ap (intervals_of rank) (sym call.0)
  listed-last s t (Some range) call = λ rest at.
      rw (at, call) (sym (map-append (interval_of rank) t (range ∷ [])))

  -- If nothing has been taken from an iterator yet, it has the runs of the list, and may be called
  -- from both ends.
  pub whole-over : {ranges : List (RangeInclusive T)} {set : List Interval}
      (s : Iter T (List (RangeInclusive T))) → IsWhole rank ranges s
      → IsCanonicalIn n (intervals_of rank ranges) → intervals_of rank ranges ≡ set
      → IsOverSet rank n set s
  whole-over {ranges = ranges} s whole canonical is =
      let runs : runs_left rank s ≡ intervals_of rank ranges =
      rw (none-if_empty _ whole.front, none-if_empty _ whole.back, whole.undone, whole.source)
      (append-nil (intervals_of rank ranges)) in
      let ready = elements_ready rank n (IsListReady rank n) given s (record {
        callable = λ undone. rw whole.source canonical;
        canonical = λ left at. rw ((listed-left s left).0 at, runs) canonical;
      }) in
      record {
        runs = runs ∙ is;
        ready = ready;
        ready_back = record {
          both_ends = record {
            callable = λ each can. can;
            drawable = λ each can. can;
            answers = listed-last;
          };
          ready = ready;
        };
      }
