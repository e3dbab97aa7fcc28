-- The pieces of two lists of runs, and the runs that are gathered from them.
use Rattle.std.proofs.Common.{◌≡◌, ℕ, Bool, true, false, ◌&&◌, ◌||◌, ◌+◌, ◌<◌, ◌≤◌, List, [], ◌∷◌, ◌++◌, refl, sym, ap, ◌∙◌, inl, inr, arith}
use Rattle.std.proofs.Math.Bool.{or_assoc}
use Rattle.std.proofs.lemmas.Bool.{and_parts}
use Rattle.std.proofs.lemmas.Bool.Decides.{nat_tests}
use Rattle.std.proofs.lemmas.List.{map-append}
use Rattle.std.proofs.lemmas.List.Sums.{sum_by-append}
use Rattle.std.specs.List.{sum_by}
use Rattle.std.proofs.lemmas.List.Elements.{All-append, All-cons, All-nil}
use Rattle.rsb_integer.specs.Runs.{Interval, covers, from_to, length_of, members, IsCanonicalFrom, IsCanonicalIn}
use Rattle.rsb_integer.specs.Selection.{exclusive_or, intersection, symmetric_difference}
use Rattle.rsb_integer.proofs.lemmas.Begins.{runs-none}
use Rattle.rsb_integer.proofs.lemmas.Canonical.{canonical-parts, next_start}
use Rattle.rsb_integer.proofs.lemmas.List.{true_or_false, All-front}
use Rattle.rsb_integer.proofs.lemmas.Members.{covers-bounds, members-append, members-cons}
use Rattle.rsb_integer.proofs.lemmas.RunCount.{runs-intersection, runs-of_one}
use Rattle.rsb_integer.proofs.lemmas.Runs.{canonical-runs, runs-from_canonical}
use Rattle.rsb_streams.specs.RunCount.{HasFewerRunsThanBoth, HasRunsOfBothAtMost}
use Rattle.rsb_storage.specs.Set.{IsSetOf}
use Rattle.rsb_storage.specs.Storage.{entry_run, runs_of, IsKept}
use Rattle.rsb_storage.proofs.lemmas.runs.Storage.{sum_by-canonical, sum_by-within}
use Rattle.range_set_blaze.specs.Pieces.{first_in, is_kept, IsPiece}
use Rattle.range_set_blaze.specs.Retain.{IsCanonicalBelow}

-- ---- one list of runs

-- No member of a list that is canonical from a rank on lies below that rank.
pub below-none : (n low : ℕ) (runs : List Interval) (rank : ℕ) → IsCanonicalBelow n low runs
    → rank < low → members runs rank ≡ false
below-none n low [] rank canonical below = refl
below-none n low (run ∷ runs) rank canonical below =
    let from = canonical.0 in
    let order = canonical.1 in
    let rest = below-none n (run.last + 2) runs rank canonical.3 (omega (arith, from, order, below)) in
    let here = members-cons run runs rank in
    grind (arith, nat_tests, rest, here, from, below)

-- The first rank of a list in a type of n values is n at most.
pub first-fits : (n low : ℕ) (runs : List Interval) → IsCanonicalBelow n low runs
    → first_in n runs ≤ n
first-fits n low [] canonical = omega arith
first-fits n low (run ∷ runs) canonical =
    let order = canonical.1 in
    let value = canonical.2 in
    omega (arith, order, value)

-- ---- two lists of runs

-- An operation keeps the ranks of a piece together or not at all, and those past it as before.
kept-beyond : (common left right before other : Bool) → is_kept common ((left && false) || before)
    ((right && false) || other)
    ≡ ((is_kept common left right && false) || is_kept common before other)
kept-beyond true true true before other = refl
kept-beyond true true false before other = refl
kept-beyond true false true before other = refl
kept-beyond true false false before other = refl
kept-beyond false true true before other = refl
kept-beyond false true false before other = refl
kept-beyond false false true before other = refl
kept-beyond false false false before other = refl

kept-within : (common left right : Bool) → is_kept common ((left && true) || false)
    ((right && true) || false)
    ≡ ((is_kept common left right && true) || is_kept common false false)
kept-within true true true = refl
kept-within true true false = refl
kept-within true false true = refl
kept-within true false false = refl
kept-within false true true = refl
kept-within false true false = refl
kept-within false false true = refl
kept-within false false false = refl

pub kept-next : (common : Bool) (n : ℕ) (lefts rights : List Interval) (run : Interval)
    (left right : Bool) (after others : List Interval)
    → IsPiece n lefts rights run left right after others → (rank : ℕ)
    → is_kept common (members lefts rank) (members rights rank)
    ≡ ((is_kept common left right && covers run rank)
    || is_kept common (members after rank) (members others rank))
kept-next common n lefts rights run left right after others piece rank =
    elim (true_or_false (covers run rank)) [
      | inl here ↦
          let bounds = covers-bounds run rank here in
          let none = below-none n (run.last + 1) after rank piece.left.canonical
          (omega (arith, bounds.1)) in
          let neither = below-none n (run.last + 1) others rank piece.right.canonical
          (omega (arith, bounds.1)) in
          rw (piece.left.parts rank, piece.right.parts rank, here, none, neither)
          (kept-within common left right)
      | inr beyond ↦
          rw (piece.left.parts rank, piece.right.parts rank, beyond)
          (kept-beyond common left right (members after rank) (members others rank))
    ]

-- If a piece is added where it is kept, the ranks that are still to come are as before.
pub kept-more : (gathered new test kept here now after : Bool) → test ≡ kept
    → now ≡ ((kept && here) || after) → new ≡ (gathered || (test && here))
    → (gathered || now) ≡ (new || after)
kept-more gathered new test kept here now after is before more =
    rw (before, more, is) (sym (or_assoc gathered (kept && here) after))

-- If no rank is to come, the gathered ones are all.
pub kept-last : (common here whole : Bool) → whole ≡ (here || is_kept common false false)
    → here ≡ whole
kept-last true true whole is = sym is
kept-last true false whole is = sym is
kept-last false true whole is = sym is
kept-last false false whole is = sym is

-- ---- runs that are gathered

-- Runs may follow others from where those let the list continue.
canonical-joined : (low : ℕ) (runs others : List Interval) → IsCanonicalFrom low runs
    → IsCanonicalFrom (next_start low runs) others → IsCanonicalFrom low (runs ++ others)
canonical-joined low [] others canonical from = from
canonical-joined low (run ∷ runs) others canonical from = record {
  starts = canonical.starts;
  in_order = canonical.in_order;
  rest = canonical-joined (run.last + 2) runs others canonical.rest from;
}

-- That is past the last run, with a gap between.
next_start-last : (low : ℕ) (runs : List Interval) (run : Interval)
    → next_start low (runs ++ run ∷ []) ≡ run.last + 2
next_start-last low [] run = refl
next_start-last low (first ∷ runs) run = next_start-last (first.last + 2) runs run

module _ (n : ℕ) (runs : List Interval) (run : Interval)
    (canonical : IsCanonicalIn n (runs ++ run ∷ [])) where
  parts : IsCanonicalFrom 0 runs × IsCanonicalFrom (next_start 0 runs) (run ∷ [])
  parts = canonical-parts 0 runs (run ∷ []) canonical.apart

  -- The last run is non-empty.
  pub gathered-order : run.first ≤ run.last
  gathered-order = parts.1.in_order

  -- The last run may end later.
  pub gathered-longer : (last : ℕ) → run.last ≤ last → last < n
      → IsCanonicalIn n (runs ++ from_to run.first last ∷ [])
  gathered-longer last more value = record {
    apart = canonical-joined 0 runs (from_to run.first last ∷ []) parts.0 (record {
      starts = parts.1.starts;
      in_order = omega (arith, gathered-order, more);
      rest = tt;
    });
    within = All-append (λ (each : Interval). each.last < n) runs (from_to run.first last ∷ [])
        (All-front (λ (each : Interval). each.last < n) runs (run ∷ []) canonical.within)
        (All-cons (λ (each : Interval). each.last < n) (from_to run.first last) [] value
        (All-nil (λ (each : Interval). each.last < n)));
  }

  -- Another run may follow past it, with a gap between.
  pub gathered-more : (next : Interval) → run.last + 2 ≤ next.first → next.first ≤ next.last
      → next.last < n → IsCanonicalIn n ((runs ++ run ∷ []) ++ next ∷ [])
  gathered-more next past order value = record {
    apart = canonical-joined 0 (runs ++ run ∷ []) (next ∷ []) canonical.apart (record {
      starts = rw next_start-last past;
      in_order = order;
      rest = tt;
    });
    within = All-append (λ (each : Interval). each.last < n) (runs ++ run ∷ []) (next ∷ [])
        canonical.within
        (All-cons (λ (each : Interval). each.last < n) next [] value
        (All-nil (λ (each : Interval). each.last < n)));
  }

  -- The ranks of a run that ends later.
  pub longer-members : (next : Interval) → next.first ≡ run.last + 1 → next.first ≤ next.last
      → (rank : ℕ) → members (runs ++ from_to run.first next.last ∷ []) rank
      ≡ (members (runs ++ run ∷ []) rank || covers next rank)
  longer-members next touches order rank =
      let new = members-append runs (from_to run.first next.last ∷ []) rank in
      let old = members-append runs (run ∷ []) rank in
      let last = members-cons (from_to run.first next.last) [] rank in
      let first = members-cons run [] rank in
      let own = gathered-order in
      grind (arith, nat_tests, new, old, last, first, own, touches, order)

-- The first run.
pub gathered-first : (n : ℕ) (run : Interval) → run.first ≤ run.last → run.last < n
    → IsCanonicalIn n (run ∷ [])
gathered-first n run order value = record {
  apart = record { starts = omega arith; in_order = order; rest = tt };
  within = All-cons (λ (each : Interval). each.last < n) run [] value
      (All-nil (λ (each : Interval). each.last < n));
}

-- The ranks of one run more.
pub more-members : (runs : List Interval) (run : Interval) (rank : ℕ)
    → members (runs ++ run ∷ []) rank ≡ (members runs rank || covers run rank)
more-members runs run rank =
    let both = members-append runs (run ∷ []) rank in
    let here = members-cons run [] rank in
    grind (arith, nat_tests, both, here)

-- Canonical runs whose lengths add up to a number are a set of this length.
pub kept-all : (n : ℕ) (runs : List Interval) (number : ℕ) → IsCanonicalIn n runs
    → number ≡ sum_by length_of runs → IsKept n runs number
kept-all n runs number canonical counted = record {
  canonical = canonical;
  length = counted ∙ sum_by-canonical n runs canonical;
}

-- The length of a run more.
pub more-counted : (runs : List Interval) (run : Interval) (number more : ℕ)
    → number ≡ sum_by length_of runs → more ≡ number + length_of run
    → more ≡ sum_by length_of (runs ++ run ∷ [])
more-counted runs run number more counted is =
    let sum = sum_by-append length_of runs (run ∷ []) in omega (arith, sum, counted, is)

-- It fits in the type.
pub more-fits : (n : ℕ) (runs : List Interval) (run : Interval) (number : ℕ)
    → IsCanonicalIn n (runs ++ run ∷ []) → number ≡ sum_by length_of runs
    → number + length_of run ≤ n
more-fits n runs run number canonical counted =
    let all = sum_by-within n (runs ++ run ∷ []) canonical in
    let sum = sum_by-append length_of runs (run ∷ []) in
    omega (arith, all, sum, counted)

-- The runs of one entry more.
pub runs_of-more : {T : Type 0} (rank : T → ℕ) (entries new : List (T × T)) (start end : T)
    → new ≡ entries ++ (start, end) ∷ []
    → runs_of rank new ≡ runs_of rank entries ++ from_to (rank start) (rank end) ∷ []
runs_of-more rank entries new start end is =
    ap (runs_of rank) is ∙ map-append (entry_run rank) entries ((start, end) ∷ [])

-- ---- how many runs the result has

module _ (n : ℕ) (lefts rights set : List Interval) (left : IsCanonicalIn n lefts)
    (right : IsCanonicalIn n rights) (made : IsCanonicalIn n set) where
  -- The ranks that both lists have.
  pub fewer-common : IsSetOf set (intersection (members lefts) (members rights))
      → HasFewerRunsThanBoth lefts rights set
  fewer-common is =
      let both = intersection (members lefts) (members rights) in
      let one = canonical-runs n lefts left.apart left.within in
      let other = canonical-runs n rights right.apart right.within in
      let are = runs-from_canonical n both set made.apart made.within (λ rank below. is rank) in (
        runs-none n (members lefts) both lefts set one are
            (λ rank has. (and_parts (members lefts rank) (members rights rank) has).0),
        runs-none n (members rights) both rights set other are
            (λ rank has. (and_parts (members lefts rank) (members rights rank) has).1),
        λ some more.
            runs-intersection n (members lefts) (members rights) lefts rights set one other are some,
      )

  -- The ranks that exactly one list has.
  pub few-single : IsSetOf set (symmetric_difference (members lefts) (members rights))
      → HasRunsOfBothAtMost lefts rights set
  few-single is =
      let one = canonical-runs n lefts left.apart left.within in
      let other = canonical-runs n rights right.apart right.within in
      runs-of_one exclusive_or refl n (members lefts) (members rights) lefts rights set one other
      (runs-from_canonical n (symmetric_difference (members lefts) (members rights)) set made.apart
      made.within (λ rank below. is rank))
