-- The ranges drawn since a draw of pieces began, and what they leave pending.
use Rattle.std.proofs.Common.{◌≡◌, ℕ, ◌+◌, ◌<◌, ◌≤◌, Bool, true, false, cond, max, min, nat_le, nat_lt, List, [], ◌∷◌, ◌++◌, refl, sym, ap, ◌∙◌, inl, inr, subst, arith}
use Rattle.std.proofs.lemmas.Bool.Decides.{nat_tests}
use Rattle.std.specs.Prelude.{Option, Some, None, MatchBool}
use Rattle.std.specs.Iterator.{Yields}
use Rattle.std.specs.declared.ops.RangeInclusive.{RangeInclusive}
use Rattle.rsb_integer.specs.Rank.{interval_of, intervals_of}
use Rattle.rsb_integer.specs.Runs.{Interval, covers, from_to, members}
use Rattle.rsb_integer.specs.Selection.{exclusive_or}
use Rattle.rsb_integer.specs.declared.integer.Integer.{Ghosts as Elements}
use Rattle.rsb_integer.proofs.lemmas.List.{true_or_false}
use Rattle.rsb_integer.proofs.lemmas.Members.{covers-outside}
use Rattle.rsb_streams.specs.OddPieces.{begun_from, oddly_covered, pending_rest, rank_after, IsLeft, IsOneRunFrom, TakesForPiece}
use Rattle.rsb_streams.specs.Stream.{run_if_any}
use Rattle.rsb_streams.specs.declared.draw.Draw.{Ghosts as Stream}
use Rattle.rsb_streams.specs.declared.odd_pieces.OddPieces.{OddPieces}
use Rattle.rsb_streams.proofs.lemmas.lookahead.EachCall.{yields-more}
use Rattle.rsb_streams.proofs.lemmas.odd.Ranks.{odd-split}
use Rattle.rsb_streams.proofs.lemmas.odd.SymmetricDifference.{xor-assoc}

-- ---- lists of intervals

-- Exclusive or with false changes nothing.
xor-false : (test : Bool) → exclusive_or test false ≡ test
xor-false true = refl
xor-false false = refl

-- One more range changes `oddly_covered` exactly at its own ranks.
odd-more : {T : Type 0} (rank : T → ℕ) (front : List Interval) (drawn : List (RangeInclusive T))
    (range : RangeInclusive T) (at : ℕ)
    → oddly_covered (front ++ intervals_of rank (drawn ++ range ∷ [])) at
    ≡ exclusive_or (oddly_covered (front ++ intervals_of rank drawn) at)
    (covers (interval_of rank range) at)
odd-more rank [] [] range at = xor-false (covers (interval_of rank range) at)
odd-more rank [] (first ∷ drawn) range at =
    ap (λ test. exclusive_or (covers (interval_of rank first) at) test)
    (odd-more rank [] drawn range at)
    ∙ xor-assoc (covers (interval_of rank first) at) (oddly_covered (intervals_of rank drawn) at)
    (covers (interval_of rank range) at)
odd-more rank (run ∷ front) drawn range at =
    ap (λ test. exclusive_or (covers run at) test) (odd-more rank front drawn range at)
    ∙ xor-assoc (covers run at) (oddly_covered (front ++ intervals_of rank drawn) at)
    (covers (interval_of rank range) at)

-- A count of one test is positive if the test passes.
count-one : (test : Bool) → nat_lt 0 (cond test 1 0 + 0) ≡ test
count-one true = refl
count-one false = refl

-- The members of a list of one interval are the ranks that the interval covers.
members-one : (run : Interval) (at : ℕ) → members (run ∷ []) at ≡ covers run at
members-one run at = count-one (covers run at)

-- The same, if the list has the interval only if it is non-empty.
pub members-if : (run : Interval) (at : ℕ) → members (run_if_any run) at ≡ covers run at
members-if run at = elim (true_or_false (nat_le run.first run.last)) [
  | inl some ↦ ap (λ test. members (cond test (run ∷ []) []) at) some ∙ members-one run at
  | inr none ↦
      let outside : covers run at ≡ false = grind (arith, nat_tests) in
      ap (λ test. members (cond test (run ∷ []) []) at) none ∙ sym outside
]

-- That list is at most one interval, which is non-empty and starts where the given one does.
pub one-if : (first : ℕ) (run : Interval) → first ≤ run.first
    → IsOneRunFrom first (run_if_any run)
one-if first run most = elim (true_or_false (nat_le run.first run.last)) [
  | inl some ↦
      let ordered : run.first ≤ run.last = grind (arith, nat_tests) in
      subst (λ test. IsOneRunFrom first (cond test (run ∷ []) [])) (sym some) (most, ordered)
  | inr none ↦ subst (λ test. IsOneRunFrom first (cond test (run ∷ []) [])) (sym none) tt
]

-- ---- the range that has begun and not ended

module _ {T : Type 0} (rank : T → ℕ) (start : T) where
  -- Its members are the ranks that an odd number of its intervals covers.
  begun-odd : (held : Option T) (at : ℕ)
      → members (begun_from rank start held) at ≡ oddly_covered (begun_from rank start held ++ []) at
  begun-odd None at = refl
  begun-odd (Some end) at =
      members-one (from_to (rank start) (rank end)) at
      ∙ sym (xor-false (covers (from_to (rank start) (rank end)) at))

  -- It has the ranks up to its end.
  pub begun-some : (held : Option T) (end : T) (at : ℕ) → held ≡ Some end
      → members (begun_from rank start held) at ≡ covers (from_to (rank start) (rank end)) at
  begun-some held end at is =
      ap (λ each. members (begun_from rank start each) at) is
      ∙ members-one (from_to (rank start) (rank end)) at

  -- Past its end, it has none.
  pub begun-past : (held : Option T) (end : T) (at : ℕ) → held ≡ Some end → rank end < at
      → members (begun_from rank start held) at ≡ false
  begun-past held end at is past =
      begun-some held end at is
      ∙ covers-outside (from_to (rank start) (rank end)) at (inr past)

-- If two ranges overlap, the ranks past the lesser end, up to the greater, are those in exactly one
-- of the two. This leaves out the ranks of the first before the second starts.
pub past-odd : (run next past : Interval) → run.first ≤ next.first → next.first ≤ run.last
    → next.first ≤ next.last → past.first ≡ min run.last next.last + 1
    → past.last ≡ max run.last next.last → (at : ℕ)
    → false ≡ cond (nat_le run.first at) (nat_lt at next.first) false
    → covers past at ≡ exclusive_or (covers run at) (covers next at)
past-odd run next past low meets ordered from to at before =
    sym (ap (λ test. exclusive_or (covers run at) test) (sym (xor-false (covers next at)))
    ∙ odd-split run next past low meets ordered from to at false false before
    ∙ xor-false (covers past at))

-- ---- which of two facts a flag picks

-- If the flag is set, the first fact is enough.
pick-first : (First Second : Type 0) (done : Bool) → done ≡ true → First
    → MatchBool done First Second
pick-first First Second true is fact = fact
pick-first First Second false is fact = absurd (cc)

-- If the flag is not set, the second fact is enough.
pick-second : (First Second : Type 0) (done : Bool) → done ≡ false → Second
    → MatchBool done First Second
pick-second First Second true is fact = absurd (cc)
pick-second First Second false is fact = fact

-- ---- calls of the source

module _ {T N I : Type 0} (integer : Elements T N) (source : Stream I T N) where
  open integer use {rank}

  -- After the source has ended, a draw does nothing.
  pub takes-nothing : (s : OddPieces T I) → s.done ≡ true → TakesForPiece integer source s None s
  takes-nothing s ended = pick-first _ _ s.done ended (refl, refl)

  -- The ranges drawn since the entry, if no piece was returned. What is pending now is what an odd
  -- number of them, and of the range pending at the entry, covers.
  pub record DrawnSince (entry now : OddPieces T I) : Type 0 where
    pub begun : entry.done ≡ false
    pub drawn : List (RangeInclusive T)
    pub draws : Yields source.draw_gives entry.iter drawn now.iter
    pub same : (at : ℕ) → members (pending_rest rank now) at
        ≡ oddly_covered (pending_rest rank entry ++ intervals_of rank drawn) at

  -- At the entry, nothing was drawn.
  pub drawn-none : (entry : OddPieces T I) → entry.done ≡ false → DrawnSince entry entry
  drawn-none entry begun = record {
    begun = begun;
    drawn = [];
    draws = refl;
    same = begun-odd rank entry.start entry.end;
  }

  module _ (entry was : OddPieces T I) (drew : DrawnSince entry was) where
    -- The ranges drawn so far, with one more.
    abbrev with_one : RangeInclusive T → List (RangeInclusive T)
    with_one range = drew.drawn ++ range ∷ []

    -- ---- the source gave one more range
    module _ (range : RangeInclusive T) (now : OddPieces T I)
        (call : source.draw_gives was.iter (Some range) now.iter) where
      -- The calls of the source, with this one.
      draws-more : Yields source.draw_gives entry.iter (with_one range) now.iter
      draws-more = yields-more source.draw_gives drew.drawn range entry.iter was.iter now.iter
          drew.draws call

      -- What an odd number of the ranges covers, by what was pending and the new one.
      odd-now : (at : ℕ) → oddly_covered (pending_rest rank entry
          ++ intervals_of rank (with_one range)) at
          ≡ exclusive_or (members (pending_rest rank was) at) (covers (interval_of rank range) at)
      odd-now at =
          odd-more rank (pending_rest rank entry) drew.drawn range at
          ∙ ap (λ test. exclusive_or test (covers (interval_of rank range) at)) (sym (drew.same at))

      -- If no piece is returned, the new range is one of those drawn since the entry.
      pub drawn-more : ((at : ℕ) → members (pending_rest rank now) at
          ≡ exclusive_or (members (pending_rest rank was) at) (covers (interval_of rank range) at))
          → DrawnSince entry now
      drawn-more same = record {
        begun = drew.begun;
        drawn = with_one range;
        draws = draws-more;
        same = λ at. same at ∙ sym (odd-now at);
      }

      -- If a piece is returned, what is past it is pending.
      pub takes-more : now.done ≡ false → (piece : RangeInclusive T)
          → IsOneRunFrom (rank_after rank (Some piece)) (pending_rest rank now)
          → ((at : ℕ) → rank_after rank (Some piece) ≤ at → members (pending_rest rank now) at
          ≡ exclusive_or (members (pending_rest rank was) at) (covers (interval_of rank range) at))
          → TakesForPiece integer source entry (Some piece) now
      takes-more goes_on piece one same = pick-second _ _ entry.done drew.begun (record {
        drawn = with_one range;
        draws = pick-second _ _ now.done goes_on draws-more;
        ended = tt;
        none = λ done. absurd (cc);
        left = record { one = one; same = λ at from. same at from ∙ sym (odd-now at) };
      })

    -- ---- the source has ended
    module _ (now : OddPieces T I) (ended : now.done ≡ true) (none : now.end ≡ None)
        (call : source.draw_gives was.iter None now.iter) where
      -- If what was pending has no rank from some rank on, nothing is left from there.
      left-none : (from : ℕ)
          → ((at : ℕ) → from ≤ at → members (pending_rest rank was) at ≡ false)
          → IsLeft (pending_rest rank entry ++ intervals_of rank drew.drawn) from
          (pending_rest rank now)
      left-none from nothing = record {
        one = rw none tt;
        same = λ at most.
            ap (λ held. members (begun_from rank now.start held) at) none
            ∙ sym (nothing at most) ∙ drew.same at;
      }

      -- If nothing was pending, nothing is left.
      pub takes-none : was.end ≡ None → TakesForPiece integer source entry None now
      takes-none is = pick-second _ _ entry.done drew.begun (record {
        drawn = drew.drawn;
        draws = pick-first _ _ now.done ended (was.iter, drew.draws, call);
        ended = ended;
        none = λ done. none;
        left = left-none 0
            (λ at most. ap (λ held. members (begun_from rank was.start held) at) is);
      })

      -- If the pending range is returned, nothing is left.
      pub takes-last : (end : T) (piece : RangeInclusive T) → was.end ≡ Some end
          → interval_of rank piece ≡ from_to (rank was.start) (rank end)
          → TakesForPiece integer source entry (Some piece) now
      takes-last end piece is run = pick-second _ _ entry.done drew.begun (record {
        drawn = drew.drawn;
        draws = pick-first _ _ now.done ended (was.iter, drew.draws, call);
        ended = tt;
        none = λ done. none;
        left = left-none (rank_after rank (Some piece)) (λ at most.
            let last = ap (λ each. each.last) run in
            begun-past rank was.start was.end end at is (omega (arith, last, most)));
      })
