-- The states of the pieces that an odd number of ranges covers.
use Rattle.std.proofs.Common.{◌≡◌, ℕ, ◌+◌, ◌-◌, ◌<◌, ◌≤◌, Bool, false, max, min, List, [], ◌∷◌, ◌++◌, length, refl, sym, ap, ◌∙◌, arith}
use Rattle.std.specs.Iterator.{size}
use Rattle.std.specs.Option.{option_flatten}
use Rattle.std.specs.Prelude.{Option, Some, None, remove, slice_get, take}
use Rattle.rsb_integer.specs.Runs.{Interval, from_to}
use Rattle.rsb_integer.specs.declared.integer.Integer.{Ghosts as Elements}
use Rattle.rsb_integer.proofs.lemmas.Members.{same_interval}
use Rattle.rsb_streams.specs.OddPieces.{begun_from, ends_in, ends_of, first_end, with_pending, odd_may_give, odd_remaining, past_both, pending_rest, HasOneEnd, IsGoing}
use Rattle.rsb_streams.specs.Stream.{◌⊆◌, run_if_any}
use Rattle.rsb_streams.specs.declared.draw.Draw.{Ghosts as Stream}
use Rattle.rsb_streams.specs.declared.odd_pieces.OddPieces.{OddPieces}
use Rattle.rsb_streams.proofs.lemmas.checking.Fresh.{none-if_empty, one-if_some}
use Rattle.rsb_streams.proofs.lemmas.odd.Drawn.{DrawnSince}

-- A state of the pieces that has not ended.
abbrev pub state : {T I : Type 0} → I → T → Option T → OddPieces T I
state iter start held = record { iter = iter; done = false; start = start; end = held }

-- At most one end is pending.
pub one-held : {T : Type 0} (held : Option T) → length (ends_of held) ≤ 1
one-held None = omega arith
one-held (Some end) = omega arith

-- Whether a state with the given source has not ended, and what is past the lesser of two ends is
-- pending.
pub record HasPassed {T I : Type 0} (rank : T → ℕ) (j : I) (end other : T)
    (s : OddPieces T I) : Type 0 where
  pub iter : s.iter ≡ j
  pub undone : s.done ≡ false
  pub left : pending_rest rank s ≡ run_if_any (past_both rank end other)

-- The last of at most one end in a vector is the pending end.
popped-by : {T : Type 0} (held : Option T)
    → option_flatten (slice_get (ends_in held) (length (ends_in held) - 1)) ≡ held
popped-by None = refl
popped-by (Some end) = refl

-- No end is left before it.
taken-last : {T : Type 0} (held : Option T)
    → take (length (ends_in held) - 1) (ends_in held) ≡ []
taken-last None = refl
taken-last (Some end) = refl

-- ---- the ends in a vector, of which there is at most one before a range is drawn

-- The first end in the vector is the pending end.
pub first_end-ends_in : {T : Type 0} (held : Option T) → first_end (ends_in held) ≡ held
first_end-ends_in None = refl
first_end-ends_in (Some end) = refl

-- The vector has at most one end.
pub one-end : {T : Type 0} (held : Option T) → HasOneEnd (ends_in held)
one-end held = ap ends_in (sym (first_end-ends_in held))

module _ {T : Type 0} (ends : List (Option T)) (one : HasOneEnd ends) where
  -- If no end is pending, the pushed end is the only one.
  pub pushed-none : (pushed : List (Option T)) (other : T) → None ≡ first_end ends
      → pushed ≡ ends ++ Some other ∷ [] → pushed ≡ ends_in (Some other)
  pushed-none pushed other is push =
      push ∙ ap (λ each. each ++ Some other ∷ []) (one ∙ ap ends_in (sym is))

  -- If an end is pending, it is the first, and the pushed end is the second.
  pub pushed-some : (pushed : List (Option T)) (end other : T) → Some end ≡ first_end ends
      → pushed ≡ ends ++ Some other ∷ [] → pushed ≡ Some end ∷ Some other ∷ []
  pushed-some pushed end other is push =
      push ∙ ap (λ each. each ++ Some other ∷ []) (one ∙ ap ends_in (sym is))

  -- If the first of the two is removed, the pushed end is left.
  pub removed-first : (pushed left : List (Option T)) (end other : T) → Some end ≡ first_end ends
      → pushed ≡ ends ++ Some other ∷ [] → left ≡ remove pushed 0 → left ≡ ends_in (Some other)
  removed-first pushed left end other is push taken =
      taken ∙ ap (λ each. remove each 0) (pushed-some pushed end other is push)

  -- If the last of at most one end is removed, none is left.
  pub popped-left : (left : List (Option T)) → left ≡ take (length ends - 1) ends → left ≡ []
  popped-left left taken =
      taken ∙ ap (λ each. take (length each - 1) each) one ∙ taken-last (first_end ends)

  -- The removed end is the pending one.
  pub popped-end : (popped : Option (Option T)) (held : Option T)
      → popped ≡ slice_get ends (length ends - 1) → held ≡ option_flatten popped
      → first_end ends ≡ held
  popped-end popped held is flat =
      sym (popped-by (first_end ends))
      ∙ ap (λ each. option_flatten (slice_get each (length each - 1))) (sym one)
      ∙ ap option_flatten (sym is) ∙ sym flat

-- ---- the lesser of two ends is passed
module _ {T : Type 0} (both left : List (Option T)) (end other : T)
    (are : both ≡ Some end ∷ Some other ∷ []) where
  -- If the first end is removed, the other is left.
  pub left-other : left ≡ remove both 0 → left ≡ ends_in (Some other)
  left-other taken = taken ∙ ap (λ each. remove each 0) are

  -- If the last end is removed, the first is left.
  pub left-first : left ≡ take (length both - 1) both → left ≡ ends_in (Some end)
  left-first taken = taken ∙ ap (λ each. take (length each - 1) each) are

module _ {T : Type 0} (rank : T → ℕ) (end other start : T) (left : List (Option T)) where
  -- If the greater end is left, what is pending is past the lesser end, up to the greater.
  past-by : (greater : T) → left ≡ ends_in (Some greater)
      → rank start ≡ min (rank end) (rank other) + 1 → max (rank end) (rank other) ≡ rank greater
      → rank start ≤ rank greater
      → begun_from rank start (first_end left) ≡ run_if_any (past_both rank end other)
  past-by greater is from to some =
      ap (λ each. begun_from rank start (first_end each)) is
      ∙ ap (λ (run : Interval). run ∷ [])
      (same_interval (from_to (rank start) (rank greater)) (past_both rank end other) from (sym to))
      ∙ sym (one-if_some (past_both rank end other) (omega (arith, from, to, some)))

  -- If the first end is the lesser, what is past it, up to the other, is pending.
  pub past-first : rank end < rank other → left ≡ ends_in (Some other)
      → rank start ≡ rank end + 1
      → begun_from rank start (first_end left) ≡ run_if_any (past_both rank end other)
  past-first less is from =
      past-by other is (omega (arith, less, from)) (omega (arith, less)) (omega (arith, less, from))

  -- If the other end is the lesser, what is past it, up to the first, is pending.
  pub past-other : rank other < rank end → left ≡ ends_in (Some end)
      → rank start ≡ rank other + 1
      → begun_from rank start (first_end left) ≡ run_if_any (past_both rank end other)
  past-other less is from =
      past-by end is (omega (arith, less, from)) (omega (arith, less)) (omega (arith, less, from))

  -- If both ends have one rank, nothing is pending.
  pub past-neither : rank other ≤ rank end → rank end ≤ rank other → left ≡ []
      → begun_from rank start (first_end left) ≡ run_if_any (past_both rank end other)
  past-neither most least none =
      ap (λ each. begun_from rank start (first_end each)) none
      ∙ sym (none-if_empty (past_both rank end other) (omega (arith, most, least)))

-- If what is past the lesser end is pending in a state that has not ended, the state satisfies
-- `HasPassed`.
pub passed-by : {T I : Type 0} (rank : T → ℕ) (j : I) (end other start : T) (done : Bool)
    (held : Option T) → done ≡ false
    → begun_from rank start held ≡ run_if_any (past_both rank end other)
    → HasPassed rank j end other (record { iter = j; done = done; start = start; end = held })
passed-by rank j end other start done held undone left = record {
  iter = refl;
  undone = undone;
  left = left;
}

-- ---- a loop over pieces

module _ {T N I : Type 0} (integer : Elements T N) (stream : Stream I T N) where
  -- What holds before each iteration: what may come now might come at the entry, and no more pieces
  -- are left than then.
  pub record OddSoFar (entry now : OddPieces T I) : Type 0 where
    pub undone : now.done ≡ false
    pub going : IsGoing integer stream now
    pub same : odd_may_give integer stream now ⊆ odd_may_give integer stream entry
    pub nearer : size (odd_remaining integer stream now) ≤ size (odd_remaining integer stream entry)

  -- The same, if the pending end is in a vector with at most one end, and which ranges were drawn
  -- since the entry.
  pub record OddHeld (entry now : OddPieces T I) (ends : List (Option T)) : Type 0 where
    pub one : HasOneEnd ends
    pub so : OddSoFar entry (with_pending now ends)
    pub drew : DrawnSince integer stream entry (with_pending now ends)
