-- A run joined with the pieces next to it, and the piece that extends over a rank.
use Rattle.std.proofs.Common.{◌≡◌, ℕ, ◌+◌, ◌≤◌, List, Some, None, sym, ap, ◌∙◌, inl, inr, arith}
use Rattle.std.proofs.lemmas.Bool.{cases_lt}
use Rattle.std.proofs.lemmas.Option.{none-some}
use Rattle.rsb_integer.specs.Runs.{Interval}
use Rattle.rsb_integer.proofs.lemmas.Members.{covers-bounds, covers-inside}
use Rattle.range_map_blaze.specs.Map.{value_at, IsJoinedEnd, IsJoinedStart, IsMapIn, IsPieceAround}
use Rattle.range_map_blaze.specs.Parts.{after}
use Rattle.range_map_blaze.specs.Storage.{pieces_past}
use Rattle.range_map_blaze.proofs.lemmas.Contained.{contained-maximal, maximal-one}
use Rattle.range_map_blaze.proofs.lemmas.Cuts.{after-past}
use Rattle.range_map_blaze.proofs.lemmas.Values.{value-past}

module _ {V : Type 0} (n : ℕ) (pieces : List (Interval × V)) where
  -- If the piece that has the rank below the start has the value, the run starts where it does.
  pub joined-start : (start key : ℕ) (value : V) (piece : Interval × V)
      → IsPieceAround n (value_at pieces) key piece → key + 1 ≡ start → piece.1 ≡ value
      → IsJoinedStart pieces start value piece.0.first
  joined-start start key value piece around next same =
      let bounds = covers-bounds piece.0 key around.around in
      let low = bounds.0 in
      let high = bounds.1 in
      record {
        below = omega (arith, low, next);
        same = λ rank from less.
            around.maximal.whole rank (covers-inside piece.0 rank from (omega (arith, less, next, high)))
            ∙ ap Some same;
        apart = λ above at. around.maximal.begins_here above (at ∙ ap Some (sym same));
      }

  -- If the piece that has the rank past the end has the value, the run ends where it does.
  pub joined-end : (end key : ℕ) (value : V) (piece : Interval × V) → IsMapIn n pieces
      → IsPieceAround n (value_at pieces) key piece → key ≡ end + 1 → piece.1 ≡ value
      → IsJoinedEnd n pieces end value piece.0.last
  joined-end end key value piece canonical around next same =
      let bounds = covers-bounds piece.0 key around.around in
      let low = bounds.0 in
      let high = bounds.1 in
      record {
        above = omega (arith, high, next);
        in_type = around.maximal.in_type;
        same = λ rank past to.
            around.maximal.whole rank (covers-inside piece.0 rank (omega (arith, past, next, low)) to)
            ∙ ap Some same;
        apart = λ at. elim (cases_lt (piece.0.last + 1) n) [
          | inl less ↦ around.maximal.ends_here less (at ∙ ap Some (sym same))
          | inr past ↦
              none-some value (sym (value-past n 0 pieces (piece.0.last + 1) canonical past) ∙ at)
        ];
      }

  -- No piece starts past the greatest value.
  pub joined-greatest : (end : ℕ) (value : V) → IsMapIn n pieces → end + 1 ≡ n
      → IsJoinedEnd n pieces end value end
  joined-greatest end value canonical greatest = record {
    above = omega arith;
    in_type = omega (arith, greatest);
    same = λ rank past to. absurd (omega (arith, past, to));
    apart = λ at.
        none-some value (sym (value-past n 0 pieces (end + 1) canonical (omega (arith, greatest))) ∙ at);
  }

  -- ---- when no piece extends over the rank

  -- The rank is the greatest.
  pub past-greatest : (end : ℕ) → IsMapIn n pieces → end + 1 ≡ n
      → pieces_past end pieces ≡ after end pieces
  past-greatest end canonical greatest =
      sym (after-past n 0 end pieces canonical (λ piece found starts over.
      let in_type = (contained-maximal n 0 pieces piece canonical found).in_type in
      omega (arith, in_type, over, greatest)))

  -- The next rank has no value.
  pub past-none : (end next : ℕ) → IsMapIn n pieces → next ≡ end + 1 → value_at pieces next ≡ None
      → pieces_past end pieces ≡ after end pieces
  past-none end next canonical is none =
      sym (after-past n 0 end pieces canonical (λ piece found starts over.
      none-some piece.1 (sym none
      ∙ (contained-maximal n 0 pieces piece canonical found).whole next
      (covers-inside piece.0 next (omega (arith, is, starts)) (omega (arith, is, over))))))

  -- The piece that has the next rank starts there.
  pub past-starts : (end next : ℕ) (piece : Interval × V) → IsMapIn n pieces → next ≡ end + 1
      → IsPieceAround n (value_at pieces) next piece → next ≤ piece.0.first
      → pieces_past end pieces ≡ after end pieces
  past-starts end next piece canonical is around starts =
      sym (after-past n 0 end pieces canonical (λ other found below over.
      let same = maximal-one n (value_at pieces) next other piece
      (contained-maximal n 0 pieces other canonical found) around.maximal
      (covers-inside other.0 next (omega (arith, is, below)) (omega (arith, is, over))) around.around in
      let first = ap (λ (each : Interval × V). each.0.first) same in
      omega (arith, first, is, starts, below)))
