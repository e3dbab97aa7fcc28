-- The pieces that are made rank by rank: they are canonical, and have the values of the function.
use Rattle.std.proofs.Common.{◌≡◌, ◌↔◌, ℕ, zero, suc, Bool, true, false, cond, ◌&&◌, ◌==◌, ◌+◌, ◌<◌, ◌≤◌, List, [], ◌∷◌, Option, Some, None, refl, sym, ap, ◌∙◌, inl, inr, arith, subst}
use Rattle.std.specs.Cmp.{first_so, second_so}
use Rattle.std.specs.Option.{option_map}
use Rattle.std.proofs.lemmas.Bool.{cases_lt}
use Rattle.std.proofs.lemmas.Bool.Decides.{nat_tests}
use Rattle.std.proofs.lemmas.Option.{same_Some}
use Rattle.rsb_integer.specs.Runs.{Interval, from_to}
use Rattle.range_map_blaze.specs.Made.{all_seen, pieces_made, with_rank, IsSettled}
use Rattle.range_map_blaze.specs.Map.{value_at, DiffersFromNext, IsMapFrom, IsMapIn}
use Rattle.range_map_blaze.proofs.lemmas.Values.{map-lower, same-in_type, value-below, value-here, value-later}

module _ {V : Type 0} (eq : V → V → Bool) (seen : V → V)
    (exact : (left right : V) → (eq left right ≡ true) ↔ (seen left ≡ seen right)) where
  -- Whether the value of each piece is what contracts see of it.
  abbrev AreSettled : List (Interval × V) → Type 0
  AreSettled [] = Unit {0}
  AreSettled (piece ∷ pieces) = (seen piece.1 ≡ piece.1) × AreSettled pieces

  -- What `with_rank` gives: canonical pieces, with the value at the rank, and no others changed.
  record HasRank (n low : ℕ) (found : Option V) (old new : List (Interval × V)) : Type 0 where
    canonical : IsMapFrom n low new
    settled : AreSettled new
    here : value_at new low ≡ found
    later : (rank : ℕ) → low < rank → value_at new rank ≡ value_at old rank

  -- A piece whose value is equal to this one, which is settled, has this value.
  same-value : (value other : V) → seen value ≡ value → seen other ≡ other → eq value other ≡ true
      → value ≡ other
  same-value value other is also equal = sym is ∙ (exact value other).0 equal ∙ also

  joins : (n low : ℕ) (value : V) (piece : Interval × V) (pieces : List (Interval × V)) → low < n
      → IsMapFrom n (suc low) (piece ∷ pieces) → seen value ≡ value → AreSettled (piece ∷ pieces)
      → ((suc low == piece.0.first) && eq value piece.1) ≡ true
      → HasRank n low (Some value) (piece ∷ pieces) ((from_to low piece.0.last, value) ∷ pieces)
  joins n low value piece pieces below canonical is settled test =
      let touch : suc low ≡ piece.0.first = grind (
        arith,
        nat_tests,
        first_so (suc low == piece.0.first) (eq value piece.1) test,
      ) in
      let same = same-value value piece.1 is settled.0
      (second_so (suc low == piece.0.first) (eq value piece.1) test) in
      let ordered = canonical.1 in
      let first : Interval × V = (from_to low piece.0.last, value) in
      record {
        canonical = (
          omega arith,
          omega (arith, touch, ordered),
          canonical.2,
          differs pieces canonical.3 same,
          canonical.4,
        );
        settled = (is, settled.1);
        here = value-here first pieces low (omega arith) (omega (arith, touch, ordered));
        later = λ rank past. elim (cases_lt piece.0.last rank) [
          | inl beyond ↦
              value-later first pieces rank (inr beyond) ∙ sym (value-later piece pieces rank (inr beyond))
          | inr within ↦
              value-here first pieces rank (omega (arith, past)) within ∙ ap Some same
              ∙ sym (value-here piece pieces rank (omega (arith, touch, past)) within)
        ];
      }
    where
      differs : (others : List (Interval × V)) → DiffersFromNext piece others → value ≡ piece.1
          → DiffersFromNext (from_to low piece.0.last, value) others
      differs [] apart same = tt
      differs (next ∷ others) apart same = λ touch equal. apart touch (sym same ∙ equal)

  starts : (n low : ℕ) (value : V) (pieces : List (Interval × V)) → low < n
      → IsMapFrom n (suc low) pieces → seen value ≡ value → AreSettled pieces
      → DiffersFromNext (from_to low low, value) pieces
      → HasRank n low (Some value) pieces ((from_to low low, value) ∷ pieces)
  starts n low value pieces below canonical is settled differs =
      let first : Interval × V = (from_to low low, value) in
      record {
        canonical = (
          omega arith,
          omega arith,
          below,
          differs,
          map-lower n (suc low) (low + 1) pieces (omega arith) canonical,
        );
        settled = (is, settled);
        here = value-here first pieces low (omega arith) (omega arith);
        later = λ rank past. value-later first pieces rank (inr past);
      }

  with-rank : (n low : ℕ) (found : Option V) (pieces : List (Interval × V)) → low < n
      → IsMapFrom n (suc low) pieces → option_map seen found ≡ found → AreSettled pieces
      → HasRank n low found pieces (with_rank eq low found pieces)
  with-rank n low None pieces below canonical is settled = record {
    canonical = map-lower n (suc low) low pieces (omega arith) canonical;
    settled = settled;
    here = value-below n (suc low) pieces low canonical (omega arith);
    later = λ rank past. refl;
  }
  with-rank n low (Some value) [] below canonical is settled =
      starts n low value [] below canonical (same_Some (seen value) value is) settled tt
  with-rank n low (Some value) (piece ∷ pieces) below canonical is settled =
      by ((suc low == piece.0.first) && eq value piece.1) refl
    where
      by : (test : Bool) → ((suc low == piece.0.first) && eq value piece.1) ≡ test
          → HasRank n low (Some value) (piece ∷ pieces)
          (cond test ((from_to low piece.0.last, value) ∷ pieces)
          ((from_to low low, value) ∷ piece ∷ pieces))
      by true test =
          joins n low value piece pieces below canonical (same_Some (seen value) value is) settled test
      by false test =
          starts n low value (piece ∷ pieces) below canonical (same_Some (seen value) value is) settled
          (λ touch same.
          let equal : eq value piece.1 ≡ true = (exact value piece.1).1 (ap seen same) in
          let ranks : (suc low == piece.0.first) ≡ true = grind (arith, nat_tests, touch) in
          absurd (grind (arith, test, equal, ranks)))

  -- ---- all ranks

  record IsMade (low more : ℕ) (value : ℕ → Option V) (pieces : List (Interval × V)) : Type 0 where
    canonical : IsMapFrom (low + more) low pieces
    settled : AreSettled pieces
    has : (rank : ℕ) → low ≤ rank → rank < low + more → value_at pieces rank ≡ value rank

  made-all : (low more : ℕ) (value : ℕ → Option V) → IsSettled seen value
      → IsMade low more value (pieces_made eq low more value)
  unfolding pieces_made
  made-all low zero value settled = record {
    canonical = tt;
    settled = tt;
    has = λ rank from below. absurd (omega (arith, from, below));
  }
  made-all low (suc more) value settled =
      let rest = made-all (suc low) more value settled in
      let count : suc low + more ≡ low + suc more = omega arith in
      let canonical = subst (λ n. IsMapFrom n (suc low) (pieces_made eq (suc low) more value)) count
      rest.canonical in
      let made = with-rank (low + suc more) low (value low) (pieces_made eq (suc low) more value)
      (omega arith) canonical (settled low) rest.settled in
      record {
        canonical = made.canonical;
        settled = made.settled;
        has = λ rank from below. elim (cases_lt low rank) [
          | inl past ↦
              made.later rank past ∙ rest.has rank (omega (arith, past)) (omega (arith, below))
          | inr most ↦
              let at : low ≡ rank = omega (arith, most, from) in
              subst (λ each. value_at (with_rank eq low (value low) (pieces_made eq (suc low) more value))
              each ≡ value each) at made.here
        ];
      }

  -- The pieces that are made of a function are canonical.
  pub made-map : (n : ℕ) (value : ℕ → Option V) → IsSettled seen value
      → IsMapIn n (pieces_made eq 0 n value)
  made-map n value settled =
      let all : 0 + n ≡ n = omega arith in
      subst (λ wide. IsMapFrom wide 0 (pieces_made eq 0 n value)) all (made-all 0 n value settled).canonical

  -- They have its values.
  pub made-value : (n : ℕ) (value : ℕ → Option V) → IsSettled seen value → (rank : ℕ) → rank < n
      → value_at (pieces_made eq 0 n value) rank ≡ value rank
  made-value n value settled rank below =
      (made-all 0 n value settled).has rank (omega arith) (omega (arith, below))

  -- Those that are made of the values of a map are those of the map.
  pub made-again : (n : ℕ) (pieces : List (Interval × V)) → IsMapIn n pieces
      → IsSettled seen (value_at pieces)
      → pieces_made eq 0 n (all_seen seen (value_at pieces)) ≡ pieces
  made-again n pieces canonical settled =
      ap (pieces_made eq 0 n) (λ i rank. settled rank i)
      ∙ same-in_type n (pieces_made eq 0 n (value_at pieces)) pieces
      (made-map n (value_at pieces) settled) canonical
      (made-value n (value_at pieces) settled)
