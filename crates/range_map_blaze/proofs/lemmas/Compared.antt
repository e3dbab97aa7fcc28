-- Entries of a map that are the same, piece by piece, and what they feed to a hasher.
use Rattle.std.proofs.Common.{◌≡◌, ◌↔◌, ℕ, suc, Bool, true, false, ◌&&◌, ◌+◌, ◌<◌, ◌≤◌, ◌++◌, List, [], ◌∷◌, Some, refl, sym, ap, ◌∙◌, arith, length, subst}
use Rattle.std.specs.Prelude.{flat_map}
use Rattle.std.specs.Cmp.{both_ways, first_so, second_so, Equal-is, IsEquivalence}
use Rattle.std.specs.Cmp.Lexicographic.{pointwise}
use Rattle.std.specs.Hash as fed
use Rattle.std.specs.Option.{option_map}
use Rattle.std.specs.Ordering.{eq_by_cmp, is_eq, nat_cmp}
use Rattle.std.specs.declared.cmp.Ordering.{Ordering}
use Rattle.std.specs.declared.cmp.Ordering.TheVariants.{Equal}
use Rattle.std.proofs.lemmas.Bool.Decides.{nat_tests}
use Rattle.std.proofs.lemmas.Map.Lookups.{CmpEqualImpliesEq}
use Rattle.rsb_integer.specs.Runs.{Interval, covers}
use Rattle.rsb_integer.proofs.lemmas.Members.{same_interval}
use Rattle.range_map_blaze.specs.Made.{fed_piece, IsSettled}
use Rattle.range_map_blaze.specs.Map.{value_at, IsMapFrom, IsMapIn}
use Rattle.range_map_blaze.specs.Order.{map_eq}
use Rattle.range_map_blaze.specs.laws.Order.{alike-seen, maps_equivalence, pairs-alike}
use Rattle.range_map_blaze.specs.Storage.{piece_of, pieces_of}
use Rattle.range_map_blaze.proofs.lemmas.Values.{same-in_type}

module _ {T V : Type 0} (rank : T → ℕ) (seen : V → V) where
  -- The values of stored pieces are what contracts see of them.
  pub stored-settled : ((value : V) → seen (seen value) ≡ seen value) → (entries : List (T × (T × V)))
      → IsSettled seen (value_at (pieces_of rank seen entries))
  stored-settled twice [] at = refl
  stored-settled twice (entry ∷ entries) at =
      by (covers (piece_of rank seen entry).0 at) refl (stored-settled twice entries at)
    where
      by : (test : Bool) → covers (piece_of rank seen entry).0 at ≡ test
          → option_map seen (value_at (pieces_of rank seen entries) at)
          ≡ value_at (pieces_of rank seen entries) at
          → option_map seen (value_at (pieces_of rank seen (entry ∷ entries)) at)
          ≡ value_at (pieces_of rank seen (entry ∷ entries)) at
      by true is rest = rw is (ap Some (twice entry.1.1))
      by false is rest = rw is rest

  -- ---- equality

  module _ (n : ℕ) (same : T → T → Bool) (eq : V → V → Bool)
      (ranked : (left right : T) → same left right ≡ true → rank left ≡ rank right)
      (back : (left right : T) → rank left < n → rank right < n → rank left ≡ rank right
      → same left right ≡ true)
      (exact : (left right : V) → (eq left right ≡ true) ↔ (seen left ≡ seen right)) where
    -- What `==` of two entries returns.
    abbrev pub same_entry : T × (T × V) → T × (T × V) → Bool
    same_entry left right =
        same left.0 right.0 && (same left.1.0 right.1.0 && eq left.1.1 right.1.1)

    entry-piece : (left right : T × (T × V)) → same_entry left right ≡ true
        → piece_of rank seen left ≡ piece_of rank seen right
    entry-piece left right is =
        let rest = second_so (same left.0 right.0) (same left.1.0 right.1.0 && eq left.1.1 right.1.1) is in
        let run = same_interval (piece_of rank seen left).0 (piece_of rank seen right).0
        (ranked left.0 right.0
        (first_so (same left.0 right.0) (same left.1.0 right.1.0 && eq left.1.1 right.1.1) is))
        (ranked left.1.0 right.1.0 (first_so (same left.1.0 right.1.0) (eq left.1.1 right.1.1) rest)) in
        let value = (exact left.1.1 right.1.1).0
        (second_so (same left.1.0 right.1.0) (eq left.1.1 right.1.1) rest) in
        λ i. (run i, value i)

    piece-entry : (low : ℕ) (left right : T × (T × V)) → low ≤ rank left.0
        → rank left.0 ≤ rank left.1.0 → rank left.1.0 < n
        → piece_of rank seen left ≡ piece_of rank seen right → same_entry left right ≡ true
    piece-entry low left right from order ends is =
        let start : rank left.0 ≡ rank right.0 = ap (λ (each : Interval × V). each.0.first) is in
        let end : rank left.1.0 ≡ rank right.1.0 = ap (λ (each : Interval × V). each.0.last) is in
        let starts = back left.0 right.0 (omega (arith, order, ends)) (omega (arith, order, ends, start)) start in
        let both = back left.1.0 right.1.0 ends (omega (arith, ends, end)) end in
        let values = (exact left.1.1 right.1.1).1 (ap (λ (each : Interval × V). each.1) is) in
        λ i. starts i && (both i && values i)

    -- Canonical entries are equal exactly if their pieces are the same.
    pub entries-same : (low : ℕ) (left right : List (T × (T × V)))
        → IsMapFrom n low (pieces_of rank seen left)
        → (pointwise same_entry left right ≡ true)
        ↔ (pieces_of rank seen left ≡ pieces_of rank seen right)
    entries-same low [] [] canonical = ((λ is. refl), (λ is. refl))
    entries-same low [] (other ∷ right) canonical = (
      (λ is. absurd (cc)),
      (λ is. let lengths = ap length is in absurd (omega (arith, lengths))),
    )
    entries-same low (entry ∷ left) [] canonical = (
      (λ is. absurd (cc)),
      (λ is. let lengths = ap length is in absurd (omega (arith, lengths))),
    )
    entries-same low (entry ∷ left) (other ∷ right) canonical =
        let rest = entries-same (rank entry.1.0 + 1) left right canonical.4 in (
          (λ is.
              let head = entry-piece entry other
              (first_so (same_entry entry other) (pointwise same_entry left right) is) in
              let tail = rest.0 (second_so (same_entry entry other) (pointwise same_entry left right) is) in
              λ i. head i ∷ tail i),
          (λ is.
              let head = piece-entry low entry other canonical.0 canonical.1 canonical.2
              (ap (head_or (piece_of rank seen entry)) is) in
              let tail = rest.1 (ap tail_of is) in
              λ i. head i && tail i),
        )
      where
        head_or : Interval × V → List (Interval × V) → Interval × V
        head_or none [] = none
        head_or none (piece ∷ pieces) = piece

        tail_of : List (Interval × V) → List (Interval × V)
        tail_of [] = []
        tail_of (piece ∷ pieces) = pieces

  -- ---- hashes

  module _ (n : ℕ) (key : T → fed.HashWrites) (keyed : ℕ → fed.HashWrites) (value : V → fed.HashWrites)
      (by_rank : (each : T) → rank each < n → keyed (rank each) ≡ key each)
      (by_seen : (each : V) → value (seen each) ≡ value each) where
    -- What an entry feeds.
    abbrev pub fed_entry : T × (T × V) → fed.HashWrites
    fed_entry entry = key entry.0 ++ (key entry.1.0 ++ value entry.1.1)

    entries-flat : (low : ℕ) (entries : List (T × (T × V))) → IsMapFrom n low (pieces_of rank seen entries)
        → flat_map fed_entry entries ≡ flat_map (fed_piece keyed value) (pieces_of rank seen entries)
    entries-flat low [] canonical = refl
    entries-flat low (entry ∷ entries) canonical =
        let order = canonical.1 in
        let ends = canonical.2 in
        let first = by_rank entry.0 (omega (arith, order, ends)) in
        let last = by_rank entry.1.0 ends in
        let one = by_seen entry.1.1 in
        let rest = entries-flat (rank entry.1.0 + 1) entries canonical.4 in
        λ i. (sym first i ++ (sym last i ++ sym one i)) ++ rest i

    count-entries : (entries : List (T × (T × V))) → length entries ≡ length (pieces_of rank seen entries)
    count-entries [] = refl
    count-entries (entry ∷ entries) = ap suc (count-entries entries)

    -- Entries feed what their pieces do.
    pub entries-fed : (low : ℕ) (entries : List (T × (T × V)))
        → IsMapFrom n low (pieces_of rank seen entries)
        → fed.slice fed_entry entries
        ≡ fed.slice (fed_piece keyed value) (pieces_of rank seen entries)
    entries-fed low entries canonical =
        let count = count-entries entries in
        let flat = entries-flat low entries canonical in
        λ i. fed.usize (count i) ++ flat i

-- ---- values of an element type

module _ {T : Type 0} (rank : T → ℕ) (n : ℕ) (same : T → T → Bool) (cmp : T → T → Ordering)
    (ties : (left right : T) → same left right ≡ eq_by_cmp cmp left right) where
  -- Equal values have the same rank.
  pub same-ranked : CmpEqualImpliesEq cmp → (left right : T) → same left right ≡ true
      → rank left ≡ rank right
  same-ranked exact left right is =
      ap rank (exact left right ((Equal-is (cmp left right)).0 (sym (ties left right) ∙ is)))

  -- Values with the same rank are equal.
  pub ranked-same : ((left right : T) → rank left < n → rank right < n
      → cmp left right ≡ nat_cmp (rank left) (rank right)) → (left right : T) → rank left < n
      → rank right < n → rank left ≡ rank right → same left right ≡ true
  ranked-same in_order left right below within is =
      ties left right
      ∙ ap is_eq (in_order left right below within ∙ equal-ranks (rank left) (rank right) is)
    where
      equal-ranks : (one other : ℕ) → one ≡ other → nat_cmp one other ≡ Equal
      equal-ranks one other is = grind (arith, nat_tests, is)

-- ---- maps

-- If a test returns whether two canonical lists are the same, it returns whether the maps are equal.
pub told-same : {V : Type 0} (n : ℕ) (eq : V → V → Bool) (seen : V → V)
    (exact : (left right : V) → (eq left right ≡ true) ↔ (seen left ≡ seen right))
    → IsEquivalence eq → (left right : List (Interval × V)) (answer : Bool) → IsMapIn n left
    → IsMapIn n right → IsSettled seen (value_at left) → IsSettled seen (value_at right)
    → (answer ≡ true) ↔ (left ≡ right) → answer ≡ map_eq n eq left right
told-same n eq seen exact equal left right answer one two settled also told =
    both_ways answer (map_eq n eq left right)
    (λ is. subst (λ other. map_eq n eq left other ≡ true) (told.0 is)
    ((maps_equivalence n equal).refl left))
    (λ is. told.1 (same-in_type n left right one two (λ rank below.
    sym (settled rank)
    ∙ alike-seen eq seen exact (value_at left rank) (value_at right rank)
    (pairs-alike eq 0 n (value_at left) (value_at right) is rank (omega arith) (omega (arith, below)))
    ∙ also rank)))
