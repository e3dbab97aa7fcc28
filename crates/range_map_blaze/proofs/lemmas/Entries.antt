-- What calls of a map do to the pieces of its entries, and which pieces they find.
-- (Those of rsb_storage are about a map from starts to ends.)
use Rattle.std.proofs.Common.{◌≡◌, ℕ, Bool, true, false, not, ◌==◌, nat_le, nat_lt, ◌+◌, ◌<◌, cond, List, [], ◌∷◌, refl, sym, ap, ◌∙◌, inl, inr, arith, Some, None}
use Rattle.std.specs.List.{filter}
use Rattle.std.specs.Map.{lookup, remove_entry, set_value}
use Rattle.std.specs.Ordering.{nat_cmp, is_eq, is_gt, is_le}
use Rattle.std.specs.BTreeMap.Range.{entries_below, entries_from, range_contains}
use Rattle.std.specs.declared.ops.Bound.TheVariants.{Included, Unbounded}
use Rattle.std.specs.BTreeMap.{insert_entry, is_at}
use Rattle.std.specs.declared.cmp.Ordering.{Ordering}
use Rattle.std.proofs.lemmas.Bool.Decides.{nat_tests}
use Rattle.std.proofs.Common.{slice_get}
use Rattle.std.proofs.lemmas.Option.{get_or_from_slice_get, none-some, same_Some}
use Rattle.rsb_storage.specs.Starts.{StartsWith}
use Rattle.rsb_integer.specs.Runs.{Interval, from_to}
use Rattle.rsb_storage.proofs.lemmas.runs.Maps.{order-cases}
use Rattle.range_map_blaze.specs.Storage.{piece_of, pieces_below, pieces_from, pieces_in, pieces_of, range_values_of, pieces_starting, with_piece, with_end_at, without_start, StartsAscendFrom}
use Rattle.range_map_blaze.proofs.lemmas.Starts.{ascending-all, with_piece-first, with_piece-here, with_piece-later}

-- If a test of keys agrees with a test of their ranks, the entries whose keys pass have the pieces
-- whose starts pass.
pub pieces-filter : {T V : Type 0} (rank : T → ℕ) (seen : V → V) (n : ℕ) (keeps : T → Bool) (test : ℕ → Bool) (low : ℕ)
    (entries : List (T × (T × V))) → ((key : T) → rank key < n → keeps key ≡ test (rank key))
    → StartsAscendFrom n low (pieces_of rank seen entries)
    → pieces_of rank seen (filter (λ (entry : T × (T × V)). keeps entry.0) entries)
    ≡ pieces_starting test (pieces_of rank seen entries)
pieces-filter rank seen n keeps test low [] same ascending = refl
pieces-filter {T} {V} rank seen n keeps test low (entry ∷ entries) same ascending =
    by (test (rank entry.0)) refl
    (pieces-filter rank seen n keeps test (rank entry.0 + 1) entries same ascending.2)
  where
    by : (passes : Bool) → test (rank entry.0) ≡ passes
        → pieces_of rank seen (filter (λ (each : T × (T × V)). keeps each.0) entries)
        ≡ pieces_starting test (pieces_of rank seen entries)
        → pieces_of rank seen (filter (λ (each : T × (T × V)). keeps each.0) (entry ∷ entries))
        ≡ pieces_starting test (pieces_of rank seen (entry ∷ entries))
    by true is rest =
        rw (same entry.0 ascending.1, is)
        (ap (λ (pieces : List (Interval × V)). piece_of rank seen entry ∷ pieces) rest)
    by false is rest = rw (same entry.0 ascending.1, is) rest

module _ {T V : Type 0} (cmp : T → T → Ordering) (rank : T → ℕ) (seen : V → V) (n : ℕ)
    (in_order : (x y : T) → rank x < n → rank y < n → cmp x y ≡ nat_cmp (rank x) (rank y)) where
  -- Inserting an entry puts its piece at its place, in place of any piece with the same start.
  pub pieces-insert_entry : (key : T) (end : T × V) → rank key < n → (low : ℕ) (entries : List (T × (T × V)))
      → StartsAscendFrom n low (pieces_of rank seen entries)
      → pieces_of rank seen (insert_entry cmp entries key end)
      ≡ with_piece (piece_of rank seen (key, end)) (pieces_of rank seen entries)
  pieces-insert_entry key end known low [] ascending = refl
  pieces-insert_entry key end known low (entry ∷ entries) ascending =
      let piece = piece_of rank seen (key, end) in
      let first = piece_of rank seen entry in
      let pieces = pieces_of rank seen entries in
      elim (order-cases cmp rank n in_order key entry.0 known ascending.1) [
        | inl less ↦
            let below = less.0 in
            rw less.1
            (sym (with_piece-first n piece (first ∷ pieces) (omega (arith, below), ascending.1, ascending.2)))
        | inr (inl same) ↦
            rw same.1
            ((λ i. (from_to (sym same.0 i) (rank end.0), seen end.1) ∷ pieces)
            ∙ sym (with_piece-here piece first pieces same.0 ∙ with_piece-first n piece pieces
            (rw same.0 ascending.2)))
        | inr (inr more) ↦
            rw more.1
            (ap (λ (rest : List (Interval × V)). first ∷ rest)
            (pieces-insert_entry key end known (rank entry.0 + 1) entries ascending.2)
            ∙ sym (with_piece-later piece first pieces more.0))
      ]

  -- Removing the entry at a key removes the piece that starts there.
  pub pieces-remove_entry : (key : T) → rank key < n → (low : ℕ) (entries : List (T × (T × V)))
      → StartsAscendFrom n low (pieces_of rank seen entries)
      → pieces_of rank seen (remove_entry (is_at (cmp key)) entries)
      ≡ without_start (rank key) (pieces_of rank seen entries)
  pieces-remove_entry key known low [] ascending = refl
  pieces-remove_entry key known low (entry ∷ entries) ascending =
      let rest = ap (λ (pieces : List (Interval × V)). piece_of rank seen entry ∷ pieces)
      (pieces-remove_entry key known (rank entry.0 + 1) entries ascending.2) in
      elim (order-cases cmp rank n in_order key entry.0 known ascending.1) [
        | inl less ↦
            let differs : (rank entry.0 == rank key) ≡ false = grind (arith, nat_tests, less.0) in
            rw (less.1, differs) rest
        | inr (inl same) ↦
            let meets : (rank entry.0 == rank key) ≡ true = grind (arith, nat_tests, same.0) in
            rw (same.1, meets)
            (sym (ascending-all (λ start. not (start == rank key)) n (rank entry.0 + 1)
            (pieces_of rank seen entries) ascending.2
            (λ start from. grind (arith, nat_tests, from, same.0))))
        | inr (inr more) ↦
            let differs : (rank entry.0 == rank key) ≡ false = grind (arith, nat_tests, more.0) in
            rw (more.1, differs) rest
      ]

  -- ---- ranges of a map

  -- The entries up to a value have the pieces that start below the next rank.
  pub pieces-up_to : (value : T) → rank value < n → (entries : List (T × (T × V)))
      → StartsAscendFrom n 0 (pieces_of rank seen entries)
      → pieces_of rank seen
      (filter (λ (entry : T × (T × V)). range_contains cmp Unbounded (Included value) entry.0) entries)
      ≡ pieces_below (rank value + 1) (pieces_of rank seen entries)
  pieces-up_to value known entries ascending =
      pieces-filter rank seen n (range_contains cmp Unbounded (Included value))
      (λ start. nat_lt start (rank value + 1)) 0 entries
      (λ key other. elim (order-cases cmp rank n in_order value key known other) [
        | inl less ↦ rw less.1 (grind (arith, nat_tests, less.0))
        | inr (inl same) ↦ rw same.1 (grind (arith, nat_tests, same.0))
        | inr (inr more) ↦ rw more.1 (grind (arith, nat_tests, more.0))
      ]) ascending

  -- If a map is split at a value, one part has the pieces that start below its rank. The other part
  -- has the others.
  pub pieces-below : (value : T) → rank value < n → (entries : List (T × (T × V)))
      → StartsAscendFrom n 0 (pieces_of rank seen entries)
      → pieces_of rank seen (entries_below (cmp value) entries)
      ≡ pieces_below (rank value) (pieces_of rank seen entries)
  pieces-below value known entries ascending =
      pieces-filter rank seen n (λ key. is_gt (cmp value key)) (λ start. nat_lt start (rank value)) 0 entries
      (λ key other. elim (order-cases cmp rank n in_order value key known other) [
        | inl less ↦ rw less.1 (grind (arith, nat_tests, less.0))
        | inr (inl same) ↦ rw same.1 (grind (arith, nat_tests, same.0))
        | inr (inr more) ↦ rw more.1 (grind (arith, nat_tests, more.0))
      ]) ascending

  pub pieces-from : (value : T) → rank value < n → (entries : List (T × (T × V)))
      → StartsAscendFrom n 0 (pieces_of rank seen entries)
      → pieces_of rank seen (entries_from (cmp value) entries)
      ≡ pieces_from (rank value) (pieces_of rank seen entries)
  pieces-from value known entries ascending =
      pieces-filter rank seen n (λ key. is_le (cmp value key)) (λ start. nat_le (rank value) start) 0 entries
      (λ key other. elim (order-cases cmp rank n in_order value key known other) [
        | inl less ↦ rw less.1 (grind (arith, nat_tests, less.0))
        | inr (inl same) ↦ rw same.1 (grind (arith, nat_tests, same.0))
        | inr (inr more) ↦ rw more.1 (grind (arith, nat_tests, more.0))
      ]) ascending

  -- ---- another end

  -- Pieces that all start past the rank are unchanged.
  pub with_end-none : (start end low : ℕ) (pieces : List (Interval × V)) → start < low
      → StartsAscendFrom n low pieces → with_end_at start end pieces ≡ pieces
  with_end-none start end low [] below ascending = refl
  with_end-none start end low (piece ∷ pieces) below ascending =
      let from = ascending.0 in
      let differs : (piece.0.first == start) ≡ false = grind (arith, nat_tests, below, from) in
      rw differs
      (ap (λ (rest : List (Interval × V)). piece ∷ rest)
      (with_end-none start end (piece.0.first + 1) pieces (omega (arith, below, from)) ascending.2))

  -- Writing another end at a key gives the piece there another end.
  pub pieces-set_value : (key end : T) (old : T × V) → rank key < n → (low : ℕ)
      (entries : List (T × (T × V))) → StartsAscendFrom n low (pieces_of rank seen entries)
      → lookup (is_at (cmp key)) entries ≡ Some old
      → pieces_of rank seen (set_value (is_at (cmp key)) entries (end, old.1))
      ≡ with_end_at (rank key) (rank end) (pieces_of rank seen entries)
  pieces-set_value key end old known low [] ascending found = absurd (none-some old found)
  pieces-set_value key end old known low (entry ∷ entries) ascending found =
      elim (order-cases cmp rank n in_order key entry.0 known ascending.1) [
        | inl less ↦
            let differs : (rank entry.0 == rank key) ≡ false = grind (arith, nat_tests, less.0) in
            rw (less.1, differs)
            (ap (λ (rest : List (Interval × V)). piece_of rank seen entry ∷ rest)
            (pieces-set_value key end old known (rank entry.0 + 1) entries ascending.2
            (ap (λ order. cond (is_eq order) (Some entry.1) (lookup (is_at (cmp key)) entries)) (sym less.1)
            ∙ found)))
        | inr (inl same) ↦
            let meets : (rank entry.0 == rank key) ≡ true = grind (arith, nat_tests, same.0) in
            let is : entry.1 ≡ old = same_Some entry.1 old
            (ap (λ order. cond (is_eq order) (Some entry.1) (lookup (is_at (cmp key)) entries)) (sym same.1)
            ∙ found) in
            rw (same.1, meets)
            (λ i. (from_to (rank entry.0) (rank end), seen (sym is i).1)
            ∷ sym (with_end-none (rank key) (rank end) (rank entry.0 + 1) (pieces_of rank seen entries)
            (omega (arith, same.0)) ascending.2) i)
        | inr (inr more) ↦
            let differs : (rank entry.0 == rank key) ≡ false = grind (arith, nat_tests, more.0) in
            rw (more.1, differs)
            (ap (λ (rest : List (Interval × V)). piece_of rank seen entry ∷ rest)
            (pieces-set_value key end old known (rank entry.0 + 1) entries ascending.2
            (ap (λ order. cond (is_eq order) (Some entry.1) (lookup (is_at (cmp key)) entries)) (sym more.1)
            ∙ found)))
      ]

  -- If a look-up finds nothing, no piece starts at the key, so none gets another end.
  pub pieces-no_value : (key : T) (end : ℕ) → rank key < n → (low : ℕ)
      (entries : List (T × (T × V))) → StartsAscendFrom n low (pieces_of rank seen entries)
      → lookup (is_at (cmp key)) entries ≡ None
      → with_end_at (rank key) end (pieces_of rank seen entries) ≡ pieces_of rank seen entries
  pieces-no_value key end known low [] ascending absent = refl
  pieces-no_value key end known low (entry ∷ entries) ascending absent =
      elim (order-cases cmp rank n in_order key entry.0 known ascending.1) [
        | inl less ↦
            let differs : (rank entry.0 == rank key) ≡ false = grind (arith, nat_tests, less.0) in
            rw differs
            (ap (λ (rest : List (Interval × V)). piece_of rank seen entry ∷ rest)
            (pieces-no_value key end known (rank entry.0 + 1) entries ascending.2
            (ap (λ order. cond (is_eq order) (Some entry.1) (lookup (is_at (cmp key)) entries)) (sym less.1)
            ∙ absent)))
        | inr (inl same) ↦
            absurd (none-some entry.1 (sym absent
            ∙ ap (λ order. cond (is_eq order) (Some entry.1) (lookup (is_at (cmp key)) entries)) same.1))
        | inr (inr more) ↦
            let differs : (rank entry.0 == rank key) ≡ false = grind (arith, nat_tests, more.0) in
            rw differs
            (ap (λ (rest : List (Interval × V)). piece_of rank seen entry ∷ rest)
            (pieces-no_value key end known (rank entry.0 + 1) entries ascending.2
            (ap (λ order. cond (is_eq order) (Some entry.1) (lookup (is_at (cmp key)) entries)) (sym more.1)
            ∙ absent)))
      ]

  -- Another end leaves the starts as they are.
  pub with_end-ascending : (start end low : ℕ) (pieces : List (Interval × V))
      → StartsAscendFrom n low pieces → StartsAscendFrom n low (with_end_at start end pieces)
  with_end-ascending start end low [] ascending = tt
  with_end-ascending start end low (piece ∷ pieces) ascending =
      by (piece.0.first == start) refl
      (with_end-ascending start end (piece.0.first + 1) pieces ascending.2)
    where
      by : (test : Bool) → (piece.0.first == start) ≡ test
          → StartsAscendFrom n (piece.0.first + 1) (with_end_at start end pieces)
          → StartsAscendFrom n low (with_end_at start end (piece ∷ pieces))
      by true is rest = rw is (ascending.0, ascending.1, rest)
      by false is rest = rw is (ascending.0, ascending.1, rest)

-- The pieces of the ranges of entries are those of the entries.
pub pieces_in-entries : {T V : Type 0} (rank : T → ℕ) (seen : V → V) (entries : List (T × (T × V)))
    → pieces_in rank seen (range_values_of entries) ≡ pieces_of rank seen entries
pieces_in-entries rank seen [] = refl
pieces_in-entries rank seen (entry ∷ entries) =
    ap (λ pieces. piece_of rank seen entry ∷ pieces) (pieces_in-entries rank seen entries)

-- The first entry is that of the first piece.
pub first-piece : {T V : Type 0} (rank : T → ℕ) (seen : V → V) (entries : List (T × (T × V)))
    (first : T × (T × V)) → slice_get entries 0 ≡ Some first
    → StartsWith (pieces_of rank seen entries) (piece_of rank seen first)
first-piece rank seen [] first found = absurd (cc)
first-piece rank seen (entry ∷ entries) first found = record {
  rest = pieces_of rank seen entries;
  parts = ap (λ each. piece_of rank seen each ∷ pieces_of rank seen entries)
      (get_or_from_slice_get (entry ∷ entries) 0 first first found);
}
