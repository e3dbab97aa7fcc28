-- The pieces of the entries between two keys.
use Rattle.std.proofs.Common.{◌≡◌, ℕ, Bool, true, not, ◌&&◌, nat_le, nat_lt, ◌+◌, ◌<◌, List, [], ◌∷◌, refl, sym, ◌∙◌, inl, inr, arith}
use Rattle.std.specs.List.{filter}
use Rattle.std.specs.Ordering.{nat_cmp, is_le, is_lt}
use Rattle.std.specs.BTreeMap.Range.{range_contains}
use Rattle.std.specs.declared.ops.Bound.TheVariants.{Included, Unbounded}
use Rattle.std.specs.declared.cmp.Ordering.{Ordering}
use Rattle.std.proofs.lemmas.Bool.Decides.{nat_tests}
use Rattle.rsb_integer.proofs.lemmas.List.{true_or_false}
use Rattle.rsb_storage.proofs.lemmas.runs.Maps.{order-cases}
use Rattle.range_map_blaze.specs.Storage.{pieces_below, pieces_from, pieces_of, StartsAscendFrom}
use Rattle.range_map_blaze.proofs.lemmas.Entries.{pieces-filter}
use Rattle.range_map_blaze.proofs.lemmas.Starts.{ascending-all, starting-starting}

module _ {T V : Type 0} (cmp : T → T → Ordering) (rank : T → ℕ) (seen : V → V) (n : ℕ)
    (in_order : (x y : T) → rank x < n → rank y < n → cmp x y ≡ nat_cmp (rank x) (rank y)) where
  -- All entries have all pieces.
  pub pieces-all : (entries : List (T × (T × V))) → StartsAscendFrom n 0 (pieces_of rank seen entries)
      → pieces_of rank seen
      (filter (λ (entry : T × (T × V)). range_contains cmp Unbounded Unbounded entry.0) entries)
      ≡ pieces_of rank seen entries
  pieces-all entries ascending =
      pieces-filter rank seen n (range_contains cmp Unbounded Unbounded) (λ start. true) 0 entries
      (λ key other. refl) ascending
      ∙ ascending-all (λ start. true) n 0 (pieces_of rank seen entries) ascending (λ start from. refl)

  -- The entries from one value to another have the pieces that start there.
  pub pieces-within : (first last : T) → rank first < n → rank last < n
      → (entries : List (T × (T × V))) → StartsAscendFrom n 0 (pieces_of rank seen entries)
      → pieces_of rank seen
      (filter (λ (entry : T × (T × V)). range_contains cmp (Included first) (Included last) entry.0) entries)
      ≡ pieces_below (rank last + 1) (pieces_from (rank first) (pieces_of rank seen entries))
  pieces-within first last low high entries ascending =
      pieces-filter rank seen n (range_contains cmp (Included first) (Included last))
      (λ start. nat_le (rank first) start && nat_lt start (rank last + 1)) 0 entries
      (λ key other. λ i. from key other i && to key other i) ascending
      ∙ sym (starting-starting (λ start. nat_lt start (rank last + 1)) (λ start. nat_le (rank first) start)
      (λ start. nat_le (rank first) start && nat_lt start (rank last + 1)) (pieces_of rank seen entries)
      (λ start. refl))
    where
      from : (key : T) → rank key < n → is_le (cmp first key) ≡ nat_le (rank first) (rank key)
      from key other = elim (order-cases cmp rank n in_order first key low other) [
        | inl less ↦ rw less.1 (grind (arith, nat_tests, less.0))
        | inr (inl same) ↦ rw same.1 (grind (arith, nat_tests, same.0))
        | inr (inr more) ↦ rw more.1 (grind (arith, nat_tests, more.0))
      ]

      to : (key : T) → rank key < n → not (is_lt (cmp last key)) ≡ nat_lt (rank key) (rank last + 1)
      to key other = elim (order-cases cmp rank n in_order last key high other) [
        | inl less ↦ rw less.1 (grind (arith, nat_tests, less.0))
        | inr (inl same) ↦ rw same.1 (grind (arith, nat_tests, same.0))
        | inr (inr more) ↦ rw more.1 (grind (arith, nat_tests, more.0))
      ]

-- No key both passes and fails a test.
pub filter-neither : {T V : Type 0} (test : T → Bool) (entries : List (T × (T × V)))
    → filter (λ (entry : T × (T × V)). test entry.0 && not (test entry.0)) entries ≡ []
filter-neither test [] = refl
filter-neither test (entry ∷ entries) = elim (true_or_false (test entry.0)) [
  | inl passes ↦ rw passes (filter-neither test entries)
  | inr fails ↦ rw fails (filter-neither test entries)
]
