-- Texts that are split at the first byte that passes a test.
use Rattle.std.proofs.Common.{◌≡◌, ◌∙◌, ℕ, suc, ◌+◌, ◌<◌, ◌≤◌, Bool, true, false, cond, ltb, List, [], ◌∷◌, ◌++◌, get_or, length, take, drop, Some, None, refl, ap, subst, arith}
use Rattle.std.proofs.lemmas.Bool.{ltb-true, ltb-false}
use Rattle.std.proofs.Math.Seq.{split_at}
use Rattle.std.proofs.lemmas.List.Elements.{All-from_get_or}
use Rattle.std.proofs.lemmas.List.Splits.{slice_split_first, slice_split_none, length-slice_split}
use Rattle.std.proofs.lemmas.List.Sums.{fails_before_first}
use Rattle.std.proofs.lemmas.Option.{cond_some}
use Rattle.std.specs.List.{All, slice_split, position, position_or_len}

-- If no place is found, the test fails.
not_found : (passes : Bool) (n : ℕ) → cond passes (Some n) None ≡ None → passes ≡ false
not_found true n is = absurd cc
not_found false n is = refl

module _ (test : ℕ → Bool) (text : List ℕ) where
  -- If no byte passes, the first place that passes is past the text.
  past : position test text ≡ None → length text ≤ position_or_len test text
  past is =
      let first = position_or_len test text in
      ltb-false _ _ (not_found (ltb first (length text)) first is)

  -- The place that `position` finds is the first one that passes.
  at : (i : ℕ) → position test text ≡ Some i
      → (ltb (position_or_len test text) (length text) ≡ true) × (position_or_len test text ≡ i)
  at i is =
      let first = position_or_len test text in
      cond_some (ltb first (length text)) first i is

  -- If no place is found, no byte passes.
  pub none_passes : position test text ≡ None → All (λ byte. test byte ≡ false) text
  none_passes is =
      let end = past is in
      All-from_get_or (λ x. test x ≡ false) text 0
      (λ k within. fails_before_first test text k 0 (omega (arith, end, within)))

  -- The first byte that passes splits the text.
  pub split_first : (i : ℕ) → position test text ≡ Some i
      → text ≡ take i text ++ get_or text i 0 ∷ drop (i + 1) text
  split_first i is =
      let found = at i is in
      let within : i < length text = omega (arith, ltb-true _ _ found.0, found.1) in
      let next : suc i ≡ i + 1 = omega arith in
      split_at text i 0 within ∙ ap (λ n. take i text ++ get_or text i 0 ∷ drop n text) next

  -- A text without a byte that passes is one part.
  pub one_part : position test text ≡ None → slice_split test text ≡ text ∷ []
  one_part is = slice_split_none test text (none_passes is)

  -- The first part ends at the first byte that passes.
  pub first_part : (i : ℕ) → position test text ≡ Some i
      → slice_split test text ≡ take i text ∷ slice_split test (drop (i + 1) text)
  first_part i is =
      let found = at i is in
      subst
      (λ (n : ℕ). slice_split test text ≡ take n text ∷ slice_split test (drop (n + 1) text))
      found.1 (slice_split_first test text 0 (ltb-true _ _ found.0))

  -- A text has a first part.
  pub some_part : (part : List ℕ) × (others : List (List ℕ))
      × (slice_split test text ≡ part ∷ others)
  some_part = by (slice_split test text) refl
    where
      by : (all : List (List ℕ)) → slice_split test text ≡ all
          → (part : List ℕ) × (others : List (List ℕ)) × (slice_split test text ≡ part ∷ others)
      by [] is = absurd (omega (arith, length-slice_split test text, ap length is))
      by (part ∷ others) is = (part, others, is)

-- A text with two separators has three parts or more.
pub three_parts : (test : ℕ → Bool) (text : List ℕ) (i j : ℕ) → position test text ≡ Some i
    → position test (drop (i + 1) text) ≡ Some j
    → (first second third : List ℕ) × (others : List (List ℕ))
    × (slice_split test text ≡ first ∷ second ∷ third ∷ others)
three_parts test text i j is next =
    let rest = drop (i + 1) text in
    let later = some_part test (drop (j + 1) rest) in
    let parts : slice_split test text ≡ take i text ∷ take j rest ∷ later.0 ∷ later.1 =
    first_part test text i is
    ∙ ap (λ all. take i text ∷ all)
    (first_part test rest j next ∙ ap (λ all. take j rest ∷ all) later.2)
    in
    (take i text, take j rest, later.0, later.1, parts)
