-- The fields of a line, one after the other.
use Rattle.std.proofs.Common.{◌≡◌, ◌∙◌, ℕ, suc, ◌+◌, ◌<◌, List, [], ◌∷◌, Some, None, ap, arith, drop, get_or, length, ltb, refl, sym, take, true, zero}
use Rattle.std.proofs.lemmas.Bool.{lt-ltb}
use Rattle.std.specs.Char.{is_ascii_whitespace}
use Rattle.std.specs.List.{position, slice_split}
use Rattle.std.specs.Prelude.{filter}
use Rattle.ip_sets.specs.List.{has_bytes}
use Rattle.ip_sets.proofs.lemmas.spelling.Parts.{first_part, one_part}
use Rattle.ip_matches.specs.LineFilter.{fields}

-- A part with bytes is the next field.
part_reached : (part : List ℕ) (others : List (List ℕ)) (left : ℕ) → 0 < length part → left ≡ 0
    → get_or (filter has_bytes (part ∷ others)) left [] ≡ part
part_reached part others left some none =
    let has : ltb 0 (length part) ≡ true = lt-ltb 0 (length part) some in
    rw has (rw none refl)

-- If a part is not the field, the field is one of the others.
part_passed : (part : List ℕ) (others : List (List ℕ)) (left next : ℕ)
    → (length part ≡ 0 → next ≡ left) → (0 < length part → next + 1 ≡ left)
    → get_or (filter has_bytes (part ∷ others)) left []
    ≡ get_or (filter has_bytes others) next []
part_passed [] others left next none one =
    let same : next ≡ left = none refl in
    sym (ap (λ n. get_or (filter has_bytes others) n []) same)
part_passed (byte ∷ bytes) others left next none one =
    let some : 0 < length (byte ∷ bytes) = omega arith in
    let has : ltb 0 (length (byte ∷ bytes)) ≡ true = lt-ltb 0 (length (byte ∷ bytes)) some in
    let more : left ≡ suc next = omega (arith, one some) in
    rw has (rw more refl)

module _ (line : List ℕ) where
  module _ (is : position is_ascii_whitespace line ≡ None) where
    -- A line without a blank is one part.
    one : fields line ≡ filter has_bytes (line ∷ [])
    one = ap (filter has_bytes) (one_part is_ascii_whitespace line is)

    -- That part is the field.
    pub last_reached : (left : ℕ) → 0 < length line → left ≡ 0
        → get_or (fields line) left [] ≡ line
    last_reached left some none =
        ap (λ all. get_or all left []) one ∙ part_reached line [] left some none

    -- There is no such field.
    pub last_passed : (left : ℕ) → ¬ ((0 < length line) × (left ≡ 0))
        → get_or (fields line) left [] ≡ []
    last_passed left other = ap (λ all. get_or all left []) one ∙ by line left other
      where
        by : (part : List ℕ) (left : ℕ) → ¬ ((0 < length part) × (left ≡ 0))
            → get_or (filter has_bytes (part ∷ [])) left [] ≡ []
        by [] left other = refl
        by (byte ∷ bytes) zero other = absurd (other (omega arith, refl))
        by (byte ∷ bytes) (suc left) other =
            let has : ltb 0 (length (byte ∷ bytes)) ≡ true =
            lt-ltb 0 (length (byte ∷ bytes)) (omega arith) in
            rw has refl

  module _ (i : ℕ) (is : position is_ascii_whitespace line ≡ Some i) where
    -- The first part ends at the first blank.
    some_parts : fields line ≡ filter has_bytes (take i line
        ∷ slice_split is_ascii_whitespace (drop (i + 1) line))
    some_parts = ap (filter has_bytes) (first_part is_ascii_whitespace line i is)

    -- That part is the field.
    pub first_reached : (left : ℕ) → 0 < length (take i line) → left ≡ 0
        → get_or (fields line) left [] ≡ take i line
    first_reached left some none =
        ap (λ all. get_or all left []) some_parts
        ∙ part_reached (take i line) (slice_split is_ascii_whitespace (drop (i + 1) line)) left some
        none

    -- The field comes after that part.
    pub first_passed : (left next : ℕ) → (length (take i line) ≡ 0 → next ≡ left)
        → (0 < length (take i line) → next + 1 ≡ left)
        → get_or (fields line) left [] ≡ get_or (fields (drop (i + 1) line)) next []
    first_passed left next none one =
        ap (λ all. get_or all left []) some_parts
        ∙ part_passed (take i line) (slice_split is_ascii_whitespace (drop (i + 1) line)) left next
        none one
