-- Lists with the same contents select the same.
use Rattle.std.proofs.Common.{◌≡◌, ◌⊎◌, inl, inr, ℕ, zero, suc, ◌<◌, ◌≤◌, Bool, true, false, cond, List, [], ◌∷◌, length, filter, map, refl, sym, ap, subst, arith}
use Rattle.std.proofs.lemmas.Bool.{cases_lt, lt-ltb}
use Rattle.std.proofs.lemmas.List.{nil_from_length}
use Rattle.std.proofs.lemmas.List.Elements.{All-contains, All-contains_itself}
use Rattle.std.specs.Prelude.{All, Any, Contains, slice_index_or}
use Rattle.range_set_blaze.specs.Selection.{Selection}
use Rattle.ip_sets.specs.declared.line.Line.TheVariants.{Nothing, V4, V6}
use Rattle.ip_sets.specs.Line.{MeansV4, MeansV6, content}
use Rattle.ip_sets.specs.List.{HasAddress, IsGoodLine, IsListOf, contents, has_bytes, list_lines}
use Rattle.ip_sets.proofs.lemmas.listing.Reports.{same_meaning}
use Rattle.ip_sets.proofs.lemmas.listing.Selected.{empty_v4, empty_v6}

-- What the lines have that counts.
abbrev texts : List (List ℕ) → List (List ℕ)
texts list = filter has_bytes (map content list)

-- An element stays in a list that may get one more in front.
behind : (keeps : Bool) (first text : List ℕ) (list : List (List ℕ)) → Contains list text
    → Contains (cond keeps (first ∷ list) list) text
behind true first text list h = (suc h.0, omega (arith, h.1), h.2)
behind false first text list h = h

-- A text in a list with one more in front is that one, or is in the list.
ahead : (keeps : Bool) (first text : List ℕ) (list : List (List ℕ))
    → Contains (cond keeps (first ∷ list) list) text → (first ≡ text) ⊎ Contains list text
ahead true first text list (zero, within, is) = inl is
ahead true first text list (suc k, within, is) = inr (k, omega (arith, within), is)
ahead false first text list h = inr h

-- The content of each line that has some is kept.
kept : (list : List (List ℕ)) (line : List ℕ) → Contains list line → 0 < length (content line)
    → Contains (texts list) (content line)
kept [] line (k, within, is) some = absurd (omega (arith, within))
kept (first ∷ list) line (zero, within, is) some =
    let same = ap content is in
    let keeps : has_bytes (content first) ≡ true =
    lt-ltb 0 (length (content first)) (omega (arith, some, ap length same)) in
    rw keeps (0, omega arith, same)
kept (first ∷ list) line (suc k, within, is) some =
    behind (has_bytes (content first)) (content first) (content line) (texts list)
    (kept list line (k, omega (arith, within), is) some)

-- What is kept is the content of some line.
found : (list : List (List ℕ)) (text : List ℕ) → Contains (texts list) text
    → (line : List ℕ) × Contains list line × (content line ≡ text)
found [] text (k, within, is) = absurd (omega (arith, within))
found (first ∷ list) text h =
    by (ahead (has_bytes (content first)) (content first) text (texts list) h) (found list text)
  where
    by : (content first ≡ text) ⊎ Contains (texts list) text
        → (Contains (texts list) text
        → (line : List ℕ) × Contains list line × (content line ≡ text))
        → (line : List ℕ) × Contains (first ∷ list) line × (content line ≡ text)
    by (inl is) later = (first, (0, omega arith, refl), is)
    by (inr inside) later =
        let h = later inside in
        (h.0, (suc h.1.0, omega (arith, h.1.1), h.1.2), h.2)

module _ (list others : List (List ℕ)) (same : texts list ≡ texts others) where
  -- A line with content has a line of the other list with the same content.
  twin : (line : List ℕ) → Contains list line → 0 < length (content line)
      → (other : List ℕ) × Contains others other × (content other ≡ content line)
  twin line inside some = found others (content line)
      (subst (λ ts. Contains ts (content line)) same (kept list line inside some))

  -- What some line has by its content, some line of the other list has.
  twin_of : (Fact : List ℕ → Type 0)
      → ((line other : List ℕ) → content line ≡ content other → Fact other → Fact line)
      → ((line : List ℕ) → content line ≡ [] → Fact line → ⊥)
      → Any Fact list → Any Fact others
  twin_of Fact respects some (k, line, within, is, fact) =
      let full : 0 < length (content line) = by line fact (cases_lt 0 (length (content line))) in
      let h = twin line (k, within, is) full in
      (h.1.0, h.0, h.1.1, h.1.2, respects h.0 line h.2 fact)
    where
      by : (line : List ℕ) → Fact line → (0 < length (content line)) ⊎ (length (content line) ≤ 0)
          → 0 < length (content line)
      by line fact (inl full) = full
      by line fact (inr empty) = absurd
          (some line (nil_from_length (content line) (omega (arith, empty))) fact)

-- If each line of a list has a meaning, each line of another with the same contents has one.
pub all_good : (list others : List (List ℕ)) → texts list ≡ texts others → All IsGoodLine list
    → All IsGoodLine others
all_good list others same good k d within =
    by (cases_lt 0 (length (content (slice_index_or others k d))))
  where
    by : (0 < length (content (slice_index_or others k d)))
        ⊎ (length (content (slice_index_or others k d)) ≤ 0)
        → IsGoodLine (slice_index_or others k d)
    by (inl full) =
        let line = slice_index_or others k d in
        let h = twin others list (sym same) line (All-contains_itself others k d within) full in
        let meaning = All-contains IsGoodLine list h.0 good h.1 in
        (meaning.0, same_meaning line h.0 (sym h.2) meaning.0 meaning.1)
    by (inr empty) =
        (Nothing, nil_from_length (content (slice_index_or others k d)) (omega (arith, empty)))

-- Whether a line has an address depends only on its content.
has_v4 : (number : ℕ) (line other : List ℕ) → content line ≡ content other
    → HasAddress MeansV4 number other → HasAddress MeansV4 number line
has_v4 number line other is h = record {
  first = h.first;
  last = h.last;
  meaning = λ range spans. same_meaning line other is (V4 range) (h.meaning range spans);
  from_first = h.from_first;
  to_last = h.to_last;
}

-- So does whether it has an IPv6 address.
has_v6 : (number : ℕ) (line other : List ℕ) → content line ≡ content other
    → HasAddress MeansV6 number other → HasAddress MeansV6 number line
has_v6 number line other is h = record {
  first = h.first;
  last = h.last;
  meaning = λ range spans. same_meaning line other is (V6 range) (h.meaning range spans);
  from_first = h.from_first;
  to_last = h.to_last;
}

-- Lists with the same contents select the same addresses.
pub same_list : (bytes other : List ℕ) (v4 v6 : Selection) → contents bytes ≡ contents other
    → IsListOf bytes v4 v6 → IsListOf other v4 v6
same_list bytes other v4 v6 same h = record {
  good = all_good (list_lines bytes) (list_lines other) same h.good;
  v4_addresses = λ number. (
    (λ is. twin_of (list_lines bytes) (list_lines other) same (HasAddress MeansV4 number) (has_v4 number)
        (λ line empty has. empty_v4 line empty number has) ((h.v4_addresses number).0 is)),
    (λ some. (h.v4_addresses number).1 (twin_of (list_lines other) (list_lines bytes) (sym same)
        (HasAddress MeansV4 number) (has_v4 number)
        (λ line empty has. empty_v4 line empty number has) some)),
  );
  v6_addresses = λ number. (
    (λ is. twin_of (list_lines bytes) (list_lines other) same (HasAddress MeansV6 number) (has_v6 number)
        (λ line empty has. empty_v6 line empty number has) ((h.v6_addresses number).0 is)),
    (λ some. (h.v6_addresses number).1 (twin_of (list_lines other) (list_lines bytes) (sym same)
        (HasAddress MeansV6 number) (has_v6 number)
        (λ line empty has. empty_v6 line empty number has) some)),
  );
}
