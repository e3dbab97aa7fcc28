-- The first of some texts that has a value.
use Rattle.std.proofs.Common.{◌≡◌, ◌∙◌, ◌⊎◌, inl, inr, ℕ, ◌+◌, Bool, List, [], ◌∷◌, Option, Some, None, ap, drop, refl, subst, sym, take}
use Rattle.std.specs.List.{position, slice_split}
use Rattle.ip_sets.specs.Address.{IsV4, IsV6}
use Rattle.ip_sets.specs.LineParts.{Reads, parts}
use Rattle.ip_sets.specs.laws.Address.{one_v4, one_v6}
use Rattle.ip_sets.proofs.lemmas.spelling.Parts.{first_part, one_part}
use Rattle.ip_matches.specs.FoundAddress.{HasNone, IsFirst, IsFirstAddress, IsWordAddress}
use Rattle.ip_matches.specs.declared.address.FoundAddress.{FoundAddress}
use Rattle.ip_matches.specs.declared.address.FoundAddress.TheVariants.{V4, V6}

module _ {X : Type 0} (Has : List ℕ → X → Type 0) where
  -- If only one text is left, the first value is its value.
  reads_last : (text : List ℕ) (result : Option X) → Reads result (Has text)
      → Reads result (IsFirst Has (text ∷ []))
  reads_last text None none = none_first
    where
      none_first : (x : X) → ¬ IsFirst Has (text ∷ []) x
      none_first x (inl has) = none x has
      none_first x (inr first) = first.1
  reads_last text (Some x) has = inl has

  -- If a text has no value, the first value is that of the others.
  reads_past : (text : List ℕ) (texts : List (List ℕ)) → HasNone Has text → (result : Option X)
      → Reads result (IsFirst Has texts) → Reads result (IsFirst Has (text ∷ texts))
  reads_past text texts none None others = none_first
    where
      none_first : (x : X) → ¬ IsFirst Has (text ∷ texts) x
      none_first x (inl has) = none x has
      none_first x (inr first) = others x first.1
  reads_past text texts none (Some x) first = inr (none, first)

  module _ (test : ℕ → Bool) (text : List ℕ) where
    -- A text without a separator is the only part.
    pub first_in_all : position test text ≡ None → (result : Option X) → Reads result (Has text)
        → Reads result (IsFirst Has (slice_split test text))
    first_in_all is result reads = subst (λ texts. Reads result (IsFirst Has texts))
        (sym (one_part test text is)) (reads_last text result reads)

    module _ (i : ℕ) (is : position test text ≡ Some i) where
      -- What the first part has is first.
      pub first_in_part : (x : X) → Has (take i text) x → IsFirst Has (slice_split test text) x
      first_in_part x has = subst (λ texts. IsFirst Has texts x)
          (sym (first_part test text i is)) (inl has)

      -- If the first part has nothing, what the others have is first.
      pub first_past_part : HasNone Has (take i text) → (result : Option X)
          → Reads result (IsFirst Has (slice_split test (drop (i + 1) text)))
          → Reads result (IsFirst Has (slice_split test text))
      first_past_part none result reads = subst (λ texts. Reads result (IsFirst Has texts))
          (sym (first_part test text i is))
          (reads_past (take i text) (slice_split test (drop (i + 1) text)) none result reads)

  -- If each text has at most one value, there is at most one first value.
  one_first : ((text : List ℕ) (x y : X) → Has text x → Has text y → x ≡ y)
      → (texts : List (List ℕ)) (x y : X) → IsFirst Has texts x → IsFirst Has texts y → x ≡ y
  one_first one [] x y first other = absurd first
  one_first one (text ∷ texts) x y (inl has) (inl other) = one text x y has other
  one_first one (text ∷ texts) x y (inl has) (inr other) = absurd (other.0 x has)
  one_first one (text ∷ texts) x y (inr first) (inl other) = absurd (first.0 y other)
  one_first one (text ∷ texts) x y (inr first) (inr other) =
      one_first one texts x y first.1 other.1

-- A word that is no IPv6 address, and has no IPv4 address, has no address.
pub no_word_address : (word : List ℕ) → HasNone IsV6 word → HasNone (λ text. IsFirst IsV4 (parts 58 text)) word
    → HasNone IsWordAddress word
no_word_address word none none_too (V4 number) has = none_too number has.1
no_word_address word none none_too (V6 number) has = none number has

-- A word has at most one address.
one_word_address : (word : List ℕ) (x y : FoundAddress) → IsWordAddress word x
    → IsWordAddress word y → x ≡ y
one_word_address word (V4 m) (V4 n) has other =
    ap V4 (one_first IsV4 one_v4 (parts 58 word) m n has.1 other.1)
one_word_address word (V4 m) (V6 n) has other = absurd (has.0 n other)
one_word_address word (V6 m) (V4 n) has other = absurd (other.0 m has)
one_word_address word (V6 m) (V6 n) has other = ap V6 (one_v6 word m n has other)

-- A text has at most one first address.
pub one_first_address : (text : List ℕ) (x y : FoundAddress) → IsFirstAddress text x
    → IsFirstAddress text y → x ≡ y
one_first_address text x y first other = one_first IsWordAddress one_word_address _ x y first other
