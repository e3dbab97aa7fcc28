-- Texts in brackets.
use Rattle.std.proofs.Common.{◌≡◌, ◌∙◌, ℕ, suc, ◌+◌, ◌-◌, ◌≤◌, Bool, true, false, cond, Option, Some, None, List, [], ◌∷◌, ◌++◌, length, reverse, take, refl, sym, ap, subst, arith}
use Rattle.std.proofs.lemmas.Bool.{false≢true}
use Rattle.std.proofs.lemmas.List.{length-reverse, reverse-append, same_from_push}
use Rattle.std.proofs.lemmas.List.Elements.{All-head}
use Rattle.std.specs.Char.{is_ascii_whitespace}
use Rattle.std.specs.List.{All, onto_first, prefix_len, suffix_len}
use Rattle.std.specs.declared.ops.RangeInclusive.{RangeInclusive}
use Rattle.ip_sets.specs.AddressRange.{ReadsRange, WritesBracketed, WritesEnd, WritesOne, WritesOneOrBlock, WritesParts, WritesRange}
use Rattle.ip_sets.specs.Line.{is_mark}
use Rattle.ip_sets.specs.LineParts.{parts, trimmed}

-- ---- what is between the brackets

-- Texts in brackets are equal only if they are equal without them.
pub same_inner : (inner other : List ℕ) → 91 ∷ inner ++ 93 ∷ [] ≡ 91 ∷ other ++ 93 ∷ []
    → inner ≡ other
same_inner inner other same =
    let rest : inner ++ 93 ∷ [] ≡ other ++ 93 ∷ [] = cc same in
    (same_from_push inner other 93 93 rest).0

-- A text in brackets begins and ends with them.
pub bracket_ends : (text rest inner other : List ℕ) (first last : ℕ) → text ≡ first ∷ rest
    → rest ≡ inner ++ last ∷ [] → text ≡ 91 ∷ other ++ 93 ∷ [] → (first ≡ 91) × (last ≡ 93)
bracket_ends text rest inner other first last is ends brackets =
    let tail : inner ++ last ∷ [] ≡ other ++ 93 ∷ [] = cc (is, ends, brackets) in
    (cc (is, brackets), (same_from_push inner other last 93 tail).1)

-- If what is between the brackets writes no address, the text in brackets writes none.
pub no_bracketed : (IsAddress : List ℕ → ℕ → Type 0) (text inner : List ℕ)
    → text ≡ 91 ∷ inner ++ 93 ∷ []
    → ((range : RangeInclusive ℕ) → ¬ WritesOne IsAddress inner range)
    → (range : RangeInclusive ℕ) → ¬ WritesBracketed IsAddress text range
no_bracketed IsAddress text inner is none range h =
    none range
    (subst (λ each. WritesOne IsAddress each range)
    (same_inner h.inner inner (sym h.enclosed ∙ is)) h.one)

-- A text in brackets writes what is between them.
pub reads_bracketed : {T : Type 0} (rank : T → ℕ) (IsAddress : List ℕ → ℕ → Type 0)
    (text inner : List ℕ) (result : Option (RangeInclusive T)) → text ≡ 91 ∷ inner ++ 93 ∷ []
    → ReadsRange rank result (WritesOne IsAddress inner)
    → ReadsRange rank result (WritesBracketed IsAddress text)
reads_bracketed rank IsAddress text inner None is none = no_bracketed IsAddress text inner is none
reads_bracketed rank IsAddress text inner (Some range) is one =
    record { inner = inner; enclosed = is; one = one }

-- ---- texts that begin with a bracket

-- White space at the start of a text ends before a byte that is none.
stops : (test : ℕ → Bool) (text : List ℕ) (byte : ℕ) → test byte ≡ false
    → prefix_len test (text ++ byte ∷ []) ≤ length text
stops test [] byte fails = rw fails (omega arith)
stops test (first ∷ text) byte fails = by (test first) (stops test text byte fails)
  where
    by : (passes : Bool) → prefix_len test (text ++ byte ∷ []) ≤ length text
        → cond passes (1 + prefix_len test (text ++ byte ∷ [])) 0 ≤ length (first ∷ text)
    by true later = omega (arith, later)
    by false later = omega arith

-- Such a text still begins with it when it is trimmed.
trimmed_first : (text : List ℕ) → (rest : List ℕ) × (trimmed (91 ∷ text) ≡ 91 ∷ rest)
trimmed_first text =
    let after = suffix_len is_ascii_whitespace (91 ∷ text) in
    let turned : after ≡ prefix_len is_ascii_whitespace (reverse text ++ 91 ∷ []) =
    ap (prefix_len is_ascii_whitespace) (reverse-append (91 ∷ []) text) in
    let short = stops is_ascii_whitespace (reverse text) 91 refl in
    let some : length (91 ∷ text) - after ≡ suc (length text - after) =
    omega (arith, turned, short, length-reverse text) in
    (take (length text - after) text, ap (λ n. take n (91 ∷ text)) some)

-- No address begins with a bracket, since a bracket has a meaning of its own in a line.
pub no_bracket_first : (IsAddress : List ℕ → ℕ → Type 0)
    → ((text : List ℕ) (n : ℕ) → IsAddress text n → All (λ byte. is_mark byte ≡ false) text)
    → (text : List ℕ) (n : ℕ) → IsAddress (91 ∷ text) n → ⊥
no_bracket_first IsAddress unmarked text n is =
    false≢true (sym (All-head (λ byte. is_mark byte ≡ false) 91 text (unmarked (91 ∷ text) n is)))

module _ (bits : ℕ) (IsAddress : List ℕ → ℕ → Type 0)
    (none : (text : List ℕ) (n : ℕ) → IsAddress (91 ∷ text) n → ⊥) where
  -- The parts around a slash write no range if the first begins with a bracket.
  no_one_or_block : (texts : List (List ℕ)) (range : RangeInclusive ℕ)
      → WritesOneOrBlock bits IsAddress (onto_first 91 texts) range → ⊥
  no_one_or_block [] range h = none [] h.address h.written
  no_one_or_block (text ∷ []) range h = none text h.address h.written
  no_one_or_block (address ∷ length ∷ []) range h = none address h.address h.address_written
  no_one_or_block (x ∷ y ∷ z ∷ texts) range h = absurd h

  -- Neither does a text that begins with one.
  no_end : (text : List ℕ) (range : RangeInclusive ℕ) → WritesEnd bits IsAddress (91 ∷ text) range
      → ⊥
  no_end text range h = no_one_or_block (parts 47 text) range h

  -- The parts around a dash write no range if the first begins with a bracket.
  no_parts : (texts : List (List ℕ)) (range : RangeInclusive ℕ)
      → WritesParts bits IsAddress (onto_first 91 texts) range → ⊥
  no_parts [] range h = no_end [] range h
  no_parts (text ∷ []) range h = no_end text range h
  no_parts (first ∷ last ∷ []) range h =
      let kept = trimmed_first first in
      no_end kept.0 h.first
      (subst (λ text. WritesEnd bits IsAddress text h.first) kept.1 h.first_written)
  no_parts (x ∷ y ∷ z ∷ texts) range h = absurd h

  -- A text in brackets writes no range as one without them does.
  pub not_both : (text inner : List ℕ) (range : RangeInclusive ℕ)
      → text ≡ 91 ∷ inner ++ 93 ∷ [] → WritesRange bits IsAddress text range → ⊥
  not_both text inner range is h =
      no_parts (parts 45 (inner ++ 93 ∷ [])) range
      (subst (λ each. WritesRange bits IsAddress each range) is h)
