-- Bytes split at the first line feed, and at the first blank.
use Rattle.std.proofs.Common.{◌≡◌, ◌∙◌, ℕ, zero, suc, ◌+◌, ◌<◌, ◌≤◌, Bool, true, false, cond, eqb, ltb, List, [], ◌∷◌, ◌++◌, length, map, take, drop, Option, Some, None, refl, sym, ap, subst, arith}
use Rattle.std.proofs.lemmas.Bool.{ltb-true, ltb-false, lt-ltb, ne_eqb, true≢false}
use Rattle.std.proofs.lemmas.List.{length-take}
use Rattle.std.proofs.lemmas.List.Elements.{All-from_get_or}
use Rattle.std.proofs.lemmas.List.Splits.{slice_split_first, slice_split_none, length-slice_split}
use Rattle.std.proofs.lemmas.List.Sums.{fails_before_first, passes_at_first}
use Rattle.std.specs.List.{slice_split, position, position_or_len, filter}
use Rattle.std.specs.Option.{IfSome}
use Rattle.std.specs.Str.Lines.{lines, lines_of_parts, strip_carriage_return}
use Rattle.memchr.specs.Find.{IsFirstByte, TakesFirst, first_of, places}
use Rattle.memchr.proofs.lemmas.ValueLemmas.{IsFirstByte-value}
use Rattle.rsb_command_parser.specs.Spelling.{is_blank, has_bytes, words}

-- ---- at the first element that passes a test

-- If an index is found, the test passes, and the index is `n`.
found : (passes : Bool) (n i : ℕ) → cond passes (Some n) None ≡ Some i → (passes ≡ true) × (n ≡ i)
found true n i is = (refl, cc)
found false n i is = absurd cc

-- If no index is found, the test fails.
not_found : (passes : Bool) (n : ℕ) → cond passes (Some n) None ≡ None → passes ≡ false
not_found true n is = absurd cc
not_found false n is = refl

-- `position` finds the first byte that passes the test.
IsFirstByte-position : (test : ℕ → Bool) (bytes : List ℕ) → IsFirstByte test bytes (position test bytes)
IsFirstByte-position test bytes = by (ltb (position_or_len test bytes) (length bytes)) refl
  where
    by : (passes : Bool) → ltb (position_or_len test bytes) (length bytes) ≡ passes
        → IsFirstByte test bytes (position test bytes)
    by true is =
        let within = ltb-true (position_or_len test bytes) (length bytes) is in
        rw is (
          record {
            low = omega arith;
            high = within;
            before = λ k from below passes.
                true≢false (sym passes ∙ fails_before_first test bytes k 0 below);
          },
          passes_at_first test bytes 0 within,
        )
    by false is =
        let past = ltb-false (position_or_len test bytes) (length bytes) is in
        rw is (λ k from within passes.
        true≢false (sym passes ∙ fails_before_first test bytes k 0 (omega (arith, past, within))))

-- The first of all places where the test passes is the one that `position` finds.
pub position-places : (test : ℕ → Bool) (bytes later : List ℕ) (first : Option ℕ)
    → TakesFirst (places test bytes) first later → first ≡ position test bytes
unfolding first_of
position-places test bytes later None none =
    sym (IsFirstByte-value test bytes _ (IsFirstByte-position test bytes) ∙ ap first_of none.0)
position-places test bytes later (Some i) is =
    sym (IsFirstByte-value test bytes _ (IsFirstByte-position test bytes) ∙ ap first_of is)

-- The place that `position` finds lies within the bytes.
pub position-within : (test : ℕ → Bool) (bytes : List ℕ)
    → IfSome (position test bytes) (λ i. i < length bytes)
position-within test bytes = by (position test bytes) (IsFirstByte-position test bytes)
  where
    by : (first : Option ℕ) → IsFirstByte test bytes first → IfSome first (λ i. i < length bytes)
    by None none = tt
    by (Some i) is = is.0.high

-- A list is split at the first element that passes, and what comes after that is split again.
slice_split-Some : (test : ℕ → Bool) (xs : List ℕ) (i : ℕ) → position test xs ≡ Some i
    → slice_split test xs ≡ take i xs ∷ slice_split test (drop (i + 1) xs)
slice_split-Some test xs i is =
    let at = found (ltb (position_or_len test xs) (length xs)) (position_or_len test xs) i is in
    subst (λ (n : ℕ). slice_split test xs ≡ take n xs ∷ slice_split test (drop (n + 1) xs)) at.1
    (slice_split_first test xs 0 (ltb-true _ _ at.0))

-- A list of which no element passes is one part.
slice_split-None : (test : ℕ → Bool) (xs : List ℕ) → position test xs ≡ None
    → slice_split test xs ≡ xs ∷ []
slice_split-None test xs is =
    let first = position_or_len test xs in
    let past : length xs ≤ first = ltb-false _ _ (not_found (ltb first (length xs)) first is) in
    slice_split_none test xs (All-from_get_or (λ x. test x ≡ false) xs 0
    (λ k within. fails_before_first test xs k 0 (omega (arith, past, within))))

-- ---- lines

-- Whether the byte is a line feed.
abbrev pub is_line_feed : ℕ → Bool
is_line_feed byte = eqb byte 10

-- What comes after the last line feed is a line, if it is not empty.
last_line : (bytes : List ℕ) → 0 < length bytes → lines_of_parts (bytes ∷ []) ≡ bytes ∷ []
last_line bytes some =
    rw (ne_eqb (length bytes) 0 (λ none. absurd (omega (arith, none, some)))) refl

-- Parts that others follow are lines, each without a carriage return at its end.
pub lines_of_parts-append : (xs ys : List (List ℕ)) → 0 < length ys
    → lines_of_parts (xs ++ ys) ≡ map strip_carriage_return xs ++ lines_of_parts ys
lines_of_parts-append [] ys some = refl
lines_of_parts-append (x ∷ []) [] some = absurd (omega (arith, some))
lines_of_parts-append (x ∷ []) (y ∷ ys) some = refl
lines_of_parts-append (x ∷ next ∷ xs) ys some =
    ap (λ ls. strip_carriage_return x ∷ ls) (lines_of_parts-append (next ∷ xs) ys some)

-- Bytes without a line feed are one line, if there are any.
pub lines-None : (bytes : List ℕ) → 0 < length bytes → position is_line_feed bytes ≡ None
    → lines bytes ≡ bytes ∷ []
lines-None bytes some is =
    ap lines_of_parts (slice_split-None is_line_feed bytes is) ∙ last_line bytes some

-- The first line ends at the first line feed, and the others come after that.
pub lines-Some : (bytes : List ℕ) (i : ℕ) → position is_line_feed bytes ≡ Some i
    → lines bytes ≡ strip_carriage_return (take i bytes) ∷ lines (drop (i + 1) bytes)
lines-Some bytes i is =
    let rest = drop (i + 1) bytes in
    ap lines_of_parts (slice_split-Some is_line_feed bytes i is)
    ∙ lines_of_parts-append (take i bytes ∷ []) (slice_split is_line_feed rest)
    (omega (arith, length-slice_split is_line_feed rest))

-- ---- words

-- The first part is kept or left out, and the others follow.
kept_first : (keeps : Bool) (part : List ℕ) (parts : List (List ℕ))
    → cond keeps (part ∷ parts) parts ≡ cond keeps (part ∷ []) [] ++ parts
kept_first true part parts = refl
kept_first false part parts = refl

-- What comes before the first blank is a word unless it is empty, and the others come after that.
words-Some : (line : List ℕ) (i : ℕ) → position is_blank line ≡ Some i
    → words line ≡ filter has_bytes (take i line ∷ []) ++ words (drop (i + 1) line)
words-Some line i is =
    ap (filter has_bytes) (slice_split-Some is_blank line i is)
    ∙ kept_first (has_bytes (take i line)) (take i line) (words (drop (i + 1) line))

-- If the first byte is not a blank, the first blank comes after it.
pub some_before : (line : List ℕ) (i : ℕ) → (position is_blank line ≡ Some 0 → ⊥)
    → position is_blank line ≡ Some i → 0 < i
some_before line zero first is = absurd (first is)
some_before line (suc i) first is = omega arith

-- What comes before the first blank is the first word, if it is not empty.
pub words-after_word : (line : List ℕ) (i : ℕ) → position is_blank line ≡ Some i
    → 0 < i → i < length line → words line ≡ take i line ∷ words (drop (i + 1) line)
words-after_word line i is some within =
    let word = take i line in
    let kept = lt-ltb 0 (length word) (omega (arith, length-take i line)) in
    words-Some line i is ∙ ap (λ keeps. cond keeps (word ∷ []) [] ++ words (drop (i + 1) line)) kept

-- A line without blanks is one word, if it is not empty.
pub words-None : (line : List ℕ) → position is_blank line ≡ None → 0 < length line
    → words line ≡ line ∷ []
words-None line is some =
    ap (filter has_bytes) (slice_split-None is_blank line is)
    ∙ ap (λ keeps. cond keeps (line ∷ []) []) (lt-ltb 0 (length line) some)
