-- White space around a text, and a comment after it, do not count.
use Rattle.std.proofs.Common.{◌≡◌, ◌∙◌, ℕ, ◌+◌, ◌-◌, ◌<◌, Bool, true, false, not, List, [], ◌∷◌, ◌++◌, length, reverse, get_or, refl, sym, ap, append_assoc, append-nil, arith, length-append}
use Rattle.std.proofs.lemmas.Bool.Decides.{nat_tests}
use Rattle.std.proofs.lemmas.List.{drop_at, get_or-reverse, length-reverse, reverse-append, take_at}
use Rattle.std.proofs.lemmas.List.Elements.{All-append, All-head, All-tail, All-weaker}
use Rattle.std.specs.Char.{is_ascii_whitespace}
use Rattle.std.specs.List.{All, before_first, position_or_len, prefix_len, suffix_len}
use Rattle.ip_sets.specs.Line.{AreBlanks, IsComment, IsContent, begins_comment, content}
use Rattle.ip_sets.specs.LineParts.{trimmed, without_first_blanks, without_last_blanks}
use Rattle.ip_sets.proofs.lemmas.spelling.Written.{All-reverse}

module _ (test : ℕ → Bool) where
  -- Bytes that pass all count, and then those that follow.
  all_pass : (xs ys : List ℕ) → All (λ byte. test byte ≡ true) xs
      → prefix_len test (xs ++ ys) ≡ length xs + prefix_len test ys
  all_pass [] ys all = omega arith
  all_pass (x ∷ xs) ys all =
      let passes : test x ≡ true = All-head (λ byte. test byte ≡ true) x xs all in
      let later = all_pass xs ys (All-tail (λ byte. test byte ≡ true) x xs all) in
      rw passes (omega (arith, later))

  -- None pass if the first does not.
  none_pass : (xs : List ℕ) → test (get_or xs 0 0) ≡ false → prefix_len test xs ≡ 0
  none_pass [] fails = refl
  none_pass (x ∷ xs) fails = rw fails refl

-- ---- comments

-- The first byte of a comment ends what comes before it.
no_more : (comment : List ℕ) → IsComment comment
    → prefix_len (λ byte. not (begins_comment byte)) comment ≡ 0
no_more [] is = refl
no_more (byte ∷ bytes) is = rw is refl

-- If the test for a comment fails, its negation holds.
no_mark : (byte : ℕ) → begins_comment byte ≡ false → not (begins_comment byte) ≡ true
no_mark byte is = rw is refl

-- If no byte of a text begins a comment, a comment after the text is left out.
before_comment : (text comment : List ℕ) → All (λ byte. begins_comment byte ≡ false) text
    → IsComment comment → before_first begins_comment (text ++ comment) ≡ text
before_comment text comment none is =
    let passes = All-weaker (λ byte. begins_comment byte ≡ false)
    (λ byte. not (begins_comment byte) ≡ true) no_mark text none in
    let first = all_pass (λ byte. not (begins_comment byte)) text comment passes in
    take_at text comment (position_or_len begins_comment (text ++ comment))
    (omega (arith, first, no_more comment is))

-- A byte of white space does not begin a comment.
pub blank_no_comment : (byte : ℕ) → is_ascii_whitespace byte ≡ true → begins_comment byte ≡ false
blank_no_comment byte is = grind (arith, nat_tests)

-- White space has no byte that begins a comment.
blanks_no_comment : (blanks : List ℕ) → AreBlanks blanks
    → All (λ byte. begins_comment byte ≡ false) blanks
blanks_no_comment blanks all = All-weaker (λ byte. is_ascii_whitespace byte ≡ true)
    (λ byte. begins_comment byte ≡ false) blank_no_comment blanks all

-- ---- white space

-- White space before a text is left out, if the text does not begin with any.
without_before : (before text : List ℕ) → AreBlanks before
    → is_ascii_whitespace (get_or text 0 0) ≡ false → without_first_blanks (before ++ text) ≡ text
without_before before text blanks first =
    let skipped = all_pass is_ascii_whitespace before text blanks in
    let none = none_pass is_ascii_whitespace text first in
    drop_at before text (prefix_len is_ascii_whitespace (before ++ text))
    (omega (arith, skipped, none))

-- How many blanks a text ends with, if blanks follow one that is none.
blanks_after : (text after : List ℕ) → AreBlanks after → 0 < length text
    → is_ascii_whitespace (get_or text (length text - 1) 0) ≡ false
    → suffix_len is_ascii_whitespace (text ++ after) ≡ length after
blanks_after text after blanks some last =
    let turned = reverse-append text after in
    let Blank : ℕ → Type 0 = λ byte. is_ascii_whitespace byte ≡ true in
    let skipped = all_pass is_ascii_whitespace (reverse after) (reverse text)
    (All-reverse Blank after blanks) in
    let at : get_or (reverse text) 0 0 ≡ get_or text (length text - 1 - 0) 0 =
    get_or-reverse text 0 0 some in
    let index : length text - 1 - 0 ≡ length text - 1 = omega arith in
    let none = none_pass is_ascii_whitespace (reverse text)
    (ap is_ascii_whitespace (at ∙ ap (λ k. get_or text k 0) index) ∙ last) in
    ap (prefix_len is_ascii_whitespace) turned
    ∙ omega (arith, skipped, none, length-reverse after)

-- White space after a text is left out, if the text does not end with any.
without_after : (text after : List ℕ) → AreBlanks after → 0 < length text
    → is_ascii_whitespace (get_or text (length text - 1) 0) ≡ false
    → without_last_blanks (text ++ after) ≡ text
without_after text after blanks some last =
    let ends = blanks_after text after blanks some last in
    take_at text after
    (length (text ++ after) - suffix_len is_ascii_whitespace (text ++ after))
    (omega (arith, ends, length-append text after))

-- A text with more after it begins as the text does.
first_of : (text after : List ℕ) → 0 < length text
    → is_ascii_whitespace (get_or text 0 0) ≡ false
    → is_ascii_whitespace (get_or (text ++ after) 0 0) ≡ false
first_of [] after some first = absurd (omega arith)
first_of (x ∷ text) after some first = first

-- What comes around a text is not part of the content of a line.
pub content_around : (before text after comment : List ℕ) → AreBlanks before → IsContent text
    → AreBlanks after → IsComment comment → content (before ++ text ++ after ++ comment) ≡ text
content_around before text after comment blanks is blanks_too ends =
    let none = All-append (λ byte. begins_comment byte ≡ false) (before ++ text) after
    (All-append (λ byte. begins_comment byte ≡ false) before text
    (blanks_no_comment before blanks) is.no_comment) (blanks_no_comment after blanks_too) in
    let first = without_before before (text ++ after) blanks
    (first_of text after is.some is.no_blank_first) in
    ap trimmed (before_comment (before ++ text ++ after) comment none ends
    ∙ append_assoc before text after)
    ∙ ap without_last_blanks first
    ∙ without_after text after blanks_too is.some is.no_blank_last

-- A line with only white space and a comment has no content.
pub content_nothing : (blanks comment : List ℕ) → AreBlanks blanks → IsComment comment
    → content (blanks ++ comment) ≡ []
content_nothing blanks comment all ends =
    let none = blanks_no_comment blanks all in
    let skipped = all_pass is_ascii_whitespace blanks [] all in
    let nothing : without_first_blanks (blanks ++ []) ≡ [] =
    drop_at blanks [] (prefix_len is_ascii_whitespace (blanks ++ [])) (omega (arith, skipped)) in
    ap trimmed (before_comment blanks comment none ends ∙ sym (append-nil blanks))
    ∙ ap without_last_blanks nothing
