-- The first line of some bytes, and the lines after it.
use Rattle.std.proofs.Common.{◌≡◌, ◌∙◌, ◌⊎◌, inl, inr, ℕ, suc, ◌+◌, ◌-◌, ◌<◌, Bool, true, false, eqb, ltb, List, [], ◌∷◌, ◌++◌, Some, drop, get_or, length, take, refl, sym, ap, append_assoc, subst, arith, length-append}
use Rattle.std.proofs.Math.Seq.{get_or-append_seam, split_at, take-append_seam}
use Rattle.std.proofs.lemmas.Bool.{eqb-true, lt-ltb, ne_eqb}
use Rattle.std.proofs.lemmas.List.{get_or-take, length-take}
use Rattle.std.proofs.lemmas.List.Elements.{All-cons, All-from_get_or, All-get_or, All-nil}
use Rattle.std.proofs.lemmas.List.Splits.{length-slice_split, slice_split_at, slice_split_none}
use Rattle.std.specs.Io.BufRead.{drop_through, strip_last, take_through}
use Rattle.std.specs.List.{All, slice_split}
use Rattle.memchr.specs.Find.{IsFirstByte, is_byte}
use Rattle.ip_matches.specs.KeptLines.{text_lines, without_empty_last}

-- Whether the byte is no line feed.
abbrev IsOther : ℕ → Type 0
IsOther byte = eqb byte 10 ≡ false

-- A part that others follow is a line.
then_others : (front : List ℕ) (others : List (List ℕ)) → 0 < length others
    → without_empty_last (front ∷ others) ≡ front ∷ without_empty_last others
then_others front [] some = absurd (omega (arith, some))
then_others front (part ∷ others) some = refl

-- What comes before a line feed is a line, if it has none itself.
pub line_to_feed : (line after : List ℕ) → All IsOther line
    → text_lines (line ++ 10 ∷ after) ≡ line ∷ text_lines after
line_to_feed line after others =
    ap without_empty_last (slice_split_at (λ byte. eqb byte 10) line 10 after others refl)
    ∙ then_others line (slice_split (λ byte. eqb byte 10) after)
    (omega (arith, length-slice_split (λ byte. eqb byte 10) after))

-- Bytes without a line feed are a line, if there are any.
line_to_end : (line : List ℕ) → All IsOther line → 0 < length line
    → text_lines line ≡ line ∷ text_lines []
line_to_end line others some =
    ap without_empty_last (slice_split_none (λ byte. eqb byte 10) line others)
    ∙ rw (ne_eqb (length line) 0 (λ none. absurd (omega (arith, none, some)))) refl

-- A test that does not hold fails.
not_true : (test : Bool) → ¬ (test ≡ true) → test ≡ false
not_true true fails = absurd (fails refl)
not_true false fails = refl

-- The bytes begin with a line that ends at the first line feed.
pub line_before_feed : (bytes more : List ℕ) (i : ℕ)
    → IsFirstByte (is_byte 10) bytes (Some i)
    → text_lines (bytes ++ more) ≡ take i bytes ∷ text_lines (drop (i + 1) bytes ++ more)
line_before_feed bytes more i found =
    let next : suc i ≡ i + 1 = omega arith in
    let feed : get_or bytes i 0 ≡ 10 = eqb-true (get_or bytes i 0) 10 found.1 in
    let parts : bytes ≡ take i bytes ++ 10 ∷ drop (i + 1) bytes = split_at bytes i 0 found.0.high
    ∙ (λ k. take i bytes ++ feed k ∷ drop (next k) bytes) in
    let others = All-from_get_or IsOther (take i bytes) 0 (λ k within.
    let below : k < i = omega (arith, within, length-take i bytes) in
    ap (λ byte. eqb byte 10) (get_or-take i bytes k 0 below)
    ∙ not_true (eqb (get_or bytes k 0) 10) (found.0.before k (omega arith) below)) in
    ap (λ all. text_lines (all ++ more)) parts
    ∙ ap text_lines (append_assoc (take i bytes) (10 ∷ drop (i + 1) bytes) more)
    ∙ line_to_feed (take i bytes) (drop (i + 1) bytes ++ more) others

-- ---- lines that are read up to a line feed

-- Whether the bytes have no line feed.
record IsOnePart (bytes : List ℕ) : Type 0 where
  all : take_through 10 bytes ≡ bytes
  none : drop_through 10 bytes ≡ []
  others : All IsOther bytes

-- Whether the bytes have a line feed, and `front` comes before the first one.
record IsFront (bytes front : List ℕ) : Type 0 where
  through : take_through 10 bytes ≡ front ++ 10 ∷ []
  whole : bytes ≡ front ++ 10 ∷ drop_through 10 bytes
  others : All IsOther front

-- The first line feed splits the bytes, if there is one.
first_cut : (bytes : List ℕ) → IsOnePart bytes ⊎ ((front : List ℕ) × IsFront bytes front)
first_cut [] = inl (record { all = refl; none = refl; others = All-nil IsOther })
first_cut (byte ∷ bytes) = by (eqb byte 10) refl (first_cut bytes)
  where
    by : (feeds : Bool) → eqb byte 10 ≡ feeds
        → IsOnePart bytes ⊎ ((front : List ℕ) × IsFront bytes front)
        → IsOnePart (byte ∷ bytes) ⊎ ((front : List ℕ) × IsFront (byte ∷ bytes) front)
    by true is later = inr (
      [],
      record {
        through = rw is (ap (λ b. b ∷ []) (eqb-true byte 10 is));
        whole = rw is (ap (λ b. b ∷ bytes) (eqb-true byte 10 is));
        others = All-nil IsOther;
      },
    )
    by false is (inl h) = inl (record {
      all = rw is (ap (λ rest. byte ∷ rest) h.all);
      none = rw is h.none;
      others = All-cons IsOther byte bytes is h.others;
    })
    by false is (inr h) = inr (
      byte ∷ h.0,
      record {
        through = rw is (ap (λ rest. byte ∷ rest) h.1.through);
        whole = rw is (ap (λ rest. byte ∷ rest) h.1.whole);
        others = All-cons IsOther byte h.0 is h.1.others;
      },
    )

-- A line is what comes before its line feed.
strip_feed : (front : List ℕ) → strip_last 10 (front ++ 10 ∷ []) ≡ front
strip_feed front =
    let size = length-append front (10 ∷ []) in
    let last : length (front ++ 10 ∷ []) - 1 ≡ length front = omega (arith, size) in
    let some : ltb 0 (length (front ++ 10 ∷ [])) ≡ true = lt-ltb 0 (length (front ++ 10 ∷ [])) (omega (arith, size)) in
    let feed : get_or (front ++ 10 ∷ []) (length (front ++ 10 ∷ []) - 1) 0 ≡ 10 =
    ap (λ n. get_or (front ++ 10 ∷ []) n 0) last ∙ get_or-append_seam front 10 [] 0 in
    rw some (rw feed (ap (λ n. take n (front ++ 10 ∷ [])) last ∙ take-append_seam front (10 ∷ [])))

-- A line without a line feed is stripped of nothing.
strip_none : (line : List ℕ) → All IsOther line → strip_last 10 line ≡ line
strip_none [] others = refl
strip_none (byte ∷ line) others =
    let within : length (byte ∷ line) - 1 < length (byte ∷ line) = omega arith in
    let other : eqb (get_or (byte ∷ line) (length (byte ∷ line) - 1) 0) 10 ≡ false =
    All-get_or IsOther (byte ∷ line) (length (byte ∷ line) - 1) 0 within others in
    let some : ltb 0 (length (byte ∷ line)) ≡ true = lt-ltb 0 (length (byte ∷ line)) (omega arith) in
    rw some (rw other refl)

-- If there are bytes, what they have up to the first line feed is a line, and the others come after
-- it.
pub first_line : (bytes : List ℕ) → 0 < length (take_through 10 bytes)
    → text_lines bytes ≡ strip_last 10 (take_through 10 bytes) ∷ text_lines (drop_through 10 bytes)
first_line bytes some = by (first_cut bytes)
  where
    by : IsOnePart bytes ⊎ ((front : List ℕ) × IsFront bytes front)
        → text_lines bytes
        ≡ strip_last 10 (take_through 10 bytes) ∷ text_lines (drop_through 10 bytes)
    by (inl h) =
        line_to_end bytes h.others (omega (arith, some, ap length h.all))
        ∙ ap (λ line. line ∷ text_lines [])
        (sym (ap (strip_last 10) h.all ∙ strip_none bytes h.others))
        ∙ ap (λ rest. strip_last 10 (take_through 10 bytes) ∷ text_lines rest) (sym h.none)
    by (inr h) =
        ap text_lines h.1.whole
        ∙ line_to_feed h.0 (drop_through 10 bytes) h.1.others
        ∙ ap (λ line. line ∷ text_lines (drop_through 10 bytes))
        (sym (ap (strip_last 10) h.1.through ∙ strip_feed h.0))
