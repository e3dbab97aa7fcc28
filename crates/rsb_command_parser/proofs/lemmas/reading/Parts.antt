-- Bytes that are split after a line feed, and what is known about the lines of each part.
use Rattle.std.proofs.Common.{◌≡◌, ◌∙◌, ℕ, ℤ, suc, ◌+◌, ◌<◌, Bool, true, false, cond, eqb, List, [], ◌∷◌, ◌++◌, length, map, take, get_or, Option, Some, None, refl, sym, ap, subst, append_assoc, arith}
use Rattle.std.proofs.Math.Seq.{take-suc}
use Rattle.std.proofs.lemmas.Bool.{eqb-true, true≢false}
use Rattle.std.proofs.lemmas.List.{append-nil, get_or-append-add, length-append}
use Rattle.std.proofs.lemmas.List.Elements.{All-append, All-cons, All-nil}
use Rattle.std.proofs.lemmas.List.Splits.{length-slice_split}
use Rattle.std.specs.Prelude.{All, IsNone, MatchOption}
use Rattle.std.specs.List.{AllZip, onto_first, slice_split}
use Rattle.std.specs.Str.Lines.{lines, lines_of_parts, strip_carriage_return}
use Rattle.rsb_command_parser.specs.declared.command.Command.{Command}
use Rattle.rsb_command_parser.specs.Input.{HasBadLine, HasLines, IsClosed}
use Rattle.rsb_command_parser.specs.Spelling.{AreCommands, IsFirstBadLine, Spells, has_words, words}
use Rattle.rsb_command_parser.proofs.lemmas.reading.Cuts.{is_line_feed, lines_of_parts-append}
use Rattle.rsb_command_parser.proofs.lemmas.reading.Lines.{AllZip-append, IsGood, spoken, spoken-append}

-- ---- lines of two parts

-- A byte is added to the first part in the same way whether or not other parts follow.
onto_first-append : (byte : ℕ) (xs ys : List (List ℕ)) → 0 < length xs
    → onto_first byte (xs ++ ys) ≡ onto_first byte xs ++ ys
onto_first-append byte [] ys some = absurd (omega (arith, some))
onto_first-append byte (x ∷ xs) ys some = refl

-- What comes after a line feed is split by itself.
slice_split-line_feed : (xs ys : List ℕ) → slice_split is_line_feed (xs ++ 10 ∷ ys)
    ≡ slice_split is_line_feed xs ++ slice_split is_line_feed ys
slice_split-line_feed [] ys = refl
slice_split-line_feed (x ∷ xs) ys = by (is_line_feed x) (slice_split-line_feed xs ys)
  where
    by : (is : Bool) → slice_split is_line_feed (xs ++ 10 ∷ ys)
        ≡ slice_split is_line_feed xs ++ slice_split is_line_feed ys
        → cond is ([] ∷ slice_split is_line_feed (xs ++ 10 ∷ ys))
        (onto_first x (slice_split is_line_feed (xs ++ 10 ∷ ys)))
        ≡ cond is ([] ∷ slice_split is_line_feed xs) (onto_first x (slice_split is_line_feed xs))
        ++ slice_split is_line_feed ys
    by true rest = ap (λ parts. [] ∷ parts) rest
    by false rest = ap (onto_first x) rest
        ∙ onto_first-append x (slice_split is_line_feed xs) (slice_split is_line_feed ys)
        (omega (arith, length-slice_split is_line_feed xs))

-- The lines up to a line feed come before those after it.
lines-line_feed : (xs ys : List ℕ) → lines (xs ++ 10 ∷ ys)
    ≡ map strip_carriage_return (slice_split is_line_feed xs) ++ lines ys
lines-line_feed xs ys =
    ap lines_of_parts (slice_split-line_feed xs ys)
    ∙ lines_of_parts-append (slice_split is_line_feed xs) (slice_split is_line_feed ys)
    (omega (arith, length-slice_split is_line_feed ys))

-- Bytes that end with a line feed are closed.
IsClosed-line_feed : (xs : List ℕ) → IsClosed (xs ++ 10 ∷ [])
unfolding IsClosed
IsClosed-line_feed xs more =
    let front = map strip_carriage_return (slice_split is_line_feed xs) in
    let own : lines (xs ++ 10 ∷ []) ≡ front = lines-line_feed xs [] ∙ append-nil front in
    ap lines (append_assoc xs (10 ∷ []) more) ∙ lines-line_feed xs more
    ∙ ap (λ ls. ls ++ lines more) (sym own)

-- The bytes up to a line feed, including it, are closed.
IsClosed-take : (bytes : List ℕ) (i : ℕ) → i < length bytes → eqb (get_or bytes i 0) 10 ≡ true
    → IsClosed (take (i + 1) bytes)
IsClosed-take bytes i within is =
    let one_more : suc i ≡ i + 1 = omega arith in
    subst IsClosed (sym (ap (λ n. take n bytes) (sym one_more) ∙ take-suc bytes i 0 within
    ∙ ap (λ byte. take i bytes ++ byte ∷ []) (eqb-true (get_or bytes i 0) 10 is)))
    (IsClosed-line_feed (take i bytes))

-- This also holds if other bytes come before these.
pub IsClosed-take-append : (rest bytes : List ℕ) (i : ℕ) → i < length bytes
    → eqb (get_or bytes i 0) 10 ≡ true → IsClosed (take (length rest + i + 1) (rest ++ bytes))
IsClosed-take-append rest bytes i within is =
    IsClosed-take (rest ++ bytes) (length rest + i) (omega (arith, within, length-append rest bytes))
    (ap (λ byte. eqb byte 10) (get_or-append-add rest bytes i 0) ∙ is)

-- An empty list of bytes is closed.
IsClosed-nil : IsClosed []
unfolding IsClosed
IsClosed-nil more = refl

-- Two closed parts, one after the other, are closed.
IsClosed-append : (xs ys : List ℕ) → IsClosed xs → IsClosed ys → IsClosed (xs ++ ys)
unfolding IsClosed
IsClosed-append xs ys closed other more =
    ap lines (append_assoc xs ys more) ∙ closed (ys ++ more) ∙ ap (λ ls. lines xs ++ ls) (other more)
    ∙ sym (append_assoc (lines xs) (lines ys) (lines more))
    ∙ ap (λ ls. ls ++ lines more) (sym (closed ys))

-- The lines of what follows closed bytes come after the lines of those bytes.
lines-closed : (xs ys : List ℕ) → IsClosed xs → lines (xs ++ ys) ≡ lines xs ++ lines ys
unfolding IsClosed
lines-closed xs ys closed = closed ys

-- ---- what the lines of two parts spell

-- The commands of what follows closed bytes come after the commands of those bytes.
AreCommands-append : (xs ys : List ℕ) (cs ds : List (Command ℤ)) → IsClosed xs → AreCommands xs cs
    → AreCommands ys ds → AreCommands (xs ++ ys) (cs ++ ds)
AreCommands-append xs ys cs ds closed first second =
    subst (λ ls. AllZip Spells ls (cs ++ ds))
    (sym (ap spoken (lines-closed xs ys closed) ∙ spoken-append (lines xs) (lines ys)))
    (AllZip-append (spoken (lines xs)) (spoken (lines ys)) cs ds first second)

-- Lines that spell commands are not bad.
all-good : (ls : List (List ℕ)) (cs : List (Command ℤ)) → AllZip Spells (spoken ls) cs
    → All IsGood ls
all-good [] cs spelled = All-nil IsGood
all-good (l ∷ ls) cs spelled = by (has_words (words l)) refl (all-good ls) cs spelled
  where
    by : (some : Bool) → has_words (words l) ≡ some
        → ((cs : List (Command ℤ)) → AllZip Spells (spoken ls) cs → All IsGood ls)
        → (cs : List (Command ℤ)) → AllZip Spells (cond some (words l ∷ spoken ls) (spoken ls)) cs
        → All IsGood (l ∷ ls)
    by true is rest [] spelled = absurd spelled
    by true is rest (c ∷ cs) spelled =
        All-cons IsGood l ls (λ bad. bad.none c spelled.0) (rest cs spelled.1)
    by false is rest cs spelled =
        All-cons IsGood l ls (λ bad. absurd (true≢false (sym bad.some ∙ is))) (rest cs spelled)

-- If closed bytes spell commands, the first bad line is that of what follows.
first_bad-after : (xs ys : List ℕ) (cs : List (Command ℤ)) (number : ℕ) → IsClosed xs
    → AreCommands xs cs → IsFirstBadLine ys number
    → IsFirstBadLine (xs ++ ys) (length (lines xs) + number)
first_bad-after xs ys cs number closed spelled bad = record {
  before = lines xs ++ bad.before;
  line = bad.line;
  after = bad.after;
  parts = lines-closed xs ys closed ∙ ap (λ ls. lines xs ++ ls) bad.parts
      ∙ sym (append_assoc (lines xs) bad.before (bad.line ∷ bad.after));
  counted = omega (arith, bad.counted, length-append (lines xs) bad.before);
  bad = bad.bad;
  first = All-append IsGood (lines xs) bad.before (all-good (lines xs) cs spelled) bad.first;
}

-- The first bad line of closed bytes is the first one, whatever follows.
first_bad-before : (xs more : List ℕ) (number : ℕ) → IsClosed xs → IsFirstBadLine xs number
    → IsFirstBadLine (xs ++ more) number
first_bad-before xs more number closed bad = record {
  before = bad.before;
  line = bad.line;
  after = bad.after ++ lines more;
  parts = lines-closed xs more closed ∙ ap (λ ls. ls ++ lines more) bad.parts
      ∙ append_assoc bad.before (bad.line ∷ bad.after) (lines more);
  counted = bad.counted;
  bad = bad.bad;
  first = bad.first;
}

-- ---- an input in parts

-- Before the first byte there are no lines, no commands and no rest.
pub HasLines-nil : HasLines [] [] 0 []
HasLines-nil = record { whole = []; parts = refl; closed = IsClosed-nil; spelled = tt; counted = refl }

-- Closed bytes at the start of the rest are more whole lines.
pub HasLines-lines : (bytes front rest left : List ℕ) (cs ds : List (Command ℤ)) (count more : ℕ)
    → HasLines bytes cs count rest → rest ≡ front ++ left → IsClosed front → AreCommands front ds
    → more ≡ length (lines front) → HasLines bytes (cs ++ ds) (count + more) left
HasLines-lines bytes front rest left cs ds count more has cut closed spelled counted = record {
  whole = has.whole ++ front;
  parts = has.parts ∙ ap (λ all. has.whole ++ all) cut
      ∙ sym (append_assoc has.whole front left);
  closed = IsClosed-append has.whole front has.closed closed;
  spelled = AreCommands-append has.whole front cs ds has.closed has.spelled spelled;
  counted = omega (
    arith,
    has.counted,
    counted,
    ap length (lines-closed has.whole front has.closed),
    length-append (lines has.whole) (lines front),
  );
}

-- The first bad line of closed bytes at the start of the rest is the first of all bytes.
pub HasBadLine-lines : (bytes front rest left : List ℕ) (cs : List (Command ℤ)) (count number : ℕ)
    → HasLines bytes cs count rest → rest ≡ front ++ left → IsClosed front
    → IsFirstBadLine front number → HasBadLine bytes (count + number)
HasBadLine-lines bytes front rest left cs count number has cut closed bad more =
    let all : bytes ++ more ≡ has.whole ++ (front ++ (left ++ more)) =
    ap (λ all. all ++ more) (has.parts ∙ ap (λ all. has.whole ++ all) cut)
    ∙ append_assoc has.whole (front ++ left) more
    ∙ ap (λ all. has.whole ++ all) (append_assoc front left more) in
    subst (λ all. IsFirstBadLine all (count + number)) (sym all)
    (subst (λ many. IsFirstBadLine (has.whole ++ (front ++ (left ++ more))) (many + number))
    (sym has.counted)
    (first_bad-after has.whole (front ++ (left ++ more)) cs number has.closed has.spelled
    (first_bad-before front (left ++ more) number closed bad)))

-- If no bad line was found, the commands of the whole lines are known.
pub taken-lines : (bytes : List ℕ) (bad : Option ℕ) (Lines : Type 0) → IsNone bad
    → MatchOption bad Lines (HasBadLine bytes) → Lines
taken-lines bytes None Lines none taken = taken
taken-lines bytes (Some number) Lines none taken = absurd (true≢false none)

-- If `bad` is `None`, no bad line was found.
pub none_is : (bad : Option ℕ) → bad ≡ None → IsNone bad
none_is bad is = rw is refl

-- If no bad line was found, it is enough to know the commands of the whole lines.
pub lines-taken : (bytes : List ℕ) (bad : Option ℕ) (Lines : Type 0) → IsNone bad
    → Lines → MatchOption bad Lines (HasBadLine bytes)
lines-taken bytes None Lines none lines = lines
lines-taken bytes (Some number) Lines none lines = absurd (true≢false none)

-- If a bad line was found, its number is known.
pub taken-bad : (bytes : List ℕ) (bad : Option ℕ) (number : ℕ) (Lines : Type 0)
    → bad ≡ Some number → MatchOption bad Lines (HasBadLine bytes) → HasBadLine bytes number
taken-bad bytes bad number Lines is taken =
    subst (λ found. MatchOption found Lines (HasBadLine bytes)) is taken

-- ---- at the end of the input

-- The commands of the rest come after those of the whole lines.
pub AreCommands-rest : (bytes rest : List ℕ) (cs ds : List (Command ℤ)) (count : ℕ)
    → HasLines bytes cs count rest → AreCommands rest ds → AreCommands bytes (cs ++ ds)
AreCommands-rest bytes rest cs ds count has spelled =
    subst (λ all. AreCommands all (cs ++ ds)) (sym has.parts)
    (AreCommands-append has.whole rest cs ds has.closed has.spelled spelled)

-- The first bad line of the rest is the first of all bytes, because the whole lines have none.
pub IsFirstBadLine-rest : (bytes rest : List ℕ) (cs : List (Command ℤ)) (count number : ℕ)
    → HasLines bytes cs count rest → IsFirstBadLine rest number
    → IsFirstBadLine bytes (count + number)
IsFirstBadLine-rest bytes rest cs count number has bad =
    subst (λ all. IsFirstBadLine all (count + number)) (sym has.parts)
    (subst (λ many. IsFirstBadLine (has.whole ++ rest) (many + number)) (sym has.counted)
    (first_bad-after has.whole rest cs number has.closed has.spelled bad))

-- If a line is the first bad one whatever follows, it is the first bad one of the bytes.
pub IsFirstBadLine-bytes : (bytes : List ℕ) (number : ℕ) → HasBadLine bytes number
    → IsFirstBadLine bytes number
IsFirstBadLine-bytes bytes number bad =
    subst (λ all. IsFirstBadLine all number) (append-nil bytes) (bad [])
