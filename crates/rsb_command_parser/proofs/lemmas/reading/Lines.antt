-- Lines that are read one after the other.
use Rattle.std.proofs.Common.{◌≡◌, ◌∙◌, ℕ, ℤ, ◌+◌, ◌<◌, List, [], ◌∷◌, ◌++◌, length, map, cond, sym, ap, append_assoc, arith}
use Rattle.std.proofs.lemmas.Bool.{le-ltb, lt-ltb, ltb-true}
use Rattle.std.proofs.lemmas.List.{append-nil, map-append, length-append, nil_from_length}
use Rattle.std.proofs.lemmas.List.Elements.{filter-append, All-push}
use Rattle.std.specs.Prelude.{All}
use Rattle.std.specs.List.{AllZip, filter}
use Rattle.std.specs.Str.Lines.{lines}
use Rattle.rsb_command_parser.specs.declared.command.Command.{Command}
use Rattle.rsb_command_parser.specs.Spelling.{IsBadLine, IsFirstBadLine, Spells, StartsWithCommand, has_words, lines_with_words, words}

-- The words of each line that has some.
abbrev pub spoken : List (List ℕ) → List (List (List ℕ))
spoken ls = filter has_words (map words ls)

-- Whether the line is not bad.
abbrev pub IsGood : List ℕ → Type 0
IsGood line = IsBadLine line → ⊥

-- Whether the lines before `rest` were read: there are `number` of them, none is bad, and they
-- spell these commands.
pub record HasRead (input rest : List ℕ) (number : ℕ) (commands : List (Command ℤ)) : Type 0 where
  pub front : List (List ℕ)
  pub parts : lines input ≡ front ++ lines rest
  pub counted : number ≡ length front
  pub spelled : AllZip Spells (spoken front) commands
  pub good : All IsGood front

-- The lines with words of two lists are those of the first list, then those of the second.
pub spoken-append : (xs ys : List (List ℕ)) → spoken (xs ++ ys) ≡ spoken xs ++ spoken ys
spoken-append xs ys =
    ap (filter has_words) (map-append words xs ys)
    ∙ filter-append has_words (map words xs) (map words ys)

-- A line without words is left out.
spoken-silent : (line : List ℕ) → length (words line) ≡ 0 → spoken (line ∷ []) ≡ []
spoken-silent line none =
    ap (λ kept. cond kept (words line ∷ []) [])
    (le-ltb 0 (length (words line)) (omega (arith, none)))

-- A line with words is kept, as its words.
spoken-one : (line : List ℕ) → 0 < length (words line) → spoken (line ∷ []) ≡ words line ∷ []
spoken-one line some =
    ap (λ kept. cond kept (words line ∷ []) []) (lt-ltb 0 (length (words line)) some)

-- The lines with words of two lists spell the commands of the first list, then those of the second.
pub AllZip-append : (ls ms : List (List (List ℕ))) (cs ds : List (Command ℤ)) → AllZip Spells ls cs
    → AllZip Spells ms ds → AllZip Spells (ls ++ ms) (cs ++ ds)
AllZip-append [] ms [] ds first second = second
AllZip-append [] ms (c ∷ cs) ds first second = absurd first
AllZip-append (l ∷ ls) ms [] ds first second = absurd first
AllZip-append (l ∷ ls) ms (c ∷ cs) ds first second =
    (first.0, AllZip-append ls ms cs ds first.1 second)

module _ (input rest line later : List ℕ) (number : ℕ) (commands : List (Command ℤ))
    (next : lines rest ≡ line ∷ lines later) (before : HasRead input rest number commands) where
  -- The line is the next one of the input.
  one_more : lines input ≡ (before.front ++ line ∷ []) ++ lines later
  one_more = before.parts ∙ ap (λ ls. before.front ++ ls) next
      ∙ sym (append_assoc before.front (line ∷ []) (lines later))

  -- If the line has no words, it adds no command.
  pub has_read_silent : length (words line) ≡ 0 → HasRead input later (number + 1) commands
  has_read_silent none = record {
    front = before.front ++ line ∷ [];
    parts = one_more;
    counted = omega (arith, before.counted, length-append before.front (line ∷ []));
    spelled = rw (
      spoken-append before.front (line ∷ []),
      spoken-silent line none,
      append-nil (spoken before.front),
    ) before.spelled;
    good = All-push IsGood before.front line before.good
        (λ bad. absurd (omega (arith, ltb-true _ _ bad.some, none)));
  }

  -- If the words of the line spell a command, that command is added.
  pub has_read_command : (command : Command ℤ) → 0 < length (words line)
      → Spells (words line) command → HasRead input later (number + 1) (commands ++ command ∷ [])
  has_read_command command some one = record {
    front = before.front ++ line ∷ [];
    parts = one_more;
    counted = omega (arith, before.counted, length-append before.front (line ∷ []));
    spelled = rw (spoken-append before.front (line ∷ []), spoken-one line some)
        (AllZip-append (spoken before.front) (words line ∷ []) commands (command ∷ []) before.spelled
        (one, tt));
    good = All-push IsGood before.front line before.good (λ bad. bad.none command one);
  }

  -- If the words of the line spell no command, it is the first bad line.
  pub has_read_bad : 0 < length (words line)
      → ((command : Command ℤ) → Spells (words line) command → ⊥)
      → IsFirstBadLine input (number + 1)
  has_read_bad some none = record {
    before = before.front;
    line = line;
    after = lines later;
    parts = before.parts ∙ ap (λ ls. before.front ++ ls) next;
    counted = omega (arith, before.counted);
    bad = record { some = lt-ltb 0 (length (words line)) some; none = none };
    first = before.good;
  }

-- If lines spell at least one command, the first line spells a command.
starts_with : (input : List ℕ) (first later : List (List (List ℕ))) (commands : List (Command ℤ))
    (command : Command ℤ) → lines_with_words input ≡ first ++ later
    → AllZip Spells first (commands ++ command ∷ []) → StartsWithCommand input
starts_with input [] later [] command parts spelled = absurd spelled
starts_with input [] later (c ∷ cs) command parts spelled = absurd spelled
starts_with input (line ∷ others) later [] command parts spelled = record {
  line = line;
  others = others ++ later;
  parts = parts;
  command = command;
  spelled = spelled.0;
}
starts_with input (line ∷ others) later (c ∷ cs) command parts spelled = record {
  line = line;
  others = others ++ later;
  parts = parts;
  command = c;
  spelled = spelled.0;
}

-- If the lines that were read spell at least one command, the first line with words spells one.
pub has_read_some : (input rest : List ℕ) (number : ℕ) (commands : List (Command ℤ))
    (command : Command ℤ) → HasRead input rest number (commands ++ command ∷ [])
    → StartsWithCommand input
has_read_some input rest number commands command before =
    starts_with input (spoken before.front) (spoken (lines rest)) commands command
    (ap spoken before.parts ∙ spoken-append before.front (lines rest)) before.spelled

-- If nothing is left, the lines that were read are all lines of the input.
has_read_lines : (input rest : List ℕ) (number : ℕ) (commands : List (Command ℤ))
    → length rest ≡ 0 → (before : HasRead input rest number commands) → lines input ≡ before.front
has_read_lines input rest number commands none before =
    before.parts ∙ ap (λ r. before.front ++ lines r) (nil_from_length rest none)
    ∙ append-nil before.front

-- If nothing is left, `number` is the number of lines of the input.
pub has_read_count : (input rest : List ℕ) (number : ℕ) (commands : List (Command ℤ))
    → length rest ≡ 0 → HasRead input rest number commands → number ≡ length (lines input)
has_read_count input rest number commands none before =
    before.counted ∙ ap length (sym (has_read_lines input rest number commands none before))
