-- The commands that the lines of an input spell.
use Rattle.std.specs.Prelude.{◌≡◌, ◌≢◌, ℕ, ℤ, ◌+◌, ◌<◌, ◌==◌, ◌||◌, ◌++◌, Bool, Option, List, [], ◌∷◌, All, IsTrue, MatchOption, codes, filter, length, map, nat_lt}
use Rattle.std.specs.Borrow.{Bor}
use Rattle.std.specs.Int.{w32}
use Rattle.std.specs.Int.RustNames.{FitsSigned}
use Rattle.std.specs.List.{AllZip, slice_split}
use Rattle.std.specs.Str.Lines.{lines}
use Rattle.std.specs.Str.Parse.{IsNumeral, signed_digits_value, without_leading_sign}
use Rattle.rsb_command_parser.specs.declared.command.Command.{Command}
use Rattle.rsb_command_parser.specs.declared.command.Command.TheVariants.{Add, Del, Has, Gap, Count, Show, Union, Intersection, Difference, SymmetricDifference, Complement, Most, Compare}

-- ---- words

-- Whether the byte is a space or a tab.
abbrev pub is_blank : ℕ → Bool
is_blank byte = (byte == 32) || (byte == 9)

-- Whether the part is not empty.
abbrev pub has_bytes : List ℕ → Bool
has_bytes part = nat_lt 0 (length part)

-- The words of a line: its parts between spaces and tabs.
abbrev pub words : List ℕ → List (List ℕ)
words line = filter has_bytes (slice_split is_blank line)

-- Whether the word is one digit, which names the slot. 48 is the code of '0'.
pub record IsSlot (word : List ℕ) (slot : ℕ) : Type 0 where
  pub digit : word ≡ (48 + slot) ∷ []
  pub one_digit : slot < 10

-- Whether the word is an optional sign and at least one decimal digit, and spells `number`, which
-- fits in 32 bits.
pub record IsNumber (word : List ℕ) (number : ℤ) : Type 0 where
  pub digits : IsNumeral 10 (without_leading_sign word)
  pub value : number ≡ signed_digits_value 10 word
  pub fits : FitsSigned w32 number

-- ---- lines

-- What a word after the first stands for.
pub data Argument : Type 0 where
  slot : ℕ → Argument
  number : ℤ → Argument

-- Whether the word stands for the argument.
abbrev pub IsArgument : List ℕ → Argument → Type 0
IsArgument word (slot n) = IsSlot word n
IsArgument word (number z) = IsNumber word z

-- The line of a command: its first word, and what the other words stand for.
pub record Line : Type 0 where
  pub keyword : List ℕ
  pub arguments : List Argument

-- The line of each command.
abbrev pub line_of : Command ℤ → Line
line_of (Add n first last) = record {
  keyword = codes "add";
  arguments = slot n ∷ number first ∷ number last ∷ [];
}
line_of (Del n value) = record { keyword = codes "del"; arguments = slot n ∷ number value ∷ [] }
line_of (Has n value) = record { keyword = codes "has"; arguments = slot n ∷ number value ∷ [] }
line_of (Gap n value) = record { keyword = codes "gap"; arguments = slot n ∷ number value ∷ [] }
line_of (Count n) = record { keyword = codes "len"; arguments = slot n ∷ [] }
line_of (Show n) = record { keyword = codes "show"; arguments = slot n ∷ [] }
line_of (Union target left right) = record {
  keyword = codes "or";
  arguments = slot target ∷ slot left ∷ slot right ∷ [];
}
line_of (Intersection target left right) = record {
  keyword = codes "and";
  arguments = slot target ∷ slot left ∷ slot right ∷ [];
}
line_of (Difference target left right) = record {
  keyword = codes "sub";
  arguments = slot target ∷ slot left ∷ slot right ∷ [];
}
line_of (SymmetricDifference target left right) = record {
  keyword = codes "xor";
  arguments = slot target ∷ slot left ∷ slot right ∷ [];
}
line_of (Complement target source) = record {
  keyword = codes "not";
  arguments = slot target ∷ slot source ∷ [];
}
line_of (Most target a b c) = record {
  keyword = codes "most";
  arguments = slot target ∷ slot a ∷ slot b ∷ slot c ∷ [];
}
line_of (Compare left right) = record {
  keyword = codes "cmp";
  arguments = slot left ∷ slot right ∷ [];
}

-- Whether the words are those of the command's line. A number may have any of its spellings.
pub record Spells (line_words : List (List ℕ)) (command : Command ℤ) : Type 0 where
  pub arguments : List (List ℕ)
  pub parts : line_words ≡ (line_of command).keyword ∷ arguments
  pub stand_for : AllZip IsArgument arguments (line_of command).arguments

-- Whether the word is none of the others.
abbrev pub IsNoneOf : List (List ℕ) → List ℕ → Type 0
IsNoneOf others word = All (λ other. word ≢ other) others

-- ---- inputs

-- Whether the line has a word.
abbrev pub has_words : List (List ℕ) → Bool
has_words line_words = nat_lt 0 (length line_words)

-- The words of each line that has some.
abbrev pub lines_with_words : List ℕ → List (List (List ℕ))
lines_with_words input = filter has_words (map words (lines input))

-- Whether the lines with words spell these commands, one each.
abbrev pub AreCommands : List ℕ → List (Command ℤ) → Type 0
AreCommands input commands = AllZip Spells (lines_with_words input) commands

-- Whether the first line with words spells a command.
pub record StartsWithCommand (input : List ℕ) : Type 0 where
  pub line : List (List ℕ)
  pub others : List (List (List ℕ))
  pub parts : lines_with_words input ≡ line ∷ others
  pub command : Command ℤ
  pub spelled : Spells line command

-- Whether the line has words that spell no command.
pub record IsBadLine (line : List ℕ) : Type 0 where
  pub some : IsTrue (has_words (words line))
  pub none : (command : Command ℤ) → ¬ Spells (words line) command

-- Whether the line with this number, counted from 1, is the first bad one.
pub record IsFirstBadLine (input : List ℕ) (number : ℕ) : Type 0 where
  pub before : List (List ℕ)
  pub line : List ℕ
  pub after : List (List ℕ)
  pub parts : lines input ≡ before ++ line ∷ after
  pub counted : number ≡ length before + 1
  pub bad : IsBadLine line
  pub first : All (λ earlier. ¬ IsBadLine earlier) before

-- ---- reading

-- Whether the result is a value that the fact holds of, or `None` if there is no such value.
abbrev pub Reads : {X : Type 0} → Option X → (X → Type 0) → Type 0
Reads {X} result Holds = MatchOption result ((x : X) → ¬ Holds x) Holds

-- Whether the line has a first word that the fact holds of, and `rest` has the words after it.
pub record BeginsWith (Holds : List ℕ → Type 0) (line rest : List ℕ) : Type 0 where
  pub word : List ℕ
  pub parts : words line ≡ word ∷ words rest
  pub holds : Holds word

-- Whether the fact holds of no pair of the line's first word and a value. This is so for a line
-- without words.
abbrev pub LacksFirst : {X : Type 0} → (List ℕ → X → Type 0) → List ℕ → Type 0
LacksFirst {X} Holds line =
    (word : List ℕ) (others : List (List ℕ)) → words line ≡ word ∷ others
    → (x : X) → ¬ Holds word x

-- Whether the result is a value, with the rest of the line, such that the fact holds of the first
-- word of the line and that value. It is `None` if there is no such value.
abbrev pub ReadsFirst : {X : Type 0} → Option (X × Bor (List ℕ)) → (List ℕ → X → Type 0) → List ℕ
    → Type 0
ReadsFirst result Holds line = MatchOption result (LacksFirst Holds line)
    (λ read. BeginsWith (λ word. Holds word read.0) line read.1.now)
