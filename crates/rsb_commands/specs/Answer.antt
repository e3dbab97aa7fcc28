-- What the program writes for the input that it reads.
use Rattle.std.specs.Prelude.{◌≡◌, ℕ, ℤ, ◌^◌, ◌⊎◌, IfSome, List, Option, slice_get, take}
use Rattle.std.specs.Int.{w32}
use Rattle.std.specs.Io.KnownBytes.{Appends, Keeps}
use Rattle.std.specs.Option.{IsSomeAnd}
use Rattle.rsb_integer.specs.Rank.{signed_rank}
use Rattle.rsb_command_parser.specs.declared.command.Command.{Command}
use Rattle.rsb_command_parser.specs.Spelling.{AreCommands}
use Rattle.rsb_commands.specs.Interpreter.{AreReplies, Content, MayTakeMemory}
use Rattle.rsb_commands.specs.Text.{text}
use Rattle.rsb_commands.specs.Transfer.{CutsShort}

-- Whether these are the replies to the commands, on sets of 32-bit signed numbers.
abbrev pub AreNumberReplies : List (Command ℤ) → List (Content ℤ) → Type 0
AreNumberReplies commands replies = AreReplies (signed_rank w32) (2 ^ 32) commands replies

-- Whether the text of the replies to the commands was written, and nothing else.
pub record Replies (commands : List (Command ℤ)) (old new : Option (List ℕ)) : Type 0 where
  pub replies : List (Content ℤ)
  pub replied : AreNumberReplies commands replies
  pub written : Appends old new (text replies)

-- Whether an allocation failed: the text of the replies before a command that may allocate was
-- written, and nothing else. If it failed before the first command, nothing was written.
pub record StopsForMemory (commands : List (Command ℤ)) (replies : List (Content ℤ))
    (old new : Option (List ℕ)) : Type 0 where
  pub at : ℕ
  pub took_memory : (at ≡ 0) ⊎ IsSomeAnd (slice_get commands at) MayTakeMemory
  pub written : Appends old new (text (take at replies))

-- Whether the text of the replies to the commands that the input spells was written, and nothing
-- else.
pub record WritesReplies (input : List ℕ) (old new : Option (List ℕ)) : Type 0 where
  pub commands : List (Command ℤ)
  pub spelled : AreCommands input commands
  pub replies : List (Content ℤ)
  pub replied : AreNumberReplies commands replies
  pub written : Appends old new (text replies)

-- Whether the fact holds of all commands that the known input spells, and of all their replies. (It
-- does not state that there are such commands, since after a failed read nothing shows that the
-- input spells any.)
abbrev pub IfAnswered : Option (List ℕ)
    → (List (Command ℤ) → List (Content ℤ) → Type 0) → Type 0
IfAnswered known Fact = IfSome known (λ input.
    (commands : List (Command ℤ)) (replies : List (Content ℤ))
    → AreCommands input commands → AreNumberReplies commands replies → Fact commands replies)

-- Whether the text of the replies before a command that may allocate was written, or nothing was.
abbrev pub WroteFirstReplies : Option (List ℕ) → Option (List ℕ) → Option (List ℕ) → Type 0
WroteFirstReplies known old new =
    IfAnswered known (λ commands replies. StopsForMemory commands replies old new)

-- Whether only part of the text of the replies was written, or nothing if that text is empty.
abbrev pub WrotePartOfReplies : Option (List ℕ) → Option (List ℕ) → Option (List ℕ) → Type 0
WrotePartOfReplies known old new =
    IfAnswered known (λ commands replies. CutsShort old new (text replies))

-- Whether nothing was written if the known input does not spell a list of commands.
abbrev pub KeepsWithoutCommands : Option (List ℕ) → Option (List ℕ) → Option (List ℕ) → Type 0
KeepsWithoutCommands known old new = IfSome known (λ input.
    ((commands : List (Command ℤ)) → ¬ AreCommands input commands) → Keeps old new)
