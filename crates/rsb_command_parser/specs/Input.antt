-- What was read of an input that comes in parts.
use Rattle.std.specs.Prelude.{◌≡◌, ℕ, ℤ, ◌<◌, ◌++◌, IfSome, List, MatchOption, Option, length}
use Rattle.std.specs.Str.Lines.{lines}
use Rattle.rsb_command_parser.specs.declared.command.Command.{Command}
use Rattle.rsb_command_parser.specs.declared.input.Reading.{Reading}
use Rattle.rsb_command_parser.specs.Spelling.{AreCommands, IsFirstBadLine}

-- Whether the lines of the bytes stay the same whatever comes after them: the whole has these
-- lines, and then the lines of what comes after.
unfoldable pub IsClosed : List ℕ → Type 0
IsClosed bytes = (more : List ℕ) → lines (bytes ++ more) ≡ lines bytes ++ lines more

-- Whether the bytes are whole lines and then `rest`. There are `count` whole lines, and they spell
-- these commands.
pub record HasLines (bytes : List ℕ) (commands : List (Command ℤ)) (count : ℕ) (rest : List ℕ)
    : Type 0 where
  pub whole : List ℕ
  pub parts : bytes ≡ whole ++ rest
  pub closed : IsClosed whole
  pub spelled : AreCommands whole commands
  pub counted : count ≡ length (lines whole)

-- Whether the first bad line has this number, whatever follows the bytes.
abbrev pub HasBadLine : List ℕ → ℕ → Type 0
HasBadLine bytes number = (more : List ℕ) → IsFirstBadLine (bytes ++ more) number

-- Whether the bytes were read: either their first bad line is known, or the commands of all their
-- whole lines are.
abbrev pub HasTaken : {A : Type 0} → List ℕ → Reading A → Type 0
HasTaken bytes reading = MatchOption reading.bad_line
    (HasLines bytes reading.commands.items reading.count reading.rest.items)
    (HasBadLine bytes)

-- Whether the input is known and has a byte.
abbrev pub HasBytes : Option (List ℕ) → Type 0
HasBytes known = IfSome known (λ input. 0 < length input)
