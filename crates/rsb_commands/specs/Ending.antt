-- What the program leaves for each outcome: the exit status, the line of a fault, and the replies.
use Rattle.std.specs.Prelude.{◌≡◌, ℕ, List, ◌++◌, IfSome, MatchResult, Option, Result, Ok, Err, codes}
use Rattle.std.specs.Io.KnownBytes.{IsAtEnd, Keeps}
use Rattle.rsb_command_parser.specs.declared.fault.Fault.{Fault}
use Rattle.rsb_command_parser.specs.declared.fault.Fault.TheVariants.{BadLine, NoMemory, Io}
use Rattle.rsb_command_parser.specs.Fault.{fault_line, status_of}
use Rattle.rsb_command_parser.specs.Input.{HasBytes}
use Rattle.rsb_command_parser.specs.Spelling.{IsFirstBadLine}
use Rattle.rsb_commands.specs.Answer.{WritesReplies, KeepsWithoutCommands, WroteFirstReplies, WrotePartOfReplies}
use Rattle.rsb_commands.specs.Transfer.{AppendsPrefixOf}

-- What is left of the input, and what was written to the output and to the error output, if known.
pub record Channels : Type 0 where
  pub input : Option (List ℕ)
  pub output : Option (List ℕ)
  pub errors : Option (List ℕ)

-- The channels with these contents.
abbrev pub channels : Option (List ℕ) → Option (List ℕ) → Option (List ℕ) → Channels
channels input output errors = record { input = input; output = output; errors = errors }

-- The exit status of an outcome.
abbrev pub status_after : Result (Unit {0}) Fault → ℕ
status_after (Ok done) = 0
status_after (Err fault) = status_of fault

-- Whether the line of a fault was written, or the prefix that its writer took. If there was no
-- fault, nothing was written.
abbrev pub TellsFault : Option (List ℕ) → Option (List ℕ) → Result (Unit {0}) Fault → Type 0
TellsFault old new outcome = MatchResult outcome
    (λ _. Keeps old new)
    (λ fault. AppendsPrefixOf old new (fault_line fault ++ codes "\n"))

-- What was read and written if the program ends with this outcome.
abbrev pub Leaves : Channels → Channels → Result (Unit {0}) Fault → Type 0
Leaves before after (Ok done) =
    IsAtEnd after.input × IfSome before.input (λ bytes. WritesReplies bytes before.output after.output)
Leaves before after (Err (BadLine number)) =
    IfSome before.input (λ bytes. IsFirstBadLine bytes number) × Keeps before.output after.output
Leaves before after (Err NoMemory) =
    HasBytes before.input × WroteFirstReplies before.input before.output after.output
Leaves before after (Err Io) = WrotePartOfReplies before.input before.output after.output

-- Whether the program ended with this status, and read and wrote what belongs to one outcome with
-- that status.
pub record ProgramEnds (before after : Channels) (status : ℕ) : Type 0 where
  pub outcome : Result (Unit {0}) Fault
  pub status_is : status ≡ status_after outcome
  pub told : TellsFault before.errors after.errors outcome
  pub leaves : Leaves before after outcome
  pub no_commands : KeepsWithoutCommands before.input before.output after.output
