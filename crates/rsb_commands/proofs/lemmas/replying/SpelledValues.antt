-- The numbers that lines spell are values of 32 bits.
use Rattle.std.proofs.Common.{ℕ, ℤ, pos, negsuc, ◌^◌, ◌<◌, List, [], ◌∷◌, arith}
use Rattle.std.proofs.lemmas.Bool.Decides.{nat_tests}
use Rattle.std.proofs.lemmas.Int.{ints}
use Rattle.std.proofs.lemmas.List.Elements.{All-cons, All-nil}
use Rattle.std.specs.Int.{w32}
use Rattle.std.specs.Int.RustNames.{FitsSigned}
use Rattle.std.specs.List.{AllZip}
use Rattle.std.specs.Prelude.{All, ⊤}
use Rattle.rsb_integer.specs.Rank.{signed_rank}
use Rattle.rsb_command_parser.specs.declared.command.Command.{Command}
use Rattle.rsb_command_parser.specs.declared.command.Command.TheVariants.{Add, Del, Has, Gap, Count, Show, Union, Intersection, Difference, SymmetricDifference, Complement, Most, Compare}
use Rattle.rsb_command_parser.specs.Spelling.{Argument, slot, number, IsArgument, Spells, line_of}
use Rattle.rsb_commands.specs.Interpreter.{NamesValues}

-- The rank of a number that fits 32 bits is below 2 ^ 32.
rank-fits : (z : ℤ) → FitsSigned w32 z → signed_rank w32 z < 2 ^ 32
rank-fits (pos m) fits = grind (arith, ints, nat_tests)
rank-fits (negsuc m) fits = grind (arith, ints, nat_tests)

-- Whether the numbers among the arguments have such ranks.
abbrev AreValues : List Argument → Type 0
AreValues [] = ⊤
AreValues (slot n ∷ others) = AreValues others
AreValues (number z ∷ others) = (signed_rank w32 z < 2 ^ 32) × AreValues others

-- The arguments that words stand for have such ranks.
values_of : (words : List (List ℕ)) (arguments : List Argument)
    → AllZip IsArgument words arguments → AreValues arguments
values_of words [] stand = tt
values_of [] (slot n ∷ others) stand = absurd stand
values_of [] (number z ∷ others) stand = absurd stand
values_of (word ∷ words) (slot n ∷ others) stand = values_of words others stand.1
values_of (word ∷ words) (number z ∷ others) stand =
    (rank-fits z stand.0.fits, values_of words others stand.1)

-- The command of a line names values.
line_values : (words : List (List ℕ)) (command : Command ℤ) → Spells words command
    → NamesValues (signed_rank w32) (2 ^ 32) command
line_values words command spells =
    go command (values_of spells.arguments (line_of command).arguments spells.stand_for)
  where
    -- The same, by the arguments of the command.
    go : (command : Command ℤ) → AreValues (line_of command).arguments
        → NamesValues (signed_rank w32) (2 ^ 32) command
    go (Add n first last) values = (values.0, values.1.0)
    go (Del n value) values = values.0
    go (Has n value) values = values.0
    go (Gap n value) values = values.0
    go (Count n) values = tt
    go (Show n) values = tt
    go (Union target left right) values = tt
    go (Intersection target left right) values = tt
    go (Difference target left right) values = tt
    go (SymmetricDifference target left right) values = tt
    go (Complement target source) values = tt
    go (Most target a b c) values = tt
    go (Compare left right) values = tt

-- The commands of lines name values.
pub spelled_values : (lines : List (List (List ℕ))) (commands : List (Command ℤ))
    → AllZip Spells lines commands → All (NamesValues (signed_rank w32) (2 ^ 32)) commands
spelled_values [] [] spelled = All-nil (NamesValues (signed_rank w32) (2 ^ 32))
spelled_values [] (command ∷ commands) spelled = absurd spelled
spelled_values (line ∷ lines) [] spelled = absurd spelled
spelled_values (line ∷ lines) (command ∷ commands) spelled =
    All-cons (NamesValues (signed_rank w32) (2 ^ 32)) command commands
    (line_values line command spelled.0) (spelled_values lines commands spelled.1)
