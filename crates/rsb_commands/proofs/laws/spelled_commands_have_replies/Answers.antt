use Rattle.std.specs.Int.{w32}
use Rattle.rsb_integer.specs.Rank.{signed_value}
use Rattle.rsb_integer.specs.laws.Rank.{signed-ranks}
use Rattle.rsb_command_parser.specs.Spelling.{lines_with_words}
use Rattle.rsb_commands.specs.Interpreter.{no_members}
use Rattle.rsb_commands.proofs.lemmas.replying.SomeReply.{replies_exist}
use Rattle.rsb_commands.proofs.lemmas.replying.SpelledValues.{spelled_values}
use Rattle.rsb_commands.proofs.laws.spelled_commands_have_replies.Goals as goal

pub returns : goal.returns
returns c = λ input commands spelled.
    replies_exist _ _ (signed_value w32) (signed-ranks w32) no_members commands
    (spelled_values (lines_with_words input) commands spelled)
