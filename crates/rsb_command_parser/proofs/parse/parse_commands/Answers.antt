use Rattle.rsb_command_parser.specs.Spelling.{lines_with_words}
use Rattle.rsb_command_parser.proofs.lemmas.reading.OneCommand.{one_list}
use Rattle.rsb_command_parser.proofs.parse.parse_commands.Goals as goal

-- The commands that were found are the only ones.
pub returns-clause-only : goal.returns-clause-only
returns-clause-only g c = λ others are.
    one_list (lines_with_words c.args.input.now) others _ are c.in_ok-commands.ensures.commands
