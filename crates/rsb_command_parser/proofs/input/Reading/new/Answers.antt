use Rattle.rsb_command_parser.proofs.lemmas.reading.Parts.{HasLines-nil}
use Rattle.rsb_command_parser.proofs.input.Reading.new.Goals as goal

-- Nothing was read yet.
pub returns : goal.returns
returns g c = rw (c.new.ensures.items, c.new-2.ensures.items) HasLines-nil
