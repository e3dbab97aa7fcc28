use Rattle.std.proofs.Common.{◌^◌, ◌<◌}
use Rattle.rsb_command_parser.proofs.lemmas.reading.Numbers.{HasDigits}
use Rattle.rsb_command_parser.proofs.parse.digits.Given as goal

abbrev pub invariant-loop-digit : goal.invariant-loop-digit
invariant-loop-digit l = HasDigits l.digits l.digit-index l.value × (l.value < 2 ^ 32)
