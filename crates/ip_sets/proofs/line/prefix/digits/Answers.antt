use Rattle.std.proofs.lemmas.Fmt.{IsAscii-from_digits}
use Rattle.std.proofs.lemmas.Str.{IsUtf8-from_ascii}
use Rattle.ip_sets.proofs.line.prefix.digits.Goals as goal

-- Digits are ASCII, and so UTF-8.
pub returns-in-Err : goal.returns-in-Err
returns-in-Err c = λ written. c.in-Err.ensures.cases.0
    (IsUtf8-from_ascii c.args.text.now (IsAscii-from_digits c.args.text.now written.0.1))
