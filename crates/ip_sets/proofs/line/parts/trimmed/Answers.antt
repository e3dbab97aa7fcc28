use Rattle.std.proofs.Common.{refl}
use Rattle.std.proofs.lemmas.Str.Ascii.{trim_ascii_is}
use Rattle.ip_sets.specs.LineParts.{without_first_blanks}
use Rattle.ip_sets.proofs.line.parts.trimmed.Goals as goal

pub returns : goal.returns
returns c = trim_ascii_is c.args.bytes.now c.trim_ascii.result.now
    (without_first_blanks c.args.bytes.now) refl c.trim_ascii.ensures.value
