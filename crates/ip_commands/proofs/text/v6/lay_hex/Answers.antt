use Rattle.std.proofs.Common.{arith}
use Rattle.ip_commands.proofs.lemmas.Text.{hex-four, hex-one, hex-three, hex-two}
use Rattle.ip_commands.proofs.text.v6.lay_hex.Goals as goal

-- One digit.
pub returns-then-segment-lt16-clause-laid : goal.returns-then-segment-lt16-clause-laid
returns-then-segment-lt16-clause-laid c =
    let digits = hex-one c.args.segment (omega arith) in cc

-- Two digits.
pub returns-then-segment-lt256-clause-laid : goal.returns-then-segment-lt256-clause-laid
returns-then-segment-lt256-clause-laid c =
    let digits = hex-two c.args.segment (omega arith) (omega arith) in cc

-- Three digits.
pub returns-then-segment-lt4096-clause-laid : goal.returns-then-segment-lt4096-clause-laid
returns-then-segment-lt4096-clause-laid c =
    let digits = hex-three c.args.segment (omega arith) (omega arith) in cc

-- Four digits.
pub returns-clause-laid : goal.returns-clause-laid
returns-clause-laid c = let digits = hex-four c.args.segment (omega arith) in cc
