use Rattle.std.proofs.Common.{arith}
use Rattle.ip_sets.proofs.lemmas.spelling.Groups.{eight_groups, elided_groups}
use Rattle.ip_sets.proofs.line.family.U128Family.read.Goals as goal

-- Eight groups are an address.
pub returns-then-first-eq8 : goal.returns-then-first-eq8
returns-then-first-eq8 c =
    eight_groups c.args.bytes.now c.read_groups-first.result c.read_groups-first.ensures c.if-first-eq8.true

-- Groups on each side of two colons are an address.
pub returns : goal.returns
returns c =
    elided_groups c.args.bytes.now c.in_ok-after.field-0.now c.in_ok-after-2.field-0.now
    c.read_groups-first.result c.read_groups-last.result c.elided.result c.read_groups-first.ensures
    c.in_ok-after.ensures c.in_ok-after-2.ensures c.read_groups-last.ensures
    (omega (arith, c.if-first-last-gt7.false)) c.elided.ensures
