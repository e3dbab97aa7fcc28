use Rattle.std.proofs.Common.{arith}
use Rattle.ip_sets.proofs.lemmas.spelling.Groups.{shifted_room}
use Rattle.ip_sets.proofs.line.groups.elided.Goals as goal

-- The last groups find room after the first ones.
pub overflow_add-result : goal.overflow_add-result
overflow_add-result c =
    let room = shifted_room c.args.first.count c.args.last.count c.args.first.number
    c.args.last.number c.requires.room c.requires.first_fits c.requires.last_fits in
    omega (arith, room)

pub returns : goal.returns
returns c =
    let room = shifted_room c.args.first.count c.args.last.count c.args.first.number
    c.args.last.number c.requires.room c.requires.first_fits c.requires.last_fits in
    omega (arith, room)
