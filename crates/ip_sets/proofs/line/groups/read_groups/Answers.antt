use Rattle.std.proofs.Common.{◌+◌, ◌*◌, ap, arith, refl}
use Rattle.ip_sets.proofs.lemmas.spelling.Groups.{no_groups, one_group_more, room_for_more}
use Rattle.ip_sets.proofs.line.groups.read_groups.Goals as goal

pub reading-init : goal.reading-init
reading-init c = no_groups c.args.bytes.now _ refl refl refl

-- Another group fits.
pub overflow_mul-read : goal.overflow_mul-read
overflow_mul-read c =
    let room = room_for_more c.reading.read.count c.reading.read.number 0 c.reading-test.true
    c.reading.invariant.fits (omega arith) in
    omega (arith, room)

pub overflow_add-read : goal.overflow_add-read
overflow_add-read c =
    let room = room_for_more c.reading.read.count c.reading.read.number c.in-Some.value
    c.reading-test.true c.reading.invariant.fits c.in-Some.ensures.fits in
    omega (arith, room, c.from.ensures)

pub reading-preserved : goal.reading-preserved
reading-preserved c =
    one_group_more c.args.bytes.now c.reading.read _ c.in-Some.value c.in-Some.rest.now
    c.reading.invariant c.in-Some.ensures.front c.reading-test.true c.in-Some.ensures.fits
    (ap (λ n. c.reading.read.number * 65536 + n) c.from.ensures) refl refl
