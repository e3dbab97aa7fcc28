use Rattle.std.proofs.Common.{arith}
use Rattle.ip_sets.proofs.lemmas.aligned.Powers.{pow-under}
use Rattle.ip_sets.proofs.lemmas.aligned.Split.{free-bits, split-part, split-whole}
use Rattle.ip_sets.proofs.blocks.span.Span.split.Goals as goal

-- The block is not larger than the type.
pub overflow_sub-block : goal.overflow_sub-block
overflow_sub-block g c =
    let within = free-bits c.number-first.result c.number-last.result _ _
    c.biggest_at-free.result g.T.Address.width c.number-last.ensures.rank c.requires.in_type
    g.met.T.Address.all_numbers c.biggest_at-free.ensures in
    omega (arith, within)

-- A number has 128 bits.
pub ones-requires : goal.ones-requires
ones-requires g c =
    let fits = c.biggest_at-free.ensures.fits in
    pow-under c.biggest_at-free.result 128 (omega (arith, fits))

-- The block is the whole span.
pub returns-then-end-last : goal.returns-then-end-last
returns-then-end-last g c =
    let within = free-bits c.number-first.result c.number-last.result _ _
    c.biggest_at-free.result g.T.Address.width c.number-last.ensures.rank c.requires.in_type
    g.met.T.Address.all_numbers c.biggest_at-free.ensures in
    split-whole g.T.Integer.rank g.T.Address.width c.args.self c.number-first.result
    c.number-last.result c.biggest_at-free.result c.bits.result c.ones.result
    c.number-first.ensures.rank c.number-last.ensures.rank c.biggest_at-free.ensures c.bits.ensures within
    c.ones.ensures c.if-end-last.true

-- A part of the span is left.
pub returns : goal.returns
returns g c =
    let within = free-bits c.number-first.result c.number-last.result _ _
    c.biggest_at-free.result g.T.Address.width c.number-last.ensures.rank c.requires.in_type
    g.met.T.Address.all_numbers c.biggest_at-free.ensures in
    split-part g.T.Integer.rank g.T.Address.width c.args.self c.number-first.result
    c.number-last.result c.biggest_at-free.result c.bits.result c.ones.result
    c.number-first.ensures.rank c.number-last.ensures.rank c.biggest_at-free.ensures c.bits.ensures within
    c.ones.ensures c.from_number.result c.if-end-last.false c.from_number.ensures
