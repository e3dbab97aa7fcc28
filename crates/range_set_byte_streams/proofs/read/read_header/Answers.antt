use Rattle.std.proofs.Common.{◌∙◌, ap, get_or, subst, sym, ℕ, List}
use Rattle.range_set_byte_streams.specs.Source.{Shows}
use Rattle.range_set_byte_streams.proofs.lemmas.Header.{header-cut, header-other}
use Rattle.range_set_byte_streams.proofs.read.read_header.Goals as goal

-- The bytes end before the header does.
pub returns-in_default-clause-fault : goal.returns-in_default-clause-fault
returns-in_default-clause-fault g c = λ bytes fault is told.
    let known = g.R.Read.remaining c.loop-place.input in
    let limit = g.R.BufRead.consumable_len c.peek.new.input in
    header-cut g.T.Integer.value_count bytes (g.R.Read.remaining c.args.input.now) known
    (g.R.Read.remaining c.peek.new.input) c.loop-place.place is c.loop-place.invariant
    c.loop-place-test.true c.in_ok-byte.ensures.kept limit
    (subst (Shows known limit) c.in_default.is c.in_ok-byte.ensures.shown) fault cc

-- The byte is not that of the header.
pub returns-then-byte-expected-clause-fault : goal.returns-then-byte-expected-clause-fault
returns-then-byte-expected-clause-fault g c = λ bytes fault is told.
    let n = g.T.Integer.value_count in
    let place = c.loop-place.place in
    let known = g.R.Read.remaining c.loop-place.input in
    let limit = g.R.BufRead.consumable_len c.peek.new.input in
    header-other n bytes (g.R.Read.remaining c.args.input.now) known
    (g.R.Read.remaining c.peek.new.input) place is c.loop-place.invariant
    c.loop-place-test.true c.in_ok-byte.ensures.kept limit c.in-Some.byte c.header_reason.result
    (subst (Shows known limit) c.in-Some.is c.in_ok-byte.ensures.shown)
    (λ same. c.if-byte-expected.true (same
    ∙ ap (λ (header : List ℕ). get_or header place 0) (sym c.header_of-header.ensures)))
    (c.header_reason.ensures n bytes) fault cc
