use Rattle.std.proofs.Common.{ℕ, List, refl, sym, ap, ◌∙◌, arith, length, get_or}
use Rattle.std.proofs.lemmas.Bool.{ltb-false}
use Rattle.range_set_bytes.proofs.lemmas.Header.{header-fault}
use Rattle.range_set_bytes.proofs.read.after_header.Goals as goal

-- The bytes end before the header does.
pub returns-in_default-clause-fault : goal.returns-in_default-clause-fault
returns-in_default-clause-fault g c =
    let past = ltb-false c.loop-place.place (length c.args.bytes.now) (sym c.in_default.ensures.lookup.0) in
    header-fault g.T.Integer.value_count c.args.bytes.now c.loop-place.place
    c.loop-place.invariant.same c.loop-place.invariant.within c.loop-place-test.true _ refl
    (λ less. absurd (omega (arith, past, less)))
    (omega (arith, past, c.loop-place.invariant.within))

-- The byte is not that of the header.
pub returns-then-byte-expected-clause-fault : goal.returns-then-byte-expected-clause-fault
returns-then-byte-expected-clause-fault g c =
    let n = g.T.Integer.value_count in
    let place = c.loop-place.place in
    let lookup = c.in-Some.ensures.lookup in
    header-fault n c.args.bytes.now place
    c.loop-place.invariant.same c.loop-place.invariant.within c.loop-place-test.true _ refl
    (λ less same. c.if-byte-expected.true (lookup.3.1 0 ∙ sym same
    ∙ ap (λ (header : List ℕ). get_or header place 0) (sym c.header_of-header.ensures)))
    (c.header_reason.ensures n c.args.bytes.now lookup.3.0)
