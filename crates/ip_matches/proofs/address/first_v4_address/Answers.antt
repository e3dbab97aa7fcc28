use Rattle.std.proofs.Common.{◌+◌, Some, arith, eqb, length-drop, sym}
use Rattle.std.proofs.lemmas.List.{take_rest}
use Rattle.ip_sets.specs.Address.{IsV4}
use Rattle.ip_matches.proofs.lemmas.FirstAddress.{first_in_all, first_in_part, first_past_part}
use Rattle.ip_matches.proofs.address.first_v4_address.Goals as goal

-- A part is an address.
pub returns-in-Some-v4_address : goal.returns-in-Some-v4_address
returns-in-Some-v4_address c =
    c.loop-end.invariant.1 (Some c.in-Some-v4_address.address)
    (first_in_part IsV4 (λ byte. eqb byte 58) c.loop-end.rest.now c.in-Some.end
    (sym c.in-Some.ensures.place) c.in-Some-v4_address.address c.in-Some-v4_address.ensures)

-- One more part is none.
pub loop-end-preserved : goal.loop-end-preserved
loop-end-preserved c =
    let rest = c.loop-end.rest.now in
    rw take_rest (
      omega (arith, length-drop (c.in-Some.end + 1) rest, c.loop-end.invariant.0),
      λ result reads.
          c.loop-end.invariant.1 result
          (first_past_part IsV4 (λ byte. eqb byte 58) rest c.in-Some.end
          (sym c.in-Some.ensures.place) c.in_default-v4_address.ensures result reads),
    )

-- There are no more parts.
pub returns : goal.returns
returns c =
    c.loop-end.invariant.1 c.v4_address-2.result
    (first_in_all IsV4 (λ byte. eqb byte 58) c.loop-end.rest.now (sym c.in_default.ensures.place)
    c.v4_address-2.result c.v4_address-2.ensures)
