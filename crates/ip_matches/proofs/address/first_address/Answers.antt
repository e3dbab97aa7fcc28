use Rattle.std.proofs.Common.{◌+◌, Some, arith, length-drop, sym}
use Rattle.std.proofs.lemmas.List.{take_rest}
use Rattle.ip_matches.specs.FoundAddress.{IsWordAddress, is_word_byte}
use Rattle.std.specs.Prelude.{not}
use Rattle.ip_matches.proofs.lemmas.FirstAddress.{first_in_all, first_in_part, first_past_part}
use Rattle.ip_matches.proofs.address.first_address.Goals as goal

-- A word has an address.
pub returns-in-Some-word_address : goal.returns-in-Some-word_address
returns-in-Some-word_address c =
    c.loop-end.invariant.1 (Some c.in-Some-word_address.address)
    (first_in_part IsWordAddress (λ byte. not (is_word_byte byte)) c.loop-end.rest.now c.in-Some.end
    (sym c.in-Some.ensures.place) c.in-Some-word_address.address
    c.in-Some-word_address.ensures)

-- One more word has none.
pub loop-end-preserved : goal.loop-end-preserved
loop-end-preserved c =
    let rest = c.loop-end.rest.now in
    rw take_rest (
      omega (arith, length-drop (c.in-Some.end + 1) rest, c.loop-end.invariant.0),
      λ result reads.
          c.loop-end.invariant.1 result
          (first_past_part IsWordAddress (λ byte. not (is_word_byte byte)) rest c.in-Some.end
          (sym c.in-Some.ensures.place) c.in_default-word_address.ensures result reads),
    )

-- There are no more words.
pub returns : goal.returns
returns c =
    c.loop-end.invariant.1 c.word_address-2.result
    (first_in_all IsWordAddress (λ byte. not (is_word_byte byte)) c.loop-end.rest.now
    (sym c.in_default.ensures.place) c.word_address-2.result c.word_address-2.ensures)
