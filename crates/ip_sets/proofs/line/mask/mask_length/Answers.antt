use Rattle.std.proofs.Common.{◌≡◌, ◌∙◌, ℕ, ◌+◌, ◌-◌, ◌^◌, ◌<◌, ap, arith, sym}
use Rattle.ip_sets.specs.AddressRange.{mask_of}
use Rattle.ip_sets.proofs.lemmas.spelling.Masks.{is_mask, no_mask, zeros_within}
use Rattle.ip_sets.proofs.line.mask.mask_length.Goals as goal

-- A number, and what is left up to the last one of a family, are together that last one.
both : (width count first last number : ℕ) → last ≡ first → first + 1 ≡ count → number < count
    → count ≡ 2 ^ width → number + (last - number) + 1 ≡ 2 ^ width
both width count first last number same next fits all = omega arith

-- The mask is at most the last address.
pub overflow_sub-others : goal.overflow_sub-others
overflow_sub-others g c =
    omega (arith, c.max_value.ensures, c.number-last.ensures.rank, c.number.ensures.fits)

-- It has at most as many zeros as bits.
pub ones-requires : goal.ones-requires
ones-requires g c =
    let all = both g.F.Address.width _ _ c.number-last.result c.number.result
    c.number-last.ensures.rank c.max_value.ensures c.number.ensures.fits
    g.met.F.Address.all_numbers in
    let within = zeros_within g.F.Address.width c.number.result _ c.greatest_power-free.result all
    c.greatest_power-free.ensures.fits in
    omega (arith, within, g.met.F.Family.fits)

pub overflow_sub-result : goal.overflow_sub-result
overflow_sub-result g c =
    let all = both g.F.Address.width _ _ c.number-last.result c.number.result
    c.number-last.ensures.rank c.max_value.ensures c.number.ensures.fits
    g.met.F.Address.all_numbers in
    let within = zeros_within g.F.Address.width c.number.result _ c.greatest_power-free.result all
    c.greatest_power-free.ensures.fits in
    omega (arith, within, c.bits.ensures)

-- A one comes after a zero.
pub returns-then-ones-others : goal.returns-then-ones-others
returns-then-ones-others g c = λ length h.
    let all = both g.F.Address.width _ _ c.number-last.result c.number.result
    c.number-last.ensures.rank c.max_value.ensures c.number.ensures.fits
    g.met.F.Address.all_numbers in
    no_mask g.F.Address.width c.number.result _ c.greatest_power-free.result all
    c.greatest_power-free.ensures.fits c.greatest_power-free.ensures.greatest
    (λ is. c.if-ones-others.true (omega (arith, is, c.ones.ensures))) length h.1
    (c.number.ensures.rank ∙ h.0)

-- All zeros come after the ones.
pub returns : goal.returns
returns g c =
    let all = both g.F.Address.width _ _ c.number-last.result c.number.result
    c.number-last.ensures.rank c.max_value.ensures c.number.ensures.fits
    g.met.F.Address.all_numbers in
    let within = zeros_within g.F.Address.width c.number.result _ c.greatest_power-free.result all
    c.greatest_power-free.ensures.fits in
    let is = is_mask g.F.Address.width c.number.result _ c.greatest_power-free.result all
    (omega (arith, c.ones.ensures, c.if-ones-others.false)) in
    let zeros : mask_of g.F.Address.width (g.F.Address.width - c.greatest_power-free.result)
    ≡ mask_of g.F.Address.width (c.bits.result - c.greatest_power-free.result) =
    ap (λ bits. mask_of g.F.Address.width (bits - c.greatest_power-free.result))
    (sym c.bits.ensures) in
    (sym c.number.ensures.rank ∙ is ∙ zeros, omega (arith, c.bits.ensures))
