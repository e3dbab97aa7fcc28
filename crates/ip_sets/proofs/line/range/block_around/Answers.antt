use Rattle.std.proofs.Common.{◌∙◌, ◌-◌, ◌^◌, ◌<◌, ap, arith, sym}
use Rattle.std.proofs.Math.Pow.{pow_mono}
use Rattle.ip_sets.proofs.lemmas.spelling.Blocks.{last_fits, low_bits, masked_end, masked_start, shifted_size, whole_end, whole_start}
use Rattle.ip_sets.proofs.line.range.block_around.Goals as goal

-- All addresses.
pub returns-then-length-eq0 : goal.returns-then-length-eq0
returns-then-length-eq0 g c =
    let rank = g.F.Integer.rank in
    let width = g.F.Address.width in
    let number = rank c.args.address in
    let none = c.if-length-eq0.true in
    let all = g.met.F.Address.all_numbers in
    let below : number < 2 ^ width =
    omega (arith, c.number-number.ensures.rank, c.number-number.ensures.fits, all) in
    record {
      start = ap rank c.new.ensures.start ∙ c.min_value.ensures
          ∙ sym (whole_start width c.args.length number none below);
      end = ap rank c.new.ensures.end
          ∙ whole_end width c.args.length number (rank c.max_value.result) none below
          (c.max_value.ensures ∙ all);
      fresh = c.new.ensures.exhausted;
    }

-- The block starts and ends within the type.
pub from_number-requires : goal.from_number-requires
from_number-requires g c = omega (arith, c.number-number.ensures.fits)

pub overflow_add-first : goal.overflow_add-first
overflow_add-first g c =
    let width = g.F.Address.width in
    let fits = g.met.F.Family.fits in
    let all = g.met.F.Address.all_numbers in
    let some = c.if-length-eq0.false in
    let number = c.number-number.result in
    let size = shifted_size width c.args.length c.bits.result c.bits.ensures fits
    (omega (arith, some)) c.requires in
    let last = last_fits width c.args.length number _ c.requires
    (omega (arith, c.number-number.ensures.fits, all)) size in
    let low = low_bits number _ (width - c.args.length) size in
    let most = pow_mono fits in
    omega (arith, last, low, most)

pub from_number-requires-2 : goal.from_number-requires-2
from_number-requires-2 g c =
    let width = g.F.Address.width in
    let all = g.met.F.Address.all_numbers in
    let some = c.if-length-eq0.false in
    let number = c.number-number.result in
    let size = shifted_size width c.args.length c.bits.result c.bits.ensures g.met.F.Family.fits
    (omega (arith, some)) c.requires in
    let last = last_fits width c.args.length number _ c.requires
    (omega (arith, c.number-number.ensures.fits, all)) size in
    let low = low_bits number _ (width - c.args.length) size in
    omega (arith, last, low, all)

-- The start has no low bits, and the end has all of them.
pub returns : goal.returns
returns g c =
    let rank = g.F.Integer.rank in
    let width = g.F.Address.width in
    let some = c.if-length-eq0.false in
    let same = c.number-number.ensures.rank in
    let size = shifted_size width c.args.length c.bits.result c.bits.ensures g.met.F.Family.fits
    (omega (arith, some)) c.requires in
    record {
      start = ap rank c.new-2.ensures.start ∙ c.from_number.ensures
          ∙ masked_start width c.args.length (rank c.args.address) _ _ same size;
      end = ap rank c.new-2.ensures.end ∙ c.from_number-2.ensures
          ∙ masked_end width c.args.length (rank c.args.address) _ _ same size;
      fresh = c.new-2.ensures.exhausted;
    }
