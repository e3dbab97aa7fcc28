use Rattle.std.proofs.Common.{arith, refl}
use Rattle.range_set_blaze.specs.Runs.{from_to}
use Rattle.ip_sets.proofs.lemmas.aligned.Biggest.{biggest-is}
use Rattle.ip_sets.proofs.blocks.numbers.biggest_at.Goals as goal
use lib.Count.{count_trailing_zeros}

-- The number ends in fewer zeros than would fit.
pub returns-then-zeros-fitting : goal.returns-then-zeros-fitting
returns-then-zeros-fitting c =
    let zeros = count_trailing_zeros 128 c.args.first in
    biggest-is (from_to c.args.first c.args.last) zeros c.greatest_power-fitting.result zeros
    c.requires (omega arith) refl c.greatest_power-fitting.ensures.fits
    c.greatest_power-fitting.ensures.greatest (omega arith) (omega arith)
    (λ more by_zeros by_fitting. by_zeros)

-- As much fits as the number has zeros at its end, or less.
pub returns : goal.returns
returns c =
    let zeros = count_trailing_zeros 128 c.args.first in
    let fitting = c.greatest_power-fitting.result in
    biggest-is (from_to c.args.first c.args.last) zeros fitting fitting
    c.requires (omega arith) refl c.greatest_power-fitting.ensures.fits
    c.greatest_power-fitting.ensures.greatest (omega arith) (omega arith)
    (λ more by_zeros by_fitting. by_fitting)
