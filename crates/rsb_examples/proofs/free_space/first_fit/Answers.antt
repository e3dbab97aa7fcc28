use Rattle.std.proofs.Common.{◌<◌, sym, subst, refl}
use Rattle.range_set_blaze.specs.FirstFit.{IsFree}
use Rattle.rsb_examples.proofs.free_space.first_fit.Goals as goal

-- No gap is long enough, so no block is free.
pub returns-in_err-gap-clause-none : goal.returns-in_err-gap-clause-none
returns-in_err-gap-clause-none c = λ none start free.
    c.in_err-gap.ensures.nowhere refl start
    (subst (λ len. 0 < len) (sym c.from.ensures) c.requires)
    (subst (λ len. IsFree 65536 c.args.taken.now start len) (sym c.from.ensures) free)

-- All gaps before are shorter, so no block before is free.
pub returns-clause-first : goal.returns-clause-first
returns-clause-first c = λ lower before free.
    c.in_ok-gap.ensures.lowest lower (subst (λ start. lower < start) c.start.ensures before)
    (subst (λ len. 0 < len) (sym c.from.ensures) c.requires)
    (subst (λ len. IsFree 65536 c.args.taken.now lower len) (sym c.from.ensures) free)
