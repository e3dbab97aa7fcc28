use Rattle.std.proofs.Common.{◌<◌, sym, subst, refl}
use Rattle.range_set_blaze.specs.FirstFit.{IsFree}
use Rattle.test_set_queries.proofs.set.first_fit.Blocks.take.Goals as goal

-- No gap is long enough, so no block is free.
pub returns-in_default-clause-full : goal.returns-in_default-clause-full
returns-in_default-clause-full g c = λ none start free.
    let len = g.T.SafeLen.SafeLength.number c.args.len in
    c.in_default.ensures.nowhere refl start c.requires
    (subst (λ taken. IsFree g.T.Integer.value_count taken start len) (sym c.self.view_is) free)

-- All gaps before are shorter, so no block before is free.
pub returns-clause-lowest : goal.returns-clause-lowest
returns-clause-lowest g c = λ lower before free.
    let len = g.T.SafeLen.SafeLength.number c.args.len in
    c.in-Some.ensures.lowest lower
    (subst (λ start. lower < g.T.Integer.rank start) c.start-start.ensures before) c.requires
    (subst (λ taken. IsFree g.T.Integer.value_count taken lower len) (sym c.self.view_is) free)
