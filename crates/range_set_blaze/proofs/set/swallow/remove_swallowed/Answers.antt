use Rattle.std.proofs.Common.{arith, List, Option, MatchOption, sym, subst}
use Rattle.rsb_integer.specs.Runs.{Interval}
use Rattle.range_set_blaze.specs.Joining.{IsInside, KnowsInside, NoneInside}
use Rattle.rsb_storage.specs.Storage.{run_of}
use Rattle.rsb_storage.specs.declared.run.Run.{Run}
use Rattle.range_set_blaze.proofs.lemmas.insertion.TakingIn.{over-joined, without-inside}
use Rattle.range_set_blaze.proofs.set.swallow.remove_swallowed.Goals as goal

-- If no run starts inside the joined one, the runs are canonical.
pub returns-in_default-clause-canonical : goal.returns-in_default-clause-canonical
returns-in_default-clause-canonical g c =
    (over-joined _ _ _ _ c.requires.over (subst (λ (last : Option (Run g.row.T.Denot)).
    KnowsInside g.T.Integer.rank c.args.runs.now
    (run_of g.T.Integer.rank c.args.run) last c.args.before) c.in_default.is c.requires.inside)).more_canonical

pub returns-in_default-clause-counted : goal.returns-in_default-clause-counted
returns-in_default-clause-counted g c =
    let number = (over-joined _ _ _ _ c.requires.over (subst (λ (last : Option (Run g.row.T.Denot)).
    KnowsInside g.T.Integer.rank c.args.runs.now
    (run_of g.T.Integer.rank c.args.run) last c.args.before) c.in_default.is c.requires.inside)).counted
    in omega (arith, number, c.requires.over.counted)

-- The last of the runs inside is removed, and the one before it is next.
pub loop-next-init : goal.loop-next-init
loop-next-init g c =
    let rank = g.T.Integer.rank in
    let joined = run_of rank c.args.run in
    let old = c.args.runs.now in (
      c.remove_inside.ensures.over,
      c.remove_inside.ensures.members,
      subst (λ (runs : List Interval). MatchOption c.args.before (NoneInside runs joined)
          (λ run. IsInside runs joined (run_of rank run))) (sym c.remove_inside.ensures.left)
          (without-inside rank old joined c.in-Some.last c.args.before
          (subst (λ (last : Option (Run g.row.T.Denot)). KnowsInside rank old joined last c.args.before)
          c.in-Some.is c.requires.inside)),
    )

-- If no more runs start inside the joined one, the runs are canonical.
pub returns-clause-canonical : goal.returns-clause-canonical
returns-clause-canonical g c =
    let rank = g.T.Integer.rank in
    let runs = c.loop-next.runs in
    let joined = run_of rank c.args.run in
    (over-joined _ _ _ _ c.loop-next.invariant.0 (subst (λ (next : Option (Run g.row.T.Denot)).
    MatchOption next (NoneInside runs joined) (λ run. IsInside runs joined (run_of rank run)))
    c.in_default-next.is c.loop-next.invariant.2)).more_canonical

pub returns-clause-counted : goal.returns-clause-counted
returns-clause-counted g c =
    let rank = g.T.Integer.rank in
    let runs = c.loop-next.runs in
    let joined = run_of rank c.args.run in
    let number = (over-joined _ _ _ _ c.loop-next.invariant.0
    (subst (λ (next : Option (Run g.row.T.Denot)).
    MatchOption next (NoneInside runs joined) (λ run. IsInside runs joined (run_of rank run)))
    c.in_default-next.is c.loop-next.invariant.2)).counted in
    omega (arith, number, c.loop-next.invariant.0.counted)
