use Rattle.std.proofs.Common.{◌∙◌, List, ap, sym, arith, subst}
use Rattle.rsb_integer.specs.Runs.{Interval, members}
use Rattle.range_set_blaze.specs.Joining.{IsOver}
use Rattle.rsb_storage.specs.Storage.{run_of}
use Rattle.range_set_blaze.proofs.lemmas.insertion.TakingIn.{inside-counted, inside-some, over-within, over-without, without-members}
use Rattle.range_set_blaze.proofs.set.swallow.remove_inside.Goals as goal

-- The run is non-empty, and all of its members are counted.
pub subtract_length-requires-clause-some : goal.subtract_length-requires-clause-some
subtract_length-requires-clause-some g c =
    inside-some _ _ _ _ c.requires.over (run_of g.T.Integer.rank c.args.inside) c.requires.inside

pub subtract_length-requires-clause-fits : goal.subtract_length-requires-clause-fits
subtract_length-requires-clause-fits g c = over-within _ _ _ _ c.requires.over

pub subtract_length-requires-clause-counted : goal.subtract_length-requires-clause-counted
subtract_length-requires-clause-counted g c =
    inside-counted _ _ _ _ c.requires.over (run_of g.T.Integer.rank c.args.inside) c.requires.inside

pub returns-clause-over : goal.returns-clause-over
returns-clause-over g c =
    subst (λ (runs : List Interval). IsOver g.T.Integer.value_count runs
    (run_of g.T.Integer.rank c.args.run) (g.T.SafeLen.SafeLength.number c.subtract_length.new.length))
    (sym c.remove.ensures)
    (over-without _ _ _ _ c.requires.over (run_of g.T.Integer.rank c.args.inside) c.requires.inside _
    c.subtract_length.ensures)

pub returns-clause-members : goal.returns-clause-members
returns-clause-members g c rank =
    ap (λ (runs : List Interval). members runs rank) c.remove.ensures
    ∙ without-members _ _ _ _ c.requires.over (run_of g.T.Integer.rank c.args.inside)
    c.requires.inside rank

pub returns-clause-fewer : goal.returns-clause-fewer
returns-clause-fewer g c =
    let some = inside-some _ _ _ _ c.requires.over (run_of g.T.Integer.rank c.args.inside)
    c.requires.inside in
    omega (arith, some, c.subtract_length.ensures)
