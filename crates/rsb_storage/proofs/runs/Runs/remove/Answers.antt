use Rattle.std.proofs.Common.{◌∙◌, ap, sym, subst}
use Rattle.rsb_storage.specs.Storage.{runs_of}
use Rattle.rsb_storage.specs.Starts.{StartsAscendFrom}
use Rattle.rsb_storage.proofs.lemmas.runs.Maps.{runs-remove_entry}
use Rattle.rsb_storage.proofs.lemmas.runs.Starts.{starting-ascending}
use Rattle.rsb_storage.proofs.runs.Runs.remove.Goals as goal

-- The entry with this start is removed.
pub returns : goal.returns
returns g c =
    let laws = g.met.T.Integer in
    rw (← c.self.view_is)
    (ap (runs_of g.T.Integer.rank) c.remove.ensures.entries
    ∙ runs-remove_entry g.T.Ord.cmp g.T.Integer.rank g.T.Integer.value_count laws.in_order
    c.args.start c.requires 0 c.self.inside.map.entries c.self.invariant)

-- The starts of the others ascend.
pub invariant_of-self : goal.invariant_of-self
invariant_of-self g c =
    let laws = g.met.T.Integer in
    subst (StartsAscendFrom g.T.Integer.value_count 0)
    (sym (ap (runs_of g.T.Integer.rank) c.remove.ensures.entries
    ∙ runs-remove_entry g.T.Ord.cmp g.T.Integer.rank g.T.Integer.value_count laws.in_order
    c.args.start c.requires 0 c.self.inside.map.entries c.self.invariant))
    (starting-ascending _ _ _ _ c.self.invariant)
