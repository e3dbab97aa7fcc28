use Rattle.std.proofs.Common.{◌∙◌, ap}
use Rattle.rsb_storage.specs.Storage.{runs_of}
use Rattle.rsb_storage.proofs.lemmas.runs.Maps.{runs-after}
use Rattle.rsb_storage.proofs.runs.Runs.starting_after.Goals as goal

-- The range has the entries past the value.
pub returns : goal.returns
returns g c =
    let laws = g.met.T.Integer in
    rw (← c.self.view_is)
    (ap (runs_of g.T.Integer.rank) (c.range.ensures.between tt)
    ∙ runs-after g.T.Ord.cmp g.T.Integer.rank g.T.Integer.value_count laws.in_order
    c.args.value c.requires c.self.inside.map.entries c.self.invariant)
