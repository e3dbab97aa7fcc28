use Rattle.std.proofs.Common.{◌∙◌, ◌+◌, ap}
use Rattle.rsb_storage.specs.Storage.{runs_of}
use Rattle.rsb_storage.proofs.lemmas.runs.Found.{found-last}
use Rattle.rsb_storage.proofs.lemmas.runs.Maps.{runs-up_to}
use Rattle.rsb_storage.proofs.runs.Runs.up_to.Goals as goal

-- The last entry of the range is that of the last run that starts at or before the value.
pub returns : goal.returns
returns g c =
    let rank = g.T.Integer.rank in
    let n = g.T.Integer.value_count in
    let laws = g.met.T.Integer in
    rw (← c.self.view_is)
    (found-last rank n (runs_of rank c.self.inside.map.entries) c.self.invariant
    (rank c.args.value + 1) c.range-entries.result c.last_run.new.entries c.last_run.result
    (ap (runs_of rank) (c.range-entries.ensures.between tt)
    ∙ runs-up_to g.T.Ord.cmp rank n laws.in_order c.args.value c.requires
    c.self.inside.map.entries c.self.invariant)
    c.last_run.ensures.run)
