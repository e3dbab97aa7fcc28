use Rattle.std.proofs.Common.{◌∙◌, ◌+◌, ap, Some, None}
use Rattle.rsb_storage.specs.Storage.{runs_of}
use Rattle.rsb_storage.proofs.lemmas.runs.Found.{found-last, found-two}
use Rattle.rsb_storage.proofs.lemmas.runs.Maps.{runs-up_to}
use Rattle.rsb_storage.proofs.runs.Runs.last_two.Goals as goal

-- If the range has no entry, no run starts at or before the value.
pub returns-in_default-clause-two : goal.returns-in_default-clause-two
returns-in_default-clause-two g c =
    let rank = g.T.Integer.rank in
    let n = g.T.Integer.value_count in
    let laws = g.met.T.Integer in
    rw (← c.self.view_is)
    (found-last rank n (runs_of rank c.self.inside.map.entries) c.self.invariant
    (rank c.args.value + 1) c.range-entries.result c.last_run.new.entries None
    (ap (runs_of rank) (c.range-entries.ensures.between tt)
    ∙ runs-up_to g.T.Ord.cmp rank n laws.in_order c.args.value c.requires
    c.self.inside.map.entries c.self.invariant)
    c.in_default.ensures.run)

-- The last two entries of the range are those of the last two runs that start at or before the
-- value.
pub returns-clause-two : goal.returns-clause-two
returns-clause-two g c =
    let rank = g.T.Integer.rank in
    let n = g.T.Integer.value_count in
    let laws = g.met.T.Integer in
    rw (← c.self.view_is)
    (found-two rank n (runs_of rank c.self.inside.map.entries) c.self.invariant
    (rank c.args.value + 1) c.range-entries.result c.last_run.new.entries c.last_run-2.new.entries
    (Some c.in-Some.last) c.last_run-2.result
    (ap (runs_of rank) (c.range-entries.ensures.between tt)
    ∙ runs-up_to g.T.Ord.cmp rank n laws.in_order c.args.value c.requires
    c.self.inside.map.entries c.self.invariant)
    c.in-Some.ensures.run c.last_run-2.ensures.run)
