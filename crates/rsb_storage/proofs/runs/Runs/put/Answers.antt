use Rattle.std.proofs.Common.{◌∙◌, ap, arith, sym, subst}
use Rattle.rsb_storage.specs.Storage.{run_of, runs_of}
use Rattle.rsb_storage.specs.Starts.{StartsAscendFrom}
use Rattle.rsb_storage.proofs.lemmas.runs.Maps.{lookup-none, runs-insert_entry}
use Rattle.rsb_storage.proofs.lemmas.runs.Starts.{with_run-ascending}
use Rattle.rsb_storage.proofs.runs.Runs.put.Goals as goal

-- Only a new start may need an allocation.
pub returns-in_err-insert-clause-succeeds : goal.returns-in_err-insert-clause-succeeds
returns-in_err-insert-clause-succeeds g c other found starts =
    let laws = g.met.T.Integer in
    absurd (lookup-none g.T.Ord.cmp g.T.Integer.rank g.T.Integer.value_count laws.in_order
    c.args.run.start c.requires 0 c.self.inside.map.entries c.self.invariant
    c.in_err-insert.ensures.absent other (rw c.self.view_is found) starts)

-- The entry is inserted at its place.
pub returns-clause-runs : goal.returns-clause-runs
returns-clause-runs g c =
    let laws = g.met.T.Integer in
    rw (← c.self.view_is)
    (ap (runs_of g.T.Integer.rank) c.in_ok-insert.ensures.entries
    ∙ runs-insert_entry g.T.Ord.cmp g.T.Integer.rank g.T.Integer.value_count laws.in_order
    c.args.run.start c.args.run.end c.requires 0 c.self.inside.map.entries c.self.invariant)

-- The starts of the runs still ascend.
pub invariant_of-self-2 : goal.invariant_of-self-2
invariant_of-self-2 g c =
    let laws = g.met.T.Integer in
    subst (StartsAscendFrom g.T.Integer.value_count 0)
    (sym (ap (runs_of g.T.Integer.rank) c.in_ok-insert.ensures.entries
    ∙ runs-insert_entry g.T.Ord.cmp g.T.Integer.rank g.T.Integer.value_count laws.in_order
    c.args.run.start c.args.run.end c.requires 0 c.self.inside.map.entries c.self.invariant))
    (with_run-ascending _ _ (run_of g.T.Integer.rank c.args.run) _ c.self.invariant (omega arith)
    c.requires)
