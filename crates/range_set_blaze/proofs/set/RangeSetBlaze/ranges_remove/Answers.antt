use Rattle.std.proofs.Common.{◌↔◌, IfOk, IsTrue, OnOk, subst, sym}
use Rattle.rsb_integer.specs.Runs.{members}
use Rattle.rsb_integer.specs.Selection.{intersection, IsEmpty}
use Rattle.rsb_storage.specs.Storage.{run_of}
use Rattle.range_set_blaze.specs.RemoveRanges.{HasSome, Lacks}
use Rattle.rsb_storage.specs.Set.{Removes}
use Rattle.range_set_blaze.proofs.lemmas.removal.Between.{covers-between}
use Rattle.range_set_blaze.proofs.set.RangeSetBlaze.ranges_remove.Goals as goal

-- The ranks between the bounds are those of the run.
pub returns-clause-members : goal.returns-clause-members
returns-clause-members g c has =
    subst (λ ranks. OnOk c.remove_run.result
    (Removes c.args.self.now c.remove_run.new.self ranks))
    (covers-between (run_of g.T.Integer.rank c.in-Some.run') _ _ (c.in-Some.ensures.start has)
    (c.in-Some.ensures.end has)) c.remove_run.ensures.members

pub returns-clause-removed : goal.returns-clause-removed
returns-clause-removed g c has =
    subst (λ ranks. IfOk c.remove_run.result
    (λ removed. IsTrue removed ↔ HasSome (members c.args.self.now) ranks))
    (covers-between (run_of g.T.Integer.rank c.in-Some.run') _ _ (c.in-Some.ensures.start has)
    (c.in-Some.ensures.end has)) c.remove_run.ensures.removed

-- So an allocation can fail only if some member lies between them, and the value past them is one.
pub returns-clause-nothing : goal.returns-clause-nothing
returns-clause-nothing g c has nothing =
    c.remove_run.ensures.nothing
    (subst (λ ranks. IsEmpty (intersection (members c.args.self.now) ranks))
    (sym (covers-between (run_of g.T.Integer.rank c.in-Some.run') _ _ (c.in-Some.ensures.start has)
    (c.in-Some.ensures.end has))) nothing)

pub returns-clause-succeeds : goal.returns-clause-succeeds
returns-clause-succeeds g c has lacks =
    c.remove_run.ensures.succeeds
    (subst (Lacks g.T.Integer.value_count c.args.self.now) (sym (c.in-Some.ensures.end has)) lacks)
