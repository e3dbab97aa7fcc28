use Rattle.std.proofs.Common.{◌↔◌, IfOk, IsTrue, OnOk, arith, subst, sym}
use Rattle.std.proofs.lemmas.Bool.Decides.{nat_tests}
use Rattle.rsb_integer.specs.Runs.{members}
use Rattle.rsb_integer.specs.Selection.{LacksSome}
use Rattle.rsb_storage.specs.Set.{Adds, IsReached}
use Rattle.rsb_storage.specs.Storage.{run_of}
use Rattle.range_set_blaze.proofs.lemmas.removal.Between.{covers-between}
use Rattle.range_set_blaze.proofs.set.RangeSetBlaze.ranges_insert.Goals as goal

-- The start of the run is between the bounds, so there is a value to insert.
pub returns-clause-nothing : goal.returns-clause-nothing
returns-clause-nothing g c has nothing =
    let run = c.in-Some.run' in
    absurd (grind (
      arith,
      nat_tests,
      nothing (g.T.Integer.rank run.start),
      c.in-Some.ensures.start has,
      c.in-Some.ensures.end has,
      c.in-Some.ensures.order,
    ))

-- The ranks between the bounds are those of the run.
pub returns-clause-members : goal.returns-clause-members
returns-clause-members g c has =
    subst (λ ranks. OnOk c.insert_run.result
    (Adds c.args.self.now c.insert_run.new.self ranks))
    (covers-between (run_of g.T.Integer.rank c.in-Some.run') _ _ (c.in-Some.ensures.start has)
    (c.in-Some.ensures.end has)) c.insert_run.ensures.members

pub returns-clause-added : goal.returns-clause-added
returns-clause-added g c has =
    subst (λ ranks. IfOk c.insert_run.result
    (λ added. IsTrue added ↔ LacksSome (members c.args.self.now) ranks))
    (covers-between (run_of g.T.Integer.rank c.in-Some.run') _ _ (c.in-Some.ensures.start has)
    (c.in-Some.ensures.end has)) c.insert_run.ensures.added

-- The first of them is the start of the run.
pub returns-clause-succeeds : goal.returns-clause-succeeds
returns-clause-succeeds g c has reached =
    c.insert_run.ensures.succeeds
    (subst (IsReached c.args.self.now) (sym (c.in-Some.ensures.start has)) reached)
