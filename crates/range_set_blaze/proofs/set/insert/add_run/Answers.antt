use Rattle.std.proofs.Common.{refl}
use Rattle.range_set_blaze.proofs.lemmas.insertion.Joining.{hull-adds}
use Rattle.rsb_storage.specs.Storage.{run_of}
use Rattle.range_set_blaze.proofs.set.insert.add_run.Goals as goal

-- If some run has all the values, nothing is put.
pub returns-in_default-clause-unchanged : goal.returns-in_default-clause-unchanged
returns-in_default-clause-unchanged g c none = refl

pub returns-in_default-clause-within : goal.returns-in_default-clause-within
returns-in_default-clause-within g c none = c.in_default.ensures.within refl

pub put-requires-clause-joining : goal.put-requires-clause-joining
put-requires-clause-joining g c = c.in-Some.ensures.joining

-- If an allocation fails, no run contains or touches the start.
pub returns-in_err-put-clause-succeeds : goal.returns-in_err-put-clause-succeeds
returns-in_err-put-clause-succeeds g c reached =
    let fails = c.in_err-put.ensures.succeeds (c.in-Some.ensures.first reached) in absurd (cc)

-- The joined run has the values of the new one, and otherwise only members.
pub returns-clause-inserted : goal.returns-clause-inserted
returns-clause-inserted g c = record {
  kept = c.in_ok-put.ensures.kept;
  adds = hull-adds c.args.runs.now c.put.new.runs (run_of g.T.Integer.rank c.args.run)
      (run_of g.T.Integer.rank c.in-Some.joining.joined) c.in-Some.ensures.hull
      c.in_ok-put.ensures.adds;
  lacks = c.in-Some.ensures.lacks;
}
