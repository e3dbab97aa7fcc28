use Rattle.std.proofs.Common.{arith}
use Rattle.rsb_integer.proofs.lemmas.Runs.{runs-along}
use Rattle.rsb_commands.proofs.lemmas.replying.KeptSets.{sets_of-put}
use Rattle.rsb_commands.proofs.interpreter.put_set.Goals as goal

pub returns-clause-put : goal.returns-clause-put
returns-clause-put g c = λ selected has.
    rw (← c.index.ensures.place)
    (sets_of-put c.args.sets.now.items c.index.result c.args.set selected (omega arith) has)

-- The runs of the set are the runs of every selection with the same members.
pub returns-clause-runs : goal.returns-clause-runs
returns-clause-runs g c = λ selected has.
    let counted = c.ranges_len-runs.ensures in record {
      all = c.args.set;
      are = runs-along g.T.Integer.value_count _ selected c.args.set (λ rank below. has rank)
          counted.runs;
      counted = counted.length;
    }
