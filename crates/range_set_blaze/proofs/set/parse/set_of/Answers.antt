use Rattle.rsb_integer.specs.Rank.{intervals_of}
use Rattle.rsb_integer.specs.Runs.{members}
use Rattle.rsb_many.proofs.lemmas.inputs.GivenList.{given-list}
use Rattle.rsb_storage.specs.Set.{IsSetOf}
use Rattle.range_set_blaze.proofs.set.parse.set_of.Goals as goal

-- A list always ends.
pub from_iter-requires : goal.from_iter-requires
from_iter-requires g c = record { ready = λ iter becomes. (tt, tt) }

-- The ranges that it gives are all of its items.
pub returns-clause-members : goal.returns-clause-members
returns-clause-members g c =
    let gave = c.in_ok-set.ensures.runs in
    given-list c.args.ranges.items gave.0 (λ items. IsSetOf c.in_ok-set.set
    (members (intervals_of g.T.Integer.rank items))) gave.1.0 gave.1.3 gave.2

pub returns-clause-runs : goal.returns-clause-runs
returns-clause-runs g c = c.ranges_len.ensures.runs
