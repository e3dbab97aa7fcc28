-- The theorem on lists of ranges. It holds here because no two values have the same rank.
use Rattle.rsb_integer.proofs.lemmas.Range.{one_place, same_members}
use Rattle.rsb_integer.proofs.laws.equal_members_equal_lists.Goals as goal

pub returns : goal.returns
returns g c =
    let laws = g.met.T.Integer in
    same_members g.T.Integer.rank g.T.Integer.value_count
    (one_place g.T.Integer.rank g.T.Integer.value_count g.T.Ord.cmp laws.exact laws.in_order)
