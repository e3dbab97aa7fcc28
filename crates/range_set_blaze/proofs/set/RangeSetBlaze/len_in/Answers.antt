use Rattle.std.proofs.Common.{◌∙◌, ap}
use Rattle.rsb_integer.specs.Runs.{members}
use Rattle.rsb_integer.proofs.lemmas.Count.{count-agree}
use Rattle.range_set_blaze.proofs.set.RangeSetBlaze.len_in.Goals as goal

-- The runs that are counted are those between the bounds.
pub returns : goal.returns
returns g c = λ has.
    let counted = c.members_len.ensures in
    counted.2
    ∙ count-agree g.T.Integer.value_count (members counted.0) _
    (λ rank below. ap (λ runs. members runs rank) counted.1 ∙ c.ranges_in.ensures.members has rank)
