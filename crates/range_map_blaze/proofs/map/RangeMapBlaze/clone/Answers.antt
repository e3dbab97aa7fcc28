use Rattle.std.proofs.Common.{subst}
use Rattle.range_map_blaze.specs.Map.{PutsAll}
use Rattle.range_map_blaze.proofs.lemmas.Pairs.{copied-same}
use Rattle.range_map_blaze.proofs.map.RangeMapBlaze.clone.Goals as goal

-- A copy of all pieces is the same map.
pub returns : goal.returns
returns g c =
    copied-same g.T.Integer.value_count c.args.self.now c.copy_all.new.self
    c.ranges_len-2.ensures.canonical c.ranges_len.ensures.canonical
    (subst (λ old. PutsAll old c.args.self.now c.copy_all.new.self) c.new-map.ensures
    c.in_ok-copy_all.ensures)
