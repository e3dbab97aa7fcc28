use Rattle.std.proofs.Common.{subst, sym}
use Rattle.rsb_streams.specs.Touching.{IsTouchingIn}
use Rattle.range_map_blaze.proofs.lemmas.Keys.{keys-members, keys-touch}
use Rattle.range_map_blaze.proofs.map.RangeMapBlaze.ranges.Goals as goal

-- The ranges may touch, and do not overlap.
pub joined-requires : goal.joined-requires
joined-requires g c =
    subst (IsTouchingIn g.T.Integer.value_count) (sym c.key_ranges.ensures)
    (keys-touch g.T.Integer.value_count c.self.inside.pieces c.self.invariant)

-- The keys are their members.
pub returns-clause-keys : goal.returns-clause-keys
returns-clause-keys g c rank = keys-members c.args.self.now rank

-- They are joined.
pub returns-clause-gives : goal.returns-clause-gives
returns-clause-gives g c = rw (← c.self.view_is, ← c.key_ranges.ensures) c.joined.ensures.gives
