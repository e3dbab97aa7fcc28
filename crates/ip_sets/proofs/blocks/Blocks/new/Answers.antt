use Rattle.std.proofs.Common.{refl}
use Rattle.ip_sets.proofs.lemmas.aligned.Left.{fresh-gives, fresh-ready}
use Rattle.ip_sets.proofs.blocks.Blocks.new.Goals as goal

pub returns-clause-ready : goal.returns-clause-ready
returns-clause-ready g c =
    fresh-ready g.T.Integer.rank g.T.Integer.value_count g.I.Draw.can_draw g.I.Draw.may_give
    c.args.ranges _ refl refl c.requires (g.met.I.DrawDisjoint.canonical c.args.ranges c.requires)

pub returns-clause-gives : goal.returns-clause-gives
returns-clause-gives g c =
    fresh-gives g.T.Integer.rank g.I.Draw.may_give c.args.ranges _ refl refl
