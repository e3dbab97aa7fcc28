use Rattle.rsb_streams.proofs.lemmas.filling.OneAnswer.{fresh-can, fresh-filled}
use Rattle.rsb_streams.proofs.sorted_disjoint.DrawDisjoint.fill_gaps.Goals as goal

pub returns-clause-ready : goal.returns-clause-ready
returns-clause-ready g c =
    let integer = g.met.T.Integer in
    fresh-can g.T.Integer g.Self.Draw c.args.self c.over.result
    c.min_value.result c.over.ensures.iter c.over.ensures.start c.min_value.ensures
    (g.met.Self.DrawDisjoint.canonical c.args.self c.requires) c.requires
    integer.some_values

pub returns-clause-gives : goal.returns-clause-gives
returns-clause-gives g c =
    fresh-filled g.T.Integer g.Self.Draw c.args.self c.over.result
    c.min_value.result c.over.ensures.iter c.over.ensures.start c.min_value.ensures
    (g.met.Self.DrawDisjoint.canonical c.args.self c.requires)
