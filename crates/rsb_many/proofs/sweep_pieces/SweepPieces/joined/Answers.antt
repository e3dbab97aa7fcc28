use Rattle.std.proofs.Common.{arith}
use Rattle.rsb_many.proofs.lemmas.pieces.Joined.{joined-made, joined-ready, pieces-ready}
use Rattle.rsb_many.proofs.sweep_pieces.SweepPieces.joined.Goals as goal

-- The pieces of a sweep that was just built are ready.
pub new-requires : goal.new-requires
new-requires g c =
    let some = g.met.T.Integer.some_values in
    pieces-ready g.T.Integer g.I.Draw c.args.sweep c.args.rule c.over.result
    c.over.ensures.sweep c.over.ensures.rule c.over.ensures.depth c.over.ensures.start
    c.over.ensures.done c.requires.0 c.requires.1 (omega (arith, some))

-- Joined, they are ready.
pub returns-clause-ready : goal.returns-clause-ready
returns-clause-ready g c = joined-ready g.T.Integer g.I.Draw c.args.sweep c.args.rule
    c.over.result c.over.ensures.sweep c.over.ensures.rule c.over.ensures.depth
    c.over.ensures.start c.over.ensures.done c.requires.0 c.requires.1 c.new.result
    c.new.ensures.undrawn c.new.ensures.ready

-- They are what the rule selects from the streams.
pub returns-clause-begun : goal.returns-clause-begun
returns-clause-begun g c streams over = joined-made g.T.Integer g.I.Draw c.args.sweep
    c.args.rule c.over.result c.over.ensures.sweep c.over.ensures.rule c.over.ensures.depth
    c.over.ensures.start c.over.ensures.done streams over c.new.result c.new.ensures.undrawn
    c.new.ensures.ready c.new.ensures.gives
