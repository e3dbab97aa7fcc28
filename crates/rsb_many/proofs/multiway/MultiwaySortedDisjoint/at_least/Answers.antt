use Rattle.rsb_many.proofs.lemmas.inputs.HandedIn.{gave-each}
use Rattle.rsb_many.specs.MultiwayAtLeast.{multiway_at_least, GivesRunsOfAllAtMost, MakesMultiwayAtLeast}
use Rattle.rsb_many.specs.MultiwayBegun.{BeginsAtLeast}
use Rattle.rsb_many.specs.MultiwaySweep.{BeginsSweep}
use Rattle.rsb_many.proofs.multiway.MultiwaySortedDisjoint.at_least.Goals as goal

-- The sweep is over the streams that were passed.
pub of-requires : goal.of-requires
of-requires g c =
    let gave = c.in_ok-sweep.ensures.begun in
    (gave.2.0.items, gave.2.3)

-- What it gives lies in at least `k` of these.
pub returns-clause-made : goal.returns-clause-made
returns-clause-made g c = gave-each g.Self.IntoIterator.into_iter_gives
    g.Self.IntoIter.Iterator.next_gives c.args.self
    (λ streams. BeginsSweep g.T.Integer g.I.Draw streams c.in_ok-sweep.sweep)
    (λ streams. MakesMultiwayAtLeast g.T.Integer g.I.Draw c.args.k
    (multiway_at_least g.T.Integer g.I.Draw) streams c.of.result)
    (λ streams begins. (c.of.ensures.begun streams begins).made) c.in_ok-sweep.ensures.begun

-- It draws nothing more from them.
pub returns-clause-begun : goal.returns-clause-begun
returns-clause-begun g c = gave-each g.Self.IntoIterator.into_iter_gives
    g.Self.IntoIter.Iterator.next_gives c.args.self
    (λ streams. BeginsSweep g.T.Integer g.I.Draw streams c.in_ok-sweep.sweep)
    (λ streams. BeginsAtLeast g.T.Integer g.I.Draw c.args.k
    (multiway_at_least g.T.Integer g.I.Draw) streams c.of.result)
    c.of.ensures.begun c.in_ok-sweep.ensures.begun

-- It gives at most as many runs as they give together.
pub returns-clause-run_count : goal.returns-clause-run_count
returns-clause-run_count g c positive = gave-each g.Self.IntoIterator.into_iter_gives
    g.Self.IntoIter.Iterator.next_gives c.args.self
    (λ streams. BeginsSweep g.T.Integer g.I.Draw streams c.in_ok-sweep.sweep)
    (λ streams. GivesRunsOfAllAtMost c.args.k g.T.Integer.value_count g.I.Draw.may_give streams
    ((multiway_at_least g.T.Integer g.I.Draw).may_give c.of.result))
    (λ streams over. c.of.ensures.run_count streams over positive) c.in_ok-sweep.ensures.begun
