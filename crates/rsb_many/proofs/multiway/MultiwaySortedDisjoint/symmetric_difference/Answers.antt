use Rattle.rsb_many.proofs.lemmas.inputs.HandedIn.{gave-each}
use Rattle.rsb_many.specs.MultiwayBegun.{BeginsSymmetricDifference}
use Rattle.rsb_many.specs.MultiwayResults.{MakesMultiwaySymmetricDifference}
use Rattle.rsb_many.specs.MultiwaySweep.{BeginsSweep}
use Rattle.rsb_many.specs.MultiwaySymmetricDifference.{multiway_symmetric_difference}
use Rattle.rsb_many.proofs.multiway.MultiwaySortedDisjoint.symmetric_difference.Goals as goal

-- The sweep is over the streams that were passed.
pub of-requires : goal.of-requires
of-requires g c =
    let gave = c.in_ok-sweep.ensures.begun in
    (gave.2.0.items, gave.2.3)

-- What it gives lies in an odd number of these.
pub returns-clause-made : goal.returns-clause-made
returns-clause-made g c = gave-each g.Self.IntoIterator.into_iter_gives
    g.Self.IntoIter.Iterator.next_gives c.args.self
    (λ streams. BeginsSweep g.T.Integer g.I.Draw streams c.in_ok-sweep.sweep)
    (λ streams. MakesMultiwaySymmetricDifference g.T.Integer g.I.Draw
    (multiway_symmetric_difference g.T.Integer g.I.Draw) streams c.of.result)
    (λ streams begins. (c.of.ensures.begun streams begins).made) c.in_ok-sweep.ensures.begun

-- It draws nothing more from them.
pub returns-clause-begun : goal.returns-clause-begun
returns-clause-begun g c = gave-each g.Self.IntoIterator.into_iter_gives
    g.Self.IntoIter.Iterator.next_gives c.args.self
    (λ streams. BeginsSweep g.T.Integer g.I.Draw streams c.in_ok-sweep.sweep)
    (λ streams. BeginsSymmetricDifference g.T.Integer g.I.Draw
    (multiway_symmetric_difference g.T.Integer g.I.Draw) streams c.of.result)
    c.of.ensures.begun c.in_ok-sweep.ensures.begun
