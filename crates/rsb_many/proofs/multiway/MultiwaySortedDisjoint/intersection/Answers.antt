use Rattle.rsb_many.proofs.lemmas.inputs.HandedIn.{gave-each}
use Rattle.rsb_many.specs.MultiwayBegun.{AreComplements, BeginsIntersection}
use Rattle.rsb_many.specs.MultiwayIntersection.{multiway_intersection}
use Rattle.rsb_many.specs.MultiwayResults.{MakesMultiwayIntersection}
use Rattle.rsb_many.proofs.multiway.MultiwaySortedDisjoint.intersection.Goals as goal

-- The intersection is of the streams whose complements were merged.
pub returns-clause-made : goal.returns-clause-made
returns-clause-made g c = gave-each g.Self.IntoIterator.into_iter_gives
    g.Self.IntoIter.Iterator.next_gives c.args.self
    (λ streams. AreComplements g.T.Integer g.I.Draw streams c.in_ok-gaps.gaps.items)
    (λ streams. MakesMultiwayIntersection g.T.Integer g.I.Draw
    (multiway_intersection g.T.Integer g.I.Draw) streams c.of.result)
    (λ streams are. (c.of.ensures.begun streams c.in_ok-gaps.gaps.items are
    c.in_ok-merge.ensures.begun).made)
    c.in_ok-gaps.ensures.made

-- It draws nothing more from these.
pub returns-clause-begun : goal.returns-clause-begun
returns-clause-begun g c = gave-each g.Self.IntoIterator.into_iter_gives
    g.Self.IntoIter.Iterator.next_gives c.args.self
    (λ streams. AreComplements g.T.Integer g.I.Draw streams c.in_ok-gaps.gaps.items)
    (λ streams. BeginsIntersection g.T.Integer g.I.Draw
    (multiway_intersection g.T.Integer g.I.Draw) streams c.of.result)
    (λ streams are. c.of.ensures.begun streams c.in_ok-gaps.gaps.items are
    c.in_ok-merge.ensures.begun)
    c.in_ok-gaps.ensures.made
