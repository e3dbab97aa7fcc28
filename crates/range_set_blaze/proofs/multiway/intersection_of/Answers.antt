use Rattle.std.proofs.Common.{◌<◌, length}
use Rattle.std.proofs.lemmas.List.Elements.{All-weaker}
use Rattle.rsb_integer.specs.Runs.{IsCanonicalIn}
use Rattle.range_set_blaze.proofs.lemmas.gathering.ManySets.{all_of-none, given-list, known-all}
use Rattle.rsb_integer.specs.Selection.{all_of}
use Rattle.rsb_many.specs.MultiwayIntersection.{multiway_intersection}
use Rattle.rsb_many.specs.MultiwayResults.{MakesMultiwayIntersection}
use Rattle.range_set_blaze.proofs.multiway.intersection_of.Goals as goal

-- The intersection gives only the runs of what is selected.
pub returns : goal.returns
returns g c =
    let streams = c.in_ok-streams.streams.items in
    let gave = c.in_ok-intersection.ensures.made in
    let made = given-list streams gave.0 (λ each. MakesMultiwayIntersection g.T.Integer g.S.Stream.Draw
    (multiway_intersection g.T.Integer g.S.Stream.Draw) each c.in_ok-intersection.intersection) gave.1.0 gave.1.3 gave.2 in
    let known = known-all g.T.Integer.value_count g.S.Stream.Draw.may_give g.S.GivesRuns.given g.met.S.GivesRuns.known
    g.K.IntoIterator.into_iter_gives g.K.IntoIter.Iterator.next_gives c.args.sets g.S.GivesRuns.shown
    streams c.in_ok-streams.ensures.given c.from_sorted_disjoint.result _
    c.from_sorted_disjoint.ensures.runs all_of made.gives (λ sets. 0 < length sets)
    (All-weaker g.S.Stream.Draw.can_draw
    (λ s. IsCanonicalIn g.T.Integer.value_count (g.S.GivesRuns.given s))
    g.met.S.GivesRuns.canonical streams c.in_ok-streams.ensures.ready)
    (λ rank some none. all_of-none _ rank some none) in
    record { members = known.0; given = known.1; exactly = known.2 }
