use Rattle.std.proofs.lemmas.List.Elements.{All-weaker}
use Rattle.rsb_integer.specs.Runs.{IsCanonicalIn}
use Rattle.rsb_many.specs.MultiwayAtLeast.{multiway_at_least, GivesRunsOfAllAtMost, MakesMultiwayAtLeast}
use Rattle.range_set_blaze.proofs.lemmas.gathering.ManySets.{given-list, known-at_least}
use Rattle.range_set_blaze.proofs.multiway.at_least_of.Goals as goal

-- The stream gives only the runs of what is selected, and at most as many as all streams together.
pub returns : goal.returns
returns g c =
    let n = g.T.Integer.value_count in
    let given = g.S.GivesRuns.given in
    let stream = g.S.Stream.Draw in
    let streams = c.in_ok-streams.streams.items in
    let deep = multiway_at_least g.T.Integer stream in
    let gives = deep.may_give c.in_ok-deep.deep in
    let gave = c.in_ok-deep.ensures.made in
    let made = given-list streams gave.0 (λ each. MakesMultiwayAtLeast g.T.Integer stream c.args.k deep
    each c.in_ok-deep.deep) gave.1.0 gave.1.3 gave.2 in
    let known = known-at_least n stream.may_give given g.met.S.GivesRuns.known
    g.K.IntoIterator.into_iter_gives g.K.IntoIter.Iterator.next_gives c.args.sets g.S.GivesRuns.shown
    streams c.in_ok-streams.ensures.given c.from_sorted_disjoint.result gives
    c.from_sorted_disjoint.ensures.runs c.args.k
    (All-weaker stream.can_draw (λ s. IsCanonicalIn n (given s)) g.met.S.GivesRuns.canonical streams
    c.in_ok-streams.ensures.ready) made.gives (λ positive.
    let few = c.in_ok-deep.ensures.run_count positive in
    given-list streams few.0 (λ each. GivesRunsOfAllAtMost c.args.k n stream.may_give each gives)
    few.1.0 few.1.3 few.2) in
    record { members = known.0; exactly = known.1; run_count = known.2; given = known.3 }
