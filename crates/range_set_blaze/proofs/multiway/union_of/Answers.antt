use Rattle.std.specs.Prelude.{⊤}
use Rattle.std.proofs.lemmas.List.Elements.{All-weaker}
use Rattle.rsb_integer.specs.Runs.{IsCanonicalIn}
use Rattle.range_set_blaze.proofs.lemmas.gathering.ManySets.{any_of-none, given-list, known-all}
use Rattle.rsb_integer.specs.Selection.{any_of}
use Rattle.rsb_many.specs.MultiwayResults.{MakesMultiwayUnion}
use Rattle.rsb_many.specs.MultiwayUnion.{multiway_union}
use Rattle.range_set_blaze.proofs.multiway.union_of.Goals as goal

-- The union gives only the runs of what is selected.
pub returns : goal.returns
returns g c =
    let streams = c.in_ok-streams.streams.items in
    let gave = c.in_ok-union.ensures.made in
    let made = given-list streams gave.0 (λ each. MakesMultiwayUnion g.T.Integer g.S.Stream.Draw
    (multiway_union g.T.Integer g.S.Stream.Draw) each c.in_ok-union.union) gave.1.0 gave.1.3 gave.2 in
    let known = known-all g.T.Integer.value_count g.S.Stream.Draw.may_give g.S.GivesRuns.given g.met.S.GivesRuns.known
    g.K.IntoIterator.into_iter_gives g.K.IntoIter.Iterator.next_gives c.args.sets g.S.GivesRuns.shown
    streams c.in_ok-streams.ensures.given c.from_sorted_disjoint.result _
    c.from_sorted_disjoint.ensures.runs any_of made.gives (λ sets. ⊤)
    (All-weaker g.S.Stream.Draw.can_draw
    (λ s. IsCanonicalIn g.T.Integer.value_count (g.S.GivesRuns.given s))
    g.met.S.GivesRuns.canonical streams c.in_ok-streams.ensures.ready)
    (λ rank some none. any_of-none _ rank none) in
    record { members = known.0; given = λ sets gives. known.2 sets gives tt }
