use Rattle.std.proofs.Common.{◌≡◌, ◌∷◌, ◌++◌, ◌∙◌, [], ap, map, sym}
use Rattle.std.proofs.lemmas.List.{map-append}
use Rattle.std.proofs.lemmas.List.Elements.{All-nil, All-push}
use Rattle.rsb_many.proofs.lemmas.inputs.HandedIn.{ended-run}
use Rattle.range_set_blaze.proofs.multiway.streams_of.Goals as goal

-- No stream gives the runs of no set.
pub loop-set-init : goal.loop-set-init
loop-set-init g c = rw c.new-streams.ensures.items (record {
  ready = All-nil g.S.Stream.Draw.can_draw;
  given = sym g.met.S.GivesRuns.none;
})

-- The new stream gives the runs of the next set.
pub loop-set-preserved : goal.loop-set-preserved
loop-set-preserved g c =
    let given = g.S.GivesRuns.given in
    let before = c.loop-set.streams.items in
    let more = c.stream.result in
    rw c.in_ok-push.ensures.items (record {
      ready = All-push g.S.Stream.Draw.can_draw before more c.loop-set.invariant.ready c.stream.ensures.ready;
      given = map-append given before (more ∷ [])
          ∙ ap (λ front. front ++ given more ∷ []) c.loop-set.invariant.given
          ∙ sym (c.stream.ensures.one_more c.loop-set.yielded);
    })

pub returns-clause-ready : goal.returns-clause-ready
returns-clause-ready g c = c.loop-set.invariant.ready

-- The sets are all that the calls gave.
pub returns-clause-given : goal.returns-clause-given
returns-clause-given g c =
    ended-run g.K.IntoIterator.into_iter_gives g.K.IntoIter.Iterator.next_gives c.args.sets
    (λ items. map g.S.GivesRuns.given c.loop-set.streams.items ≡ g.S.GivesRuns.shown items)
    c.into_iter-set-iterator.result c.loop-set.set-iterator c.next.new.self c.loop-set.yielded
    c.into_iter-set-iterator.ensures.into_iter_gives c.loop-set.yielded_by c.in-None.ensures.steps
    c.loop-set.invariant.given
