use Rattle.std.proofs.Common.{List, ◌∷◌, [], ◌++◌, All}
use Rattle.std.proofs.iter.Next.{Yields-more}
use Rattle.std.proofs.iter.runs.Made.{along_from_runs}
use Rattle.std.proofs.lemmas.List.Elements.{All-contains, All-nil, All-push, Contains-push}
use Rattle.std.specs.Iterator.{Yields}
use Rattle.std.specs.Iterator.Runs.{EachRunFrom}
use Rattle.std.specs.Prelude.{Option, Some}
use Rattle.std.proofs.lemmas.Result.{IfOk-from_err}
use Rattle.rsb_streams.specs.NotIter.{not_iter}
use Rattle.rsb_many.specs.MultiwayBegun.{AreComplements}
use Rattle.rsb_many.proofs.lemmas.inputs.HandedIn.{ended-run}
use Rattle.rsb_many.proofs.lemmas.merging.Operations.{AreComplements-more}
use Rattle.rsb_many.proofs.multiway.complements.Goals as goal

-- A fact about every item that an iterator gives holds of the next one.
next-item : {S X : Type 0} (steps : S → Option X → S → Type 0) (P : X → Type 0)
    (first last next : S) (items : List X) (item : X)
    → EachRunFrom steps first (λ run. All P run.items)
    → Yields steps first items last → steps last (Some item) next → P item
next-item steps P first last next items item each came step =
    All-contains P (items ++ item ∷ []) item
    (along_from_runs steps first (All P) each (items ++ item ∷ []) next
    (Yields-more steps first items last item next came step))
    (Contains-push items item)

-- With one more, the complements are those of all streams that came so far.
pub loop-stream-preserved : goal.loop-stream-preserved
loop-stream-preserved g c =
    let can = (not_iter g.T.Integer g.I.Draw).can_draw in
    rw c.in_ok-push.ensures.items (record {
      ready = All-push can c.loop-stream.gaps.items c.complement.result
          c.loop-stream.invariant.ready c.complement.ensures.made.ready;
      made = AreComplements-more g.T.Integer g.I.Draw c.loop-stream.yielded c.loop-stream.gaps.items
          c.in-Some.stream c.complement.result c.loop-stream.invariant.made
          (record { made = c.complement.ensures.made; undrawn = c.complement.ensures.undrawn });
    })

-- The complements are those of the streams that were passed.
pub returns-clause-made : goal.returns-clause-made
returns-clause-made g c = ended-run g.K.IntoIterator.into_iter_gives g.K.IntoIter.Iterator.next_gives
    c.args.streams (λ items. AreComplements g.T.Integer g.I.Draw items c.loop-stream.gaps.items)
    c.into_iter-stream-iterator.result c.loop-stream.stream-iterator c.next.new.self
    c.loop-stream.yielded c.into_iter-stream-iterator.ensures.into_iter_gives
    c.loop-stream.yielded_by c.in-None.ensures.steps c.loop-stream.invariant.made

-- No stream has come yet.
pub loop-stream-init : goal.loop-stream-init
loop-stream-init g c = rw c.new-gaps.ensures.items (record {
  ready = All-nil (not_iter g.T.Integer g.I.Draw).can_draw;
  made = tt;
})

pub next-requires : goal.next-requires
next-requires g c = c.loop-stream.iterator.0

-- Every stream that comes is ready.
pub complement-requires : goal.complement-requires
complement-requires g c = next-item g.K.IntoIter.Iterator.next_gives g.I.Draw.can_draw
    c.into_iter-stream-iterator.result c.loop-stream.stream-iterator c.next.new.self
    c.loop-stream.yielded c.in-Some.stream
    (c.requires.can c.into_iter-stream-iterator.result
    c.into_iter-stream-iterator.ensures.into_iter_gives)
    c.loop-stream.yielded_by c.in-Some.ensures.steps

pub returns-in_err-push-clause-ready : goal.returns-in_err-push-clause-ready
returns-in_err-push-clause-ready g c =
    IfOk-from_err c.from_residual.result _ c.from_residual.ensures.0

pub returns-in_err-push-clause-made : goal.returns-in_err-push-clause-made
returns-in_err-push-clause-made g c =
    IfOk-from_err c.from_residual.result _ c.from_residual.ensures.0

pub returns-clause-ready : goal.returns-clause-ready
returns-clause-ready g c = c.loop-stream.invariant.ready
