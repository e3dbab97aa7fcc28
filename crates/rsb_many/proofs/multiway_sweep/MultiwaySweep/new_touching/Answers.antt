use Rattle.std.proofs.Common.{subst, sym, All}
use Rattle.std.proofs.lemmas.Result.{IfOk-weaker}
use Rattle.rsb_many.proofs.lemmas.inputs.HandedIn.{collected-each, collected-run, gave-ok}
use Rattle.rsb_many.proofs.lemmas.inputs.Touching.{places-touching}
use Rattle.rsb_many.specs.MultiwaySweep.{BeginsSweep, SweepsOver}
use Rattle.rsb_many.proofs.multiway_sweep.MultiwaySweep.new_touching.Goals as goal

-- A fact about all streams that were passed holds of the streams of the list. Their lists are
-- touching, by the law of the streams.
pub over-requires : goal.over-requires
over-requires g c =
    let ran = c.in_ok-touching.ensures.ran in
    let can = subst (All g.I.Draw.can_draw) (sym ran.4.0)
    (collected-each g.K.IntoIterator.into_iter_gives g.K.IntoIter.Iterator.next_gives c.args.inputs
    ran.0 ran.1 ran.2 ran.3 (All g.I.Draw.can_draw) c.requires.can) in
    record {
      can = can;
      touching = places-touching g.T.Integer.value_count g.I.Draw.can_draw g.I.Draw.may_give
          c.in_ok-touching.touching.items g.met.I.SortedTouching.touching can;
    }

-- The sweep is over the streams that were passed.
pub returns : goal.returns
returns g c =
    let ran = c.in_ok-touching.ensures.ran in
    let begun = IfOk-weaker c.over.result _ _ (λ sweep begun.
    collected-run g.K.IntoIterator.into_iter_gives g.K.IntoIter.Iterator.next_gives
    c.args.inputs ran.0 ran.1 ran.2 ran.3
    (λ streams. BeginsSweep g.T.Integer g.I.Draw streams sweep)
    (subst (λ streams. BeginsSweep g.T.Integer g.I.Draw streams sweep) ran.4.0 begun))
    c.over.ensures in
    record {
      ready = IfOk-weaker c.over.result _ _ (λ sweep begun. begun.ready) c.over.ensures;
      made = gave-ok g.K.IntoIterator.into_iter_gives g.K.IntoIter.Iterator.next_gives c.args.inputs
          c.over.result (λ streams sweep. BeginsSweep g.T.Integer g.I.Draw streams sweep)
          (λ streams sweep. SweepsOver g.T.Integer g.I.Draw streams sweep)
          (λ streams sweep begins. begins.made) begun;
      begun = begun;
    }
