use Rattle.std.proofs.Common.{ap, arith, refl, subst, sym, ◌∙◌, Some, None}
use Rattle.std.specs.Prelude.{IfSome}
use Rattle.rsb_many.proofs.lemmas.inputs.Drawn.{values-drawn}
use Rattle.rsb_many.proofs.lemmas.inputs.Places.{slice_get-get_or}
use Rattle.rsb_streams.proofs.lemmas.sources.Known.{IsLawful}
use Rattle.rsb_many.proofs.drawn.Drawn.draw_from.Given.{Over}
use Rattle.rsb_many.proofs.drawn.Drawn.draw_from.Goals as goal

laws : (g : Over) → IsLawful g.T.Integer g.I.Draw
laws g = record {
  answers = g.met.I.Draw.answers;
  sorted = g.met.I.Draw.sorted;
}

pub push_range-requires-clause-values : goal.push_range-requires-clause-values
push_range-requires-clause-values g c =
    let found : g.I.Draw.can_draw c.index_mut.result.now =
    subst (λ each. IfSome each g.I.Draw.can_draw)
    (slice_get-get_or c.args.self.now.streams.items c.args.place c.index_mut.result.now
    c.requires.place ∙ ap Some (sym c.index_mut.ensures.value)) c.requires.ready in
    values-drawn g.T.Integer g.I.Draw (laws g) c.index_mut.result.now c.draw.new.self
    c.in-Some.range c.args.place found c.in-Some.ensures.steps c.in-Some.ensures.goes

pub returns-in-Some-clause-draws : goal.returns-in-Some-clause-draws
returns-in-Some-clause-draws g c = record {
  before = c.index_mut.result.now;
  after = c.draw.new.self;
  item = Some c.in-Some.range;
  stood = slice_get-get_or c.args.self.now.streams.items c.args.place c.index_mut.result.now
      c.requires.place ∙ ap Some (sym c.index_mut.ensures.value);
  call = c.in-Some.ensures.steps;
  goes = c.in-Some.ensures.goes;
  stands = refl;
  here = c.push_range.ensures.heads.here;
  others = c.push_range.ensures.heads.others;
}

pub returns-in_default-clause-draws : goal.returns-in_default-clause-draws
returns-in_default-clause-draws g c = record {
  before = c.index_mut.result.now;
  after = c.draw.new.self;
  item = None;
  stood = slice_get-get_or c.args.self.now.streams.items c.args.place c.index_mut.result.now
      c.requires.place ∙ ap Some (sym c.index_mut.ensures.value);
  call = c.in_default.ensures.steps;
  goes = c.in_default.ensures.goes;
  stands = refl;
  here = c.requires.none;
  others = λ other differs. refl;
}

pub draw-requires : goal.draw-requires
draw-requires g c = subst (λ each. IfSome each g.I.Draw.can_draw)
    (slice_get-get_or c.args.self.now.streams.items c.args.place c.index_mut.result.now
    c.requires.place ∙ ap Some (sym c.index_mut.ensures.value)) c.requires.ready

pub push_range-requires-clause-room : goal.push_range-requires-clause-room
push_range-requires-clause-room g c = c.requires.room

pub push_range-requires-clause-none : goal.push_range-requires-clause-none
push_range-requires-clause-none g c = c.requires.none

pub returns-in-Some-clause-used : goal.returns-in-Some-clause-used
returns-in-Some-clause-used g c = refl

pub returns-in-Some-clause-room : goal.returns-in-Some-clause-room
returns-in-Some-clause-room g c = c.push_range.ensures.room

pub returns-in-Some-clause-compared : goal.returns-in-Some-clause-compared
returns-in-Some-clause-compared g c =
    rw c.push_range.ensures.closed (omega (arith, c.push_range.ensures.compared))

pub returns-in-Some-clause-counted : goal.returns-in-Some-clause-counted
returns-in-Some-clause-counted g c = c.push_range.ensures.counted

pub returns-in_default-clause-used : goal.returns-in_default-clause-used
returns-in_default-clause-used g c = refl

pub returns-in-Some-clause-count : goal.returns-in-Some-clause-count
returns-in-Some-clause-count g c = omega (arith, c.push_range.ensures.count)
