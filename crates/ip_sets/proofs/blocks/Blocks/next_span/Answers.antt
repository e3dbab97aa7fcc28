use Rattle.std.proofs.Common.{refl, sym}
use Rattle.std.specs.Prelude.{None, Some}
use Rattle.ip_sets.proofs.lemmas.aligned.Left.{takes-drawn, takes-held, takes-none}
use Rattle.ip_sets.proofs.blocks.Blocks.next_span.Goals as goal

-- The span that is held.
pub returns-in-Some : goal.returns-in-Some
returns-in-Some g c =
    takes-held g.T.Integer.rank g.T.Integer.value_count g.I.Draw.can_draw g.I.Draw.may_give
    g.I.Draw.draws_left c.args.self.now _ c.requires c.requires.callable
    (g.met.I.Draw.sorted c.args.self.now.ranges c.requires.callable).some
    c.in-Some.span (sym c.in-Some.ensures.value) refl

-- The stream has ended.
pub returns-in_err-range : goal.returns-in_err-range
returns-in_err-range g c = rw c.from_residual.ensures
    (takes-none g.T.Integer.rank g.T.Integer.value_count g.I.Draw.can_draw g.I.Draw.may_give
    g.I.Draw.draws_left c.args.self.now _ (sym c.in_default.ensures.value)
    (g.met.I.Draw.answers c.args.self.now.ranges c.draw.new.self None
    c.in_err-range.ensures.steps) c.in_err-range.ensures.goes.rests)

-- The next range of the stream.
pub returns : goal.returns
returns g c =
    takes-drawn g.T.Integer.rank g.T.Integer.value_count g.I.Draw.can_draw g.I.Draw.may_give
    g.I.Draw.draws_left c.args.self.now _ c.requires c.in_ok-range.ensures.goes.keeps
    (g.met.I.Draw.sorted c.draw.new.self c.in_ok-range.ensures.goes.keeps).some
    c.in_ok-range.range _ (sym c.in_default.ensures.value)
    (g.met.I.Draw.answers c.args.self.now.ranges c.draw.new.self (Some c.in_ok-range.range)
    c.in_ok-range.ensures.steps) c.in_ok-range.ensures.goes.on
    c.into_inner-first.ensures.start c.into_inner-first.ensures.end
