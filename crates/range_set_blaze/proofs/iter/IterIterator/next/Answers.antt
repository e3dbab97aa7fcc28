use Rattle.std.proofs.Common.{refl}
use Rattle.std.specs.Prelude.{None, Some}
use Rattle.range_set_blaze.specs.BothEnds.{is_ready}
use Rattle.range_set_blaze.proofs.lemmas.elements.Ends.{least, turned-drawn, turned-far, turned-held}
use Rattle.range_set_blaze.proofs.iter.IterIterator.next.Goals as goal

-- The stream is ready.
pub draw-requires : goal.draw-requires
draw-requires g c =
    (is_ready g.T.Integer.rank g.T.Integer.value_count g.I.Draw.can_draw g.I.Draw.may_give
    c.args.self.now c.requires).callable c.if-self.false

-- If something is held at the front, its first element is taken.
pub returns-in-Some : goal.returns-in-Some
returns-in-Some g c = turned-held g.I.Draw (least _ g.T.Integer.rank g.T.Integer.value_count)
    c.requires (λ ready. ready) refl refl refl (λ lacks. absurd (cc)) c.in-Some.ensures

-- If the stream had ended before, the first element held at the back is taken.
pub returns-then-self : goal.returns-then-self
returns-then-self g c = turned-far g.I.Draw (least _ g.T.Integer.rank g.T.Integer.value_count)
    c.requires (λ ready. ready) c.if-self.true (rw c.if-self.true refl) (λ finite. finite)
    c.in_default.ensures c.range_next-then-self.ensures

-- The same holds if the stream ends now.
pub returns-in_default-draw : goal.returns-in_default-draw
returns-in_default-draw g c =
    turned-far g.I.Draw (least _ g.T.Integer.rank g.T.Integer.value_count) c.requires
    (λ ready. ready) refl
    (rw c.if-self.false (g.met.I.Draw.answers _ _ None c.in_default-draw.ensures.steps))
    c.in_default-draw.ensures.goes.rests c.in_default.ensures c.range_next-in_default-draw.ensures

-- Otherwise the first element of the next range of the stream is taken.
pub returns : goal.returns
returns g c = turned-drawn g.I.Draw (least _ g.T.Integer.rank g.T.Integer.value_count) c.requires
    (λ ready. ready) c.in-Some-draw.range c.if-self.false refl refl c.in_default.ensures
    (g.met.I.Draw.answers _ _ (Some c.in-Some-draw.range) c.in-Some-draw.ensures.steps)
    (λ can. can) c.in-Some-draw.ensures.goes c.range_next-2.ensures
