use Rattle.std.proofs.Common.{refl}
use Rattle.std.specs.Prelude.{None, Some}
use Rattle.range_set_blaze.specs.BothEnds.{is_ready}
use Rattle.range_set_blaze.proofs.lemmas.elements.Ends.{counted-alike, greatest, turned-drawn, turned-far, turned-held}
use Rattle.range_set_blaze.proofs.iter.IterDoubleEndedIterator.next_back.Goals as goal

-- The stream may be called from the back.
pub next_back-requires : goal.next_back-requires
next_back-requires g c =
    c.requires.both_ends.callable c.args.self.now.ranges
    ((is_ready g.T.Integer.rank g.T.Integer.value_count g.I.Draw.can_draw g.I.Draw.may_give
    c.args.self.now c.requires.ready).callable c.if-self.false)

-- If something is held at the back, its last element is taken.
pub returns-in-Some : goal.returns-in-Some
returns-in-Some g c = turned-held g.I.Draw (greatest _ g.T.Integer.rank g.T.Integer.value_count)
    c.requires.ready (λ ready. record { both_ends = c.requires.both_ends; ready = ready }) refl refl
    refl (λ lacks. absurd (cc)) c.in-Some.ensures

-- If the stream had ended before, the last element held at the front is taken.
pub returns-then-self : goal.returns-then-self
returns-then-self g c = turned-far g.I.Draw (greatest _ g.T.Integer.rank g.T.Integer.value_count)
    c.requires.ready (λ ready. record { both_ends = c.requires.both_ends; ready = ready })
    c.if-self.true (rw c.if-self.true refl) (λ finite. finite) c.in_default.ensures
    c.range_next_back-then-self.ensures

-- The same holds if the stream ends now.
pub returns-in_default-next_back : goal.returns-in_default-next_back
returns-in_default-next_back g c =
    turned-far g.I.Draw (greatest _ g.T.Integer.rank g.T.Integer.value_count) c.requires.ready
    (λ ready. record { both_ends = c.requires.both_ends; ready = ready }) refl
    (rw c.if-self.false
    (c.requires.both_ends.answers _ _ None c.in_default-next_back.ensures.steps))
    (counted-alike g.met.I.SortedStarts.drawn.counts c.in_default-next_back.ensures.goes).rests
    c.in_default.ensures c.range_next_back-in_default-next_back.ensures

-- Otherwise the last element of the last range of the stream is taken.
pub returns : goal.returns
returns g c =
    turned-drawn g.I.Draw (greatest _ g.T.Integer.rank g.T.Integer.value_count) c.requires.ready
    (λ ready. record { both_ends = c.requires.both_ends; ready = ready }) c.in-Some-next_back.range
    c.if-self.false refl refl c.in_default.ensures
    (c.requires.both_ends.answers _ _ (Some c.in-Some-next_back.range)
    c.in-Some-next_back.ensures.steps) (c.requires.both_ends.drawable _)
    (counted-alike g.met.I.SortedStarts.drawn.counts c.in-Some-next_back.ensures.goes)
    c.range_next_back-2.ensures
