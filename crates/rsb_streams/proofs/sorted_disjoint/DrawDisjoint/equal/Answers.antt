use Rattle.rsb_streams.proofs.lemmas.checking.Comparisons.{IsRanked, other-ranks, same-ranks}
use Rattle.rsb_streams.proofs.lemmas.questions.Equality.{left-ends, ranges-differ, right-ends, same-more}
use Rattle.rsb_streams.proofs.lemmas.questions.FirstItems.{first-range}
use Rattle.rsb_streams.proofs.lemmas.sources.Known.{IsLawful}
use Rattle.rsb_streams.proofs.sorted_disjoint.DrawDisjoint.equal.Given.{Over}
use Rattle.rsb_streams.proofs.sorted_disjoint.DrawDisjoint.equal.Goals as goal

left_laws : (g : Over) → IsLawful g.T.Integer g.Self.Draw
left_laws g = record { answers = g.met.Self.Draw.answers; sorted = g.met.Self.Draw.sorted }

right_laws : (g : Over) → IsLawful g.T.Integer g.R.Draw
right_laws g = record { answers = g.met.R.Draw.answers; sorted = g.met.R.Draw.sorted }

ranked : (g : Over) → IsRanked g.T.Integer.rank g.T.Integer.value_count g.T.PartialOrd.partial_cmp
    g.T.Ord.cmp
ranked g =
    let order = g.met.T.Ord in
    let integer = g.met.T.Integer in
    record { matches = order.matches_partial_cmp; in_order = integer.in_order }

-- Only the right stream has ended.
pub returns-in_default-draw : goal.returns-in_default-draw
returns-in_default-draw g c =
    right-ends g.T.Integer g.Self.Draw g.R.Draw c.args.self c.args.other
    (left_laws g) (right_laws g) c.loop-range.left c.loop-range.right c.loop-range.invariant
    (g.met.Self.DrawDisjoint.canonical c.args.self c.requires.left)
    (g.met.R.DrawDisjoint.canonical c.args.other c.requires.right)
    c.in-Some.range c.draw.new.self c.draw-in-Some.new.self
    c.in-Some.ensures.steps c.in-Some.ensures.goes.keeps c.in_default-draw.ensures.steps

-- The ranges are not equal.
pub returns-then-ne : goal.returns-then-ne
returns-then-ne g c =
    let rank = g.T.Integer.rank in
    let n = g.T.Integer.value_count in
    let order = g.met.T.PartialOrd in
    let one = first-range g.T.Integer g.Self.Draw (left_laws g) c.loop-range.left c.draw.new.self
    c.loop-range.invariant.left_ready c.in-Some.range c.in-Some.ensures.steps c.in-Some.ensures.goes
    in
    let two = first-range g.T.Integer g.R.Draw (right_laws g) c.loop-range.right c.draw-in-Some.new.self
    c.loop-range.invariant.right_ready c.in-Some-draw.counterpart c.in-Some-draw.ensures.steps
    c.in-Some-draw.ensures.goes in
    ranges-differ g.T.Integer g.Self.Draw g.R.Draw c.args.self c.args.other
    (left_laws g) (right_laws g) c.loop-range.left c.loop-range.right c.loop-range.invariant
    (g.met.Self.DrawDisjoint.canonical c.args.self c.requires.left)
    (g.met.R.DrawDisjoint.canonical c.args.other c.requires.right)
    c.in-Some.range c.in-Some-draw.counterpart c.draw.new.self c.draw-in-Some.new.self
    c.in-Some.ensures.steps c.in-Some.ensures.goes.keeps
    c.in-Some-draw.ensures.steps c.in-Some-draw.ensures.goes.keeps
    (other-ranks (ranked g)
    g.T.PartialEq.eq order.laws c.in-Some.range c.in-Some-draw.counterpart one.0 one.1 two.0 two.1
    c.if-ne.ensures)

-- The ranges are equal.
pub loop-range-preserved : goal.loop-range-preserved
loop-range-preserved g c =
    let rank = g.T.Integer.rank in
    let n = g.T.Integer.value_count in
    let order = g.met.T.PartialOrd in
    let one = first-range g.T.Integer g.Self.Draw (left_laws g) c.loop-range.left c.draw.new.self
    c.loop-range.invariant.left_ready c.in-Some.range c.in-Some.ensures.steps c.in-Some.ensures.goes
    in
    let two = first-range g.T.Integer g.R.Draw (right_laws g) c.loop-range.right c.draw-in-Some.new.self
    c.loop-range.invariant.right_ready c.in-Some-draw.counterpart c.in-Some-draw.ensures.steps
    c.in-Some-draw.ensures.goes in
    same-more g.T.Integer g.Self.Draw g.R.Draw c.args.self c.args.other
    (left_laws g) (right_laws g) c.loop-range.left c.loop-range.right c.loop-range.invariant
    c.in-Some.range c.in-Some-draw.counterpart c.draw.new.self c.draw-in-Some.new.self
    c.in-Some.ensures.steps c.in-Some.ensures.goes.keeps
    c.in-Some-draw.ensures.steps c.in-Some-draw.ensures.goes.keeps
    (same-ranks (ranked g)
    g.T.PartialEq.eq order.laws c.in-Some.range c.in-Some-draw.counterpart one.0 one.1 two.0 two.1
    c.if-ne.ensures)

-- The left stream has ended.
pub returns : goal.returns
returns g c =
    left-ends g.T.Integer g.Self.Draw g.R.Draw c.args.self c.args.other
    (left_laws g) (right_laws g) c.loop-range.left c.loop-range.right c.loop-range.invariant
    (g.met.Self.DrawDisjoint.canonical c.args.self c.requires.left)
    (g.met.R.DrawDisjoint.canonical c.args.other c.requires.right)
    c.draw-2.result c.is_none.result c.draw.new.self c.draw-2.new.self
    c.in_default.ensures.steps c.draw-2.ensures.steps c.draw-2.ensures.goes c.is_none.ensures
