use Rattle.std.proofs.Common.{arith}
use Rattle.rsb_streams.proofs.lemmas.checking.Comparisons.{IsRanked}
use Rattle.rsb_streams.proofs.lemmas.gaps.Loop.{gap-answers, gap-goes, gap-less, gap-none, last-gap, last-goes, rests, so-next}
use Rattle.rsb_streams.proofs.lemmas.sources.Known.{IsLawful}
use Rattle.rsb_streams.proofs.not_iter.NotIterIterator.next.Given.{Over}
use Rattle.rsb_streams.proofs.not_iter.NotIterIterator.next.Goals as goal

laws : (g : Over) → IsLawful g.T.Integer g.I.Draw
laws g = record { answers = g.met.I.Draw.answers; sorted = g.met.I.Draw.sorted }

ranked : (g : Over) → IsRanked g.T.Integer.rank g.T.Integer.value_count g.T.PartialOrd.partial_cmp
    g.T.Ord.cmp
ranked g = record { matches = g.met.T.Ord.matches_partial_cmp; in_order = g.met.T.Integer.in_order }

-- At the end, the draw returns the gap to the greatest value.
pub returns-in_default-draw-clause-steps : goal.returns-in_default-draw-clause-steps
returns-in_default-draw-clause-steps g c =
    last-gap g.T.Integer g.I.Draw (laws g)
    c.args.self.now c.loop-self.self.iter c.draw.new.self c.loop-self.self.start c.in-Some.start
    c.max_value.result c.new.result c.loop-self.invariant c.in-Some.is
    c.in_default-draw.ensures.steps
    c.max_value.ensures c.new.ensures.exhausted c.new.ensures.start c.new.ensures.end

pub returns-in_default-draw-clause-goes : goal.returns-in_default-draw-clause-goes
returns-in_default-draw-clause-goes g c =
    last-goes g.T.Integer g.I.Draw c.args.self.now
    c.loop-self.self c.draw.new.self c.in-Some.start c.new.result c.loop-self.invariant c.in-Some.is

-- There is a gap before the range.
pub sub_one-requires : goal.sub_one-requires
sub_one-requires g c =
    let less = gap-less g.T.Integer g.I.Draw (laws g)
    c.args.self.now c.loop-self.self.iter c.draw.new.self c.loop-self.self.start c.in-Some.start
    c.into_inner-past_gap.result.0 c.into_inner-past_gap.result.1 c.checked_add_one-self.result
    c.in-Some-draw.range c.loop-self.invariant c.in-Some.is c.in-Some-draw.ensures.steps
    c.in-Some-draw.ensures.goes c.into_inner-past_gap.ensures.start
    c.into_inner-past_gap.ensures.end
    c.checked_add_one-self.ensures.none c.checked_add_one-self.ensures.next
    (ranked g) c.if-lt.ensures in
    omega (arith, less)

pub returns-then-lt-clause-steps : goal.returns-then-lt-clause-steps
returns-then-lt-clause-steps g c =
    gap-answers g.T.Integer g.I.Draw (laws g)
    c.args.self.now c.loop-self.self.iter c.draw.new.self c.loop-self.self.start c.in-Some.start
    c.into_inner-past_gap.result.0 c.into_inner-past_gap.result.1 c.checked_add_one-self.result
    c.in-Some-draw.range c.loop-self.invariant c.in-Some.is c.in-Some-draw.ensures.steps
    c.in-Some-draw.ensures.goes c.into_inner-past_gap.ensures.start
    c.into_inner-past_gap.ensures.end
    c.checked_add_one-self.ensures.none c.checked_add_one-self.ensures.next
    c.sub_one.result c.new-then-lt.result
    (gap-less g.T.Integer g.I.Draw (laws g)
    c.args.self.now c.loop-self.self.iter c.draw.new.self c.loop-self.self.start c.in-Some.start
    c.into_inner-past_gap.result.0 c.into_inner-past_gap.result.1 c.checked_add_one-self.result
    c.in-Some-draw.range c.loop-self.invariant c.in-Some.is c.in-Some-draw.ensures.steps
    c.in-Some-draw.ensures.goes c.into_inner-past_gap.ensures.start
    c.into_inner-past_gap.ensures.end
    c.checked_add_one-self.ensures.none c.checked_add_one-self.ensures.next
    (ranked g) c.if-lt.ensures)
    c.sub_one.ensures c.new-then-lt.ensures.exhausted c.new-then-lt.ensures.start
    c.new-then-lt.ensures.end

pub returns-then-lt-clause-goes : goal.returns-then-lt-clause-goes
returns-then-lt-clause-goes g c =
    gap-goes g.T.Integer g.I.Draw (laws g)
    c.args.self.now c.loop-self.self.iter c.draw.new.self c.loop-self.self.start c.in-Some.start
    c.into_inner-past_gap.result.0 c.into_inner-past_gap.result.1 c.checked_add_one-self.result
    c.in-Some-draw.range c.loop-self.invariant c.in-Some.is c.in-Some-draw.ensures.steps
    c.in-Some-draw.ensures.goes c.into_inner-past_gap.ensures.start
    c.into_inner-past_gap.ensures.end
    c.checked_add_one-self.ensures.none c.checked_add_one-self.ensures.next
    c.new-then-lt.result

-- There is no gap before the range.
pub loop-self-preserved : goal.loop-self-preserved
loop-self-preserved g c =
    so-next g.T.Integer g.I.Draw (laws g)
    c.args.self.now c.loop-self.self.iter c.draw.new.self c.loop-self.self.start c.in-Some.start
    c.into_inner-past_gap.result.0 c.into_inner-past_gap.result.1 c.checked_add_one-self.result
    c.in-Some-draw.range c.loop-self.invariant c.in-Some.is c.in-Some-draw.ensures.steps
    c.in-Some-draw.ensures.goes c.into_inner-past_gap.ensures.start
    c.into_inner-past_gap.ensures.end
    c.checked_add_one-self.ensures.none c.checked_add_one-self.ensures.next
    (gap-none g.T.Integer g.I.Draw (laws g)
    c.args.self.now c.loop-self.self.iter c.draw.new.self c.loop-self.self.start c.in-Some.start
    c.into_inner-past_gap.result.0 c.into_inner-past_gap.result.1 c.checked_add_one-self.result
    c.in-Some-draw.range c.loop-self.invariant c.in-Some.is c.in-Some-draw.ensures.steps
    c.in-Some-draw.ensures.goes c.into_inner-past_gap.ensures.start
    c.into_inner-past_gap.ensures.end
    c.checked_add_one-self.ensures.none c.checked_add_one-self.ensures.next
    (ranked g) c.if-lt.ensures)

-- No gap is left.
pub returns-clause-steps : goal.returns-clause-steps
returns-clause-steps g c =
    rests g.T.Integer g.I.Draw c.args.self.now c.loop-self.self
    c.loop-self.invariant c.in_default.is

pub returns-clause-goes : goal.returns-clause-goes
returns-clause-goes g c = record {
  on = λ finite. tt;
  keeps = tt;
  rests = λ finite. rw c.in_default.is tt;
}
