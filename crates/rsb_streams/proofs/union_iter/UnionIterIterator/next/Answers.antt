use Rattle.std.proofs.Common.{ap, ◌∙◌, ◌+◌, ◌<◌, max, refl, arith}
use Rattle.std.specs.Ordering.{ord_max}
use Rattle.std.specs.Range.{range_inclusive_start, range_inclusive_end}
use Rattle.rsb_streams.proofs.lemmas.checking.Comparisons.{IsRanked, less-rank, not_less-rank, max-rank, next-value}
use Rattle.rsb_streams.proofs.lemmas.sources.Known.{IsLawful}
use Rattle.rsb_streams.proofs.lemmas.joining.Loop.{rests, begun, next-values, more, answer-last, answer-ahead, ahead-goes}
use Rattle.rsb_streams.proofs.union_iter.UnionIterIterator.next.Given.{Over}
use Rattle.rsb_streams.proofs.union_iter.UnionIterIterator.next.Goals as goal
use Rattle.rsb_streams.proofs.union_iter.UnionIterIterator.next.Goals.{in-Some-checked_add_one+else-lt, in_default-checked_add_one}

laws : (g : Over) → IsLawful g.T.Integer g.SS.Draw
laws g = record { answers = g.met.SS.Draw.answers; sorted = g.met.SS.Draw.sorted }

ranked : (g : Over) → IsRanked g.T.Integer.rank g.T.Integer.value_count g.T.PartialOrd.partial_cmp
    g.T.Ord.cmp
ranked g = record { matches = g.met.T.Ord.matches_partial_cmp; in_order = g.met.T.Integer.in_order }

-- The next range starts past the run, with a gap between.
apart : (g : Over) (c : goal.After-new g)
    → g.T.Integer.rank c.loop-range.end + 1 < g.T.Integer.rank
    (range_inclusive_start c.in-Some.range)
apart g c =
    let rank = g.T.Integer.rank in
    let values = next-values g.T.Integer g.SS.Draw (laws g)
    c.args.self.now.iter c.loop-range.self.iter
    c.draw-in-loop-range.new.self c.into_inner-start.result.0 c.loop-range.end c.in-Some.range
    c.loop-range.invariant c.in-Some.ensures.steps c.in-Some.ensures.goes in
    let step = c.in-Some-checked_add_one in
    let next = next-value g.T.Integer.value_count (rank c.loop-range.end) (rank step.after)
    step.ensures.value (λ last. let no = step.ensures.none.1 last in absurd (cc))
    step.ensures.next in
    let start : rank c.start.result.now < g.T.Integer.value_count =
    omega (arith, values.0, ap rank c.start.ensures) in
    let less = less-rank (ranked g)
    step.after c.start.result.now next start c.if-lt.ensures in
    omega (arith, less, step.ensures.next, ap rank c.start.ensures)

pub returns-in_err-draw-clause-steps : goal.returns-in_err-draw-clause-steps
returns-in_err-draw-clause-steps g c =
    rests g.T.Integer g.SS.Draw (laws g) c.args.self.now _
    c.from_residual.result c.from_residual.ensures c.in_err-draw.ensures.steps

pub loop-range-init : goal.loop-range-init
loop-range-init g c =
    begun g.T.Integer g.SS.Draw (laws g) c.args.self.now.iter
    c.draw.new.self c.in_ok-draw.field-0 _ _ c.requires
    c.in_ok-draw.ensures.steps c.in_ok-draw.ensures.goes c.into_inner-start.ensures.start
    c.into_inner-start.ensures.end

pub returns-then-lt-clause-steps : goal.returns-then-lt-clause-steps
returns-then-lt-clause-steps g c =
    answer-ahead g.T.Integer g.SS.Draw (laws g) c.args.self.now.iter
    c.loop-range.self.iter
    c.draw-in-loop-range.new.self (record { iter = c.put_back.new.self })
    c.into_inner-start.result.0
    c.loop-range.end c.in-Some.range c.new.result c.loop-range.invariant c.in-Some.ensures.steps
    c.in-Some.ensures.goes c.put_back.ensures (apart g c) c.new.ensures.exhausted
    c.new.ensures.start c.new.ensures.end

pub returns-then-lt-clause-goes : goal.returns-then-lt-clause-goes
returns-then-lt-clause-goes g c =
    ahead-goes g.T.Integer g.SS.Draw (laws g) c.args.self.now.iter
    c.loop-range.self.iter
    c.draw-in-loop-range.new.self (record { iter = c.put_back.new.self })
    c.into_inner-start.result.0
    c.loop-range.end c.in-Some.range c.new.result c.loop-range.invariant c.in-Some.ensures.steps
    c.in-Some.ensures.goes c.put_back.ensures (apart g c)

-- The next range overlaps or touches the run.
pub loop-range-preserved : goal.loop-range-preserved
loop-range-preserved g c =
    let rank = g.T.Integer.rank in
    let values = next-values g.T.Integer g.SS.Draw (laws g)
    c.args.self.now.iter c.loop-range.self.iter
    c.draw-in-loop-range.new.self c.into_inner-start.result.0 c.loop-range.end c.in-Some.range
    c.loop-range.invariant c.in-Some.ensures.steps c.in-Some.ensures.goes in
    more g.T.Integer g.SS.Draw (laws g) c.args.self.now.iter
    c.loop-range.self.iter c.draw-in-loop-range.new.self
    c.into_inner-start.result.0 c.loop-range.end c.max-end.result c.in-Some.range
    c.loop-range.invariant
    c.in-Some.ensures.steps c.in-Some.ensures.goes
    (elim c.match-checked_add_one.branch [
      | in-Some-checked_add_one+else-lt w ↦
          let step = w.in-Some-checked_add_one in
          let next = next-value g.T.Integer.value_count (rank c.loop-range.end) (rank step.after)
          step.ensures.value (λ last. let no = step.ensures.none.1 last in absurd (cc))
          step.ensures.next in
          let start : rank w.start.result.now < g.T.Integer.value_count =
          omega (arith, values.0, ap rank w.start.ensures) in
          let most = not_less-rank (ranked g) step.after w.start.result.now next start w.if-lt.ensures in
          omega (arith, most, step.ensures.next, ap rank w.start.ensures)
      | in_default-checked_add_one w ↦
          let last = w.in_default-checked_add_one.ensures.none.0 refl in
          omega (arith, last, values.0)
    ])
    (ap rank {y = ord_max g.T.Ord.cmp c.loop-range.end c.end.result.now} c.max-end.ensures
    ∙ max-rank (ranked g)
    c.loop-range.end c.end.result.now c.checked_add_one.ensures.value
    (omega (arith, values.1, ap rank c.end.ensures))
    ∙ ap (λ value. max (rank c.loop-range.end) (rank value))
    {y = range_inclusive_end c.in-Some.range} c.end.ensures)

pub returns-clause-steps : goal.returns-clause-steps
returns-clause-steps g c =
    answer-last g.T.Integer g.SS.Draw (laws g) c.args.self.now.iter
    c.loop-range.self.iter _
    c.into_inner-start.result.0 c.loop-range.end _ c.loop-range.invariant c.in_default.ensures.steps
    c.new-2.ensures.exhausted c.new-2.ensures.start c.new-2.ensures.end
