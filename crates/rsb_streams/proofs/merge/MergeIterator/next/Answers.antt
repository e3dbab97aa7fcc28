use Rattle.std.proofs.Common.{ap, ◌<◌, ◌≤◌, arith}
use Rattle.std.specs.Range.{range_inclusive_start}
use Rattle.rsb_streams.proofs.lemmas.checking.Comparisons.{IsRanked, less-rank, not_less-rank}
use Rattle.rsb_streams.proofs.lemmas.merging.Answers.{only-left, only-right, start-values, left-answers, left-goes, right-answers, right-goes}
use Rattle.rsb_streams.proofs.lemmas.sources.Known.{IsLawful}
use Rattle.rsb_streams.proofs.merge.MergeIterator.next.Given.{Over}
use Rattle.rsb_streams.proofs.merge.MergeIterator.next.Goals as goal

left_laws : (g : Over) → IsLawful g.T.Integer g.L.Draw
left_laws g = record {
  answers = g.met.L.Draw.answers;
  sorted = g.met.L.Draw.sorted;
}

right_laws : (g : Over) → IsLawful g.T.Integer g.R.Draw
right_laws g = record {
  answers = g.met.R.Draw.answers;
  sorted = g.met.R.Draw.sorted;
}

ranked : (g : Over) → IsRanked g.T.Integer.rank g.T.Integer.value_count g.T.PartialOrd.partial_cmp
    g.T.Ord.cmp
ranked g = record { matches = g.met.T.Ord.matches_partial_cmp; in_order = g.met.T.Integer.in_order }

pub returns-in_default-clause-steps : goal.returns-in_default-clause-steps
returns-in_default-clause-steps g c =
    only-right g.T.Integer g.L.Draw g.R.Draw (left_laws g)
    (right_laws g)
    c.args.self.now _ c.draw-in_default.result c.requires c.in_default.ensures.steps
    c.draw-in_default.ensures.steps

pub returns-in_default-draw-clause-steps : goal.returns-in_default-draw-clause-steps
returns-in_default-draw-clause-steps g c =
    only-left g.T.Integer g.L.Draw g.R.Draw (left_laws g)
    (right_laws g)
    c.args.self.now _ c.in-Some.first c.requires c.in-Some.ensures.steps
    c.in_default-draw.ensures.steps

-- The right range starts first.
less : (g : Over) (c : goal.After-put_back g)
    → g.T.Integer.rank (range_inclusive_start c.in-Some-draw.second)
    < g.T.Integer.rank (range_inclusive_start c.in-Some.first)
less g c =
    let rank = g.T.Integer.rank in
    let n = g.T.Integer.value_count in
    let values = start-values g.T.Integer g.L.Draw g.R.Draw (left_laws g) (right_laws g) c.args.self.now
    c.draw.new.self c.draw-2.new.self c.in-Some.first c.in-Some-draw.second c.requires
    c.in-Some.ensures.steps c.in-Some-draw.ensures.steps c.in-Some.ensures.goes
    c.in-Some-draw.ensures.goes in
    let low : rank c.start.result.now < n = omega (arith, values.1, ap rank c.start.ensures) in
    let high : rank c.start-2.result.now < n = omega (arith, values.0, ap rank c.start-2.ensures) in
    let less = less-rank (ranked g) c.start.result.now
    c.start-2.result.now low high c.if-lt.ensures in
    omega (arith, less, ap rank c.start.ensures, ap rank c.start-2.ensures)

pub returns-then-lt-clause-steps : goal.returns-then-lt-clause-steps
returns-then-lt-clause-steps g c =
    right-answers g.T.Integer g.L.Draw g.R.Draw (left_laws g)
    (right_laws g)
    c.args.self.now c.draw.new.self c.draw-2.new.self c.in-Some.first c.in-Some-draw.second
    c.requires
    c.in-Some.ensures.steps c.in-Some-draw.ensures.steps c.in-Some.ensures.goes
    c.in-Some-draw.ensures.goes c.put_back.new.self c.put_back.ensures (less g c)

pub returns-then-lt-clause-goes : goal.returns-then-lt-clause-goes
returns-then-lt-clause-goes g c =
    right-goes g.T.Integer g.L.Draw g.R.Draw (left_laws g)
    (right_laws g)
    c.args.self.now c.draw.new.self c.draw-2.new.self c.in-Some.first c.in-Some-draw.second
    c.requires
    c.in-Some.ensures.steps c.in-Some-draw.ensures.steps c.in-Some.ensures.goes
    c.in-Some-draw.ensures.goes c.put_back.new.self c.put_back.ensures (less g c)

-- The left range starts no later.
most : (g : Over) (c : goal.After-put_back-2 g)
    → g.T.Integer.rank (range_inclusive_start c.in-Some.first)
    ≤ g.T.Integer.rank (range_inclusive_start c.in-Some-draw.second)
most g c =
    let rank = g.T.Integer.rank in
    let n = g.T.Integer.value_count in
    let values = start-values g.T.Integer g.L.Draw g.R.Draw (left_laws g) (right_laws g) c.args.self.now
    c.draw.new.self c.draw-2.new.self c.in-Some.first c.in-Some-draw.second c.requires
    c.in-Some.ensures.steps c.in-Some-draw.ensures.steps c.in-Some.ensures.goes
    c.in-Some-draw.ensures.goes in
    let low : rank c.start.result.now < n = omega (arith, values.1, ap rank c.start.ensures) in
    let high : rank c.start-2.result.now < n = omega (arith, values.0, ap rank c.start-2.ensures) in
    let most = not_less-rank (ranked g)
    c.start.result.now
    c.start-2.result.now low high c.if-lt.ensures in
    omega (arith, most, ap rank c.start.ensures, ap rank c.start-2.ensures)

pub returns-clause-steps : goal.returns-clause-steps
returns-clause-steps g c =
    left-answers g.T.Integer g.L.Draw g.R.Draw (left_laws g)
    (right_laws g)
    c.args.self.now c.draw.new.self c.draw-2.new.self c.in-Some.first c.in-Some-draw.second
    c.requires
    c.in-Some.ensures.steps c.in-Some-draw.ensures.steps c.in-Some.ensures.goes
    c.in-Some-draw.ensures.goes c.put_back-2.new.self c.put_back-2.ensures (most g c)

pub returns-clause-goes : goal.returns-clause-goes
returns-clause-goes g c =
    left-goes g.T.Integer g.L.Draw g.R.Draw (left_laws g)
    (right_laws g)
    c.args.self.now c.draw.new.self c.draw-2.new.self c.in-Some.first c.in-Some-draw.second
    c.requires
    c.in-Some.ensures.steps c.in-Some-draw.ensures.steps c.in-Some.ensures.goes
    c.in-Some-draw.ensures.goes c.put_back-2.new.self c.put_back-2.ensures (most g c)
