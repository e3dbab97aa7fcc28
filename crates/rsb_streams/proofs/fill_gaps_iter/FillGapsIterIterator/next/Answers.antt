use Rattle.std.proofs.Common.{◌<◌, ◌≤◌, subst, sym}
use Rattle.rsb_streams.proofs.lemmas.checking.Comparisons.{IsRanked, less-rank, not_less-rank}
use Rattle.rsb_streams.proofs.lemmas.filling.OneAnswer.{gap-answers, gap-goes, last-gap, last-goes, run-answers, run-goes, values}
use Rattle.rsb_streams.proofs.lemmas.sources.Known.{IsLawful}
use Rattle.rsb_streams.proofs.fill_gaps_iter.FillGapsIterIterator.next.Given.{Over}
use Rattle.rsb_streams.proofs.fill_gaps_iter.FillGapsIterIterator.next.Goals as goal

laws : (g : Over) → IsLawful g.T.Integer g.I.Draw
laws g = record { answers = g.met.I.Draw.answers; sorted = g.met.I.Draw.sorted }

ranked : (g : Over) → IsRanked g.T.Integer.rank g.T.Integer.value_count g.T.PartialOrd.partial_cmp
    g.T.Ord.cmp
ranked g = record { matches = g.met.T.Ord.matches_partial_cmp; in_order = g.met.T.Integer.in_order }

-- At the end, the call returns the gap to the greatest value.
pub returns-in_default-clause-steps : goal.returns-in_default-clause-steps
returns-in_default-clause-steps g c =
    last-gap g.T.Integer g.I.Draw (laws g) c.args.self.now.iter
    c.draw.new.self c.args.self.now.start c.in_ok-start.start c.requires c.in_ok-start.was
    c.max_value.result c.new.result c.in_default.ensures.steps c.max_value.ensures
    c.new.ensures.exhausted c.new.ensures.start c.new.ensures.end

pub returns-in_default-clause-goes : goal.returns-in_default-clause-goes
returns-in_default-clause-goes g c =
    last-goes g.T.Integer g.I.Draw (laws g) c.args.self.now.iter
    c.draw.new.self c.args.self.now.start c.in_ok-start.start c.requires c.in_ok-start.was _

-- There is a gap before the range, which the call returns.
pub returns-then-lt-clause-steps : goal.returns-then-lt-clause-steps
returns-then-lt-clause-steps g c =
    let rank = g.T.Integer.rank in
    let start = c.in_ok-start.start in
    let next = c.start.result.now in
    let value = values g.T.Integer g.I.Draw (laws g) c.args.self.now.iter
    c.draw.new.self c.args.self.now.start start c.requires c.in_ok-start.was
    c.in-Some.range c.in-Some.ensures.steps c.in-Some.ensures.goes in
    let less = less-rank (ranked g) start next value.0
    (subst (λ each. rank each < g.T.Integer.value_count) (sym c.start.ensures) value.1)
    c.if-lt.ensures in
    gap-answers g.T.Integer g.I.Draw (laws g) c.args.self.now.iter
    c.draw.new.self c.args.self.now.start start c.requires c.in_ok-start.was
    c.in-Some.range c.in-Some.ensures.steps c.in-Some.ensures.goes c.put_back.new.self
    c.put_back.ensures next c.start.ensures less c.sub_one.result c.new-then-lt.result
    c.sub_one.ensures c.new-then-lt.ensures.exhausted c.new-then-lt.ensures.start
    c.new-then-lt.ensures.end

pub returns-then-lt-clause-goes : goal.returns-then-lt-clause-goes
returns-then-lt-clause-goes g c =
    let rank = g.T.Integer.rank in
    let start = c.in_ok-start.start in
    let next = c.start.result.now in
    let value = values g.T.Integer g.I.Draw (laws g) c.args.self.now.iter
    c.draw.new.self c.args.self.now.start start c.requires c.in_ok-start.was
    c.in-Some.range c.in-Some.ensures.steps c.in-Some.ensures.goes in
    let less = less-rank (ranked g) start next value.0
    (subst (λ each. rank each < g.T.Integer.value_count) (sym c.start.ensures) value.1)
    c.if-lt.ensures in
    gap-goes g.T.Integer g.I.Draw (laws g) c.args.self.now.iter
    c.draw.new.self c.args.self.now.start start c.requires c.in_ok-start.was
    c.in-Some.range c.in-Some.ensures.steps c.in-Some.ensures.goes c.put_back.new.self
    c.put_back.ensures next c.start.ensures less c.new-then-lt.result

-- The range starts where a gap might, so the call returns it as a run.
pub returns-clause-steps : goal.returns-clause-steps
returns-clause-steps g c =
    let rank = g.T.Integer.rank in
    let start = c.in_ok-start.start in
    let value = values g.T.Integer g.I.Draw (laws g) c.args.self.now.iter
    c.draw.new.self c.args.self.now.start start c.requires c.in_ok-start.was
    c.in-Some.range c.in-Some.ensures.steps c.in-Some.ensures.goes in
    let most = not_less-rank (ranked g) start c.start.result.now value.0
    (subst (λ each. rank each < g.T.Integer.value_count) (sym c.start.ensures) value.1)
    c.if-lt.ensures in
    run-answers g.T.Integer g.I.Draw (laws g) c.args.self.now.iter
    c.draw.new.self c.args.self.now.start start c.requires c.in_ok-start.was
    c.in-Some.range c.in-Some.ensures.steps c.in-Some.ensures.goes c.checked_add_one-self.result
    c.end.result.now c.end.ensures (subst (λ each. rank each ≤ rank start) c.start.ensures most)
    c.checked_add_one-self.ensures.none c.checked_add_one-self.ensures.next

pub returns-clause-goes : goal.returns-clause-goes
returns-clause-goes g c =
    let rank = g.T.Integer.rank in
    let start = c.in_ok-start.start in
    let value = values g.T.Integer g.I.Draw (laws g) c.args.self.now.iter
    c.draw.new.self c.args.self.now.start start c.requires c.in_ok-start.was
    c.in-Some.range c.in-Some.ensures.steps c.in-Some.ensures.goes in
    let most = not_less-rank (ranked g) start c.start.result.now value.0
    (subst (λ each. rank each < g.T.Integer.value_count) (sym c.start.ensures) value.1)
    c.if-lt.ensures in
    run-goes g.T.Integer g.I.Draw (laws g) c.args.self.now.iter
    c.draw.new.self c.args.self.now.start start c.requires c.in_ok-start.was
    c.in-Some.range c.in-Some.ensures.steps c.in-Some.ensures.goes c.checked_add_one-self.result
    c.end.result.now c.end.ensures (subst (λ each. rank each ≤ rank start) c.start.ensures most)
    c.checked_add_one-self.ensures.none c.checked_add_one-self.ensures.next
