use Rattle.std.proofs.Common.{List, ◌∷◌, [], append_assoc, append-nil, subst}
use Rattle.std.specs.Prelude.{Some, None}
use Rattle.range_set_blaze.specs.Rank.{interval_of}
use Rattle.range_set_blaze.specs.Runs.{Interval}
use Rattle.range_set_blaze.proofs.lemmas.gathering.OneByOne.{taken-ordered}
use Rattle.ip_sets.specs.Pairs.{spans_of}
use Rattle.ip_sets.proofs.lemmas.listing.Pairs.{spans-taken}
use Rattle.ip_sets.proofs.set.AddressSet.from_ranges.Goals as goal

-- One more range was taken.
pub loop-range-preserved : goal.loop-range-preserved
loop-range-preserved g c =
    let s = c.loop-range.ranges in
    let t = c.draw.new.self in
    let rank = g.T.Integer.rank in
    let run = interval_of rank c.in-Some.range in
    let taken = spans_of rank c.loop-range.runs.items in
    let given = λ (rest : List Interval) (may : g.I.Draw.may_give t rest).
    c.loop-range.invariant.given (run ∷ rest)
    (g.met.I.Draw.answers s t (Some c.in-Some.range) c.in-Some.ensures.steps rest may) in
    let ordered = taken-ordered g.T.Integer.value_count (g.I.Draw.may_give c.args.ranges)
    (g.I.Draw.may_give t) (g.met.I.DrawDisjoint.canonical c.args.ranges c.requires)
    taken run given (g.met.I.Draw.sorted t c.in-Some.ensures.goes.keeps).some in
    let more = spans-taken rank c.loop-range.runs.items c.push.new.self.items c.into_inner.result
    c.in-Some.range c.in_ok-push.ensures.items c.into_inner.ensures.start c.into_inner.ensures.end
    ordered in
    record {
      ready = c.in-Some.ensures.goes.keeps;
      finite = (c.in-Some.ensures.goes.on c.loop-range.invariant.finite).1;
      given = λ rest may.
          rw (more, append_assoc taken (run ∷ []) rest) (given rest may);
    }

-- If the stream ends, what was taken is one of the lists that it might give at first.
pub invariant_of-result : goal.invariant_of-result
invariant_of-result g c =
    let last = g.met.I.Draw.answers c.loop-range.ranges c.draw.new.self None
    c.in_default.ensures.steps in
    g.met.I.DrawDisjoint.canonical c.args.ranges c.requires _
    (subst (g.I.Draw.may_give c.args.ranges)
    (append-nil (spans_of g.T.Integer.rank c.loop-range.runs.items))
    (c.loop-range.invariant.given [] last))

pub returns : goal.returns
returns g c =
    let last = g.met.I.Draw.answers c.loop-range.ranges c.draw.new.self None
    c.in_default.ensures.steps in
    subst (g.I.Draw.may_give c.args.ranges)
    (append-nil (spans_of g.T.Integer.rank c.loop-range.runs.items))
    (c.loop-range.invariant.given [] last)
