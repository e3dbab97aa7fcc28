use Rattle.std.proofs.Common.{arith}
use Rattle.std.specs.Prelude.{Some, None}
use Rattle.rsb_integer.specs.Rank.{interval_of}
use Rattle.rsb_streams.proofs.lemmas.questions.Counting.{counted-all, counted-more, counted-ordered, counted-within}
use Rattle.rsb_streams.proofs.sorted_disjoint.DrawDisjoint.members_len.Goals as goal

-- The range is in order.
pub safe_len-requires : goal.safe_len-requires
safe_len-requires g c =
    let s = c.loop-range.stream in
    let t = c.draw.new.self in
    counted-ordered g.T.Integer.value_count (g.Self.Draw.may_give c.args.self)
    (g.Self.Draw.may_give s) (g.Self.Draw.may_give t)
    (g.met.Self.DrawDisjoint.canonical c.args.self c.requires)
    (g.T.SafeLen.SafeLength.number c.loop-range.length) c.loop-range.invariant.counted
    (interval_of g.T.Integer.rank c.in-Some.range)
    (g.met.Self.Draw.answers s t (Some c.in-Some.range) c.in-Some.ensures.steps)
    (g.met.Self.Draw.sorted t c.in-Some.ensures.goes.keeps).some

-- The range, with all before it, is within the type.
pub add_assign-requires : goal.add_assign-requires
add_assign-requires g c =
    let s = c.loop-range.stream in
    let t = c.draw.new.self in
    let fits = counted-within g.T.Integer.value_count (g.Self.Draw.may_give c.args.self)
    (g.Self.Draw.may_give s) (g.Self.Draw.may_give t)
    (g.met.Self.DrawDisjoint.canonical c.args.self c.requires)
    (g.T.SafeLen.SafeLength.number c.loop-range.length) c.loop-range.invariant.counted
    (interval_of g.T.Integer.rank c.in-Some.range)
    (g.met.Self.Draw.answers s t (Some c.in-Some.range) c.in-Some.ensures.steps)
    (g.met.Self.Draw.sorted t c.in-Some.ensures.goes.keeps).some in
    let enough = g.met.T.Integer.lengths_suffice in
    let length = c.safe_len.ensures in
    g.met.T.SafeLen.SafeLength.sum_allowed c.loop-range.length c.safe_len.result
    (omega (arith, fits, enough, length))

pub loop-range-preserved : goal.loop-range-preserved
loop-range-preserved g c =
    let s = c.loop-range.stream in
    let t = c.draw.new.self in
    let exact = g.met.T.SafeLen.SafeLength.sum_exact c.loop-range.length c.safe_len.result
    c.add_assign.new.self c.add_assign.ensures.after in
    let length = c.safe_len.ensures in
    record {
      ready = c.in-Some.ensures.goes.keeps;
      finite = (c.in-Some.ensures.goes.on c.loop-range.invariant.finite).1;
      counted = counted-more g.T.Integer.value_count (g.Self.Draw.may_give c.args.self)
          (g.Self.Draw.may_give s) (g.Self.Draw.may_give t)
          (g.met.Self.DrawDisjoint.canonical c.args.self c.requires)
          (g.T.SafeLen.SafeLength.number c.loop-range.length) c.loop-range.invariant.counted
          (interval_of g.T.Integer.rank c.in-Some.range)
          (g.met.Self.Draw.answers s t (Some c.in-Some.range) c.in-Some.ensures.steps)
          (g.met.Self.Draw.sorted t c.in-Some.ensures.goes.keeps).some
          (g.T.SafeLen.SafeLength.number c.add_assign.new.self) (omega (arith, exact, length));
    }

-- At the end, all members were counted.
pub returns : goal.returns
returns g c =
    counted-all g.T.Integer.value_count (g.Self.Draw.may_give c.args.self)
    (g.Self.Draw.may_give c.loop-range.stream)
    (g.met.Self.DrawDisjoint.canonical c.args.self c.requires)
    (g.T.SafeLen.SafeLength.number c.loop-range.length) c.loop-range.invariant.counted
    (g.met.Self.Draw.answers c.loop-range.stream c.draw.new.self None c.in_default.ensures.steps)
