use Rattle.std.proofs.Common.{List, ◌∷◌, [], ◌∙◌, append_assoc, append-nil, arith, subst}
use Rattle.std.proofs.lemmas.List.Sums.{sum_by-append}
use Rattle.std.specs.Prelude.{Some, None}
use Rattle.rsb_integer.specs.Rank.{interval_of}
use Rattle.rsb_integer.specs.Runs.{Interval, length_of}
use Rattle.rsb_storage.specs.Storage.{runs_of}
use Rattle.range_set_blaze.proofs.lemmas.gathering.OneByOne.{runs_of-taken, taken-canonical, taken-ordered, taken-within}
use Rattle.rsb_storage.proofs.lemmas.runs.Storage.{sum_by-canonical}
use Rattle.range_set_blaze.proofs.set.from_stream.gathered.Goals as goal

-- The ranges taken so far, this one and those to come are canonical, so this one is non-empty.
pub safe_len-requires : goal.safe_len-requires
safe_len-requires g c =
    let s = c.loop-range.iter in
    let t = c.draw.new.self in
    let run = interval_of g.T.Integer.rank c.in-Some.range in
    taken-ordered g.T.Integer.value_count (g.I.Draw.may_give c.args.iter)
    (g.I.Draw.may_give t)
    (g.met.I.DrawDisjoint.canonical c.args.iter c.requires)
    (runs_of g.T.Integer.rank c.loop-range.entries.items) run
    (λ rest may. c.loop-range.invariant.given (run ∷ rest)
    (g.met.I.Draw.answers s t (Some c.in-Some.range) c.in-Some.ensures.steps rest may))
    (g.met.I.Draw.sorted t c.in-Some.ensures.goes.keeps).some

-- The lengths of those taken so far and of this one add up to at most the size of the type.
pub add_assign-requires : goal.add_assign-requires
add_assign-requires g c =
    let laws = g.met.T.Integer in
    let s = c.loop-range.iter in
    let t = c.draw.new.self in
    let run = interval_of g.T.Integer.rank c.in-Some.range in
    let fits = taken-within g.T.Integer.value_count (g.I.Draw.may_give c.args.iter)
    (g.I.Draw.may_give t) (g.met.I.DrawDisjoint.canonical c.args.iter c.requires)
    (runs_of g.T.Integer.rank c.loop-range.entries.items) run
    (λ rest may. c.loop-range.invariant.given (run ∷ rest)
    (g.met.I.Draw.answers s t (Some c.in-Some.range) c.in-Some.ensures.steps rest may))
    (g.met.I.Draw.sorted t c.in-Some.ensures.goes.keeps).some in
    g.met.T.SafeLen.SafeLength.sum_allowed c.loop-range.length c.safe_len.result
    (omega (arith, fits, laws.lengths_suffice, c.loop-range.invariant.length, c.safe_len.ensures))

pub loop-range-preserved : goal.loop-range-preserved
loop-range-preserved g c =
    let s = c.loop-range.iter in
    let t = c.draw.new.self in
    let laws = g.met.T.Integer in
    let rank = g.T.Integer.rank in
    let n = g.T.Integer.value_count in
    let run = interval_of rank c.in-Some.range in
    let taken = runs_of rank c.loop-range.entries.items in
    let given = λ (rest : List Interval) (may : g.I.Draw.may_give t rest).
    c.loop-range.invariant.given (run ∷ rest)
    (g.met.I.Draw.answers s t (Some c.in-Some.range) c.in-Some.ensures.steps rest may) in
    let ordered = taken-ordered g.T.Integer.value_count (g.I.Draw.may_give c.args.iter)
    (g.I.Draw.may_give t) (g.met.I.DrawDisjoint.canonical c.args.iter c.requires)
    taken run given (g.met.I.Draw.sorted t c.in-Some.ensures.goes.keeps).some in
    let both = taken-canonical n (g.I.Draw.may_give c.args.iter)
    (g.I.Draw.may_give t) (g.met.I.DrawDisjoint.canonical c.args.iter c.requires)
    taken run given (g.met.I.Draw.sorted t c.in-Some.ensures.goes.keeps).some in
    let more = runs_of-taken rank c.loop-range.entries.items c.push.new.self.items
    (c.into_inner-start.result.0, c.into_inner-start.result.1) c.in-Some.range
    c.in_ok-push.ensures.items c.into_inner-start.ensures.start c.into_inner-start.ensures.end
    ordered in
    let exact = g.met.T.SafeLen.SafeLength.sum_exact c.loop-range.length c.safe_len.result
    c.add_assign.new.self c.add_assign.ensures.after in
    let sum = sum_by-append length_of taken (run ∷ []) in
    record {
      ready = c.in-Some.ensures.goes.keeps;
      finite = (c.in-Some.ensures.goes.on c.loop-range.invariant.finite).1;
      given = λ rest may.
          rw (more, append_assoc taken (run ∷ []) rest) (given rest may);
      length = rw more (omega (
        arith,
        exact,
        sum,
        c.loop-range.invariant.length,
        c.safe_len.ensures,
      ));
    }

-- If the stream ends, what was taken is one of the lists that it might give at first.
pub returns : goal.returns
returns g c =
    let n = g.T.Integer.value_count in
    let taken = runs_of g.T.Integer.rank c.loop-range.entries.items in
    let last = g.met.I.Draw.answers c.loop-range.iter c.draw.new.self None
    c.in_default.ensures.steps in
    let may = subst (g.I.Draw.may_give c.args.iter) (append-nil taken)
    (c.loop-range.invariant.given [] last) in
    let canonical = g.met.I.DrawDisjoint.canonical c.args.iter c.requires taken may in
    record {
      runs = may;
      kept = record {
        canonical = canonical;
        length = c.loop-range.invariant.length ∙ sum_by-canonical n taken canonical;
      };
    }
