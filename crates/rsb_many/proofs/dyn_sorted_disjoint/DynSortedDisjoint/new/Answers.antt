use Rattle.std.proofs.Common.{◌∷◌, ◌++◌, [], ◌∙◌, ap, append_assoc, subst}
use Rattle.std.proofs.lemmas.List.{append-nil, map-append}
use Rattle.std.specs.Prelude.{List, Some, None}
use Rattle.rsb_integer.specs.Rank.{interval_of, intervals_of}
use Rattle.rsb_integer.specs.Runs.{Interval}
use Rattle.rsb_streams.specs.Stream.{Outcomes}
use Rattle.rsb_many.proofs.dyn_sorted_disjoint.DynSortedDisjoint.new.Goals as goal

-- Once no range comes, the stream might at first have given the list that was collected.
all_given : (may_now may_first : Outcomes) (taken : List Interval) → may_now []
    → ((rest : List Interval) → may_now rest → may_first (taken ++ rest)) → may_first taken
all_given may_now may_first taken none given =
    subst may_first (append-nil taken) (given [] none)

-- What was collected, with one more range, followed by what may still come, might come at first.
pub loop-range-preserved : goal.loop-range-preserved
loop-range-preserved g c =
    let rank = g.T.Integer.rank in
    let s = c.loop-range.stream in
    let t = c.draw.new.self in
    let run = interval_of rank c.in-Some.range in
    let taken = intervals_of rank c.loop-range.ranges.items in
    let more = ap (intervals_of rank) c.in_ok-push.ensures.items
    ∙ map-append (interval_of rank) c.loop-range.ranges.items (c.in-Some.range ∷ []) in
    record {
      ready = c.in-Some.ensures.goes.keeps;
      finite = (c.in-Some.ensures.goes.on c.loop-range.invariant.finite).1;
      given = λ rest may. rw (more, append_assoc taken (run ∷ []) rest)
          (c.loop-range.invariant.given (run ∷ rest)
          (g.met.I.Draw.answers s t (Some c.in-Some.range) c.in-Some.ensures.steps rest may));
    }

-- The list was given by a stream whose lists are canonical.
pub returns-clause-ready : goal.returns-clause-ready
returns-clause-ready g c =
    let taken = intervals_of g.T.Integer.rank c.loop-range.ranges.items in
    let none = g.met.I.Draw.answers c.loop-range.stream c.draw.new.self None
    c.in_default.ensures.steps in
    rw c.into_iter.ensures.rest (g.met.I.DrawDisjoint.canonical c.args.stream c.requires taken
    (all_given (g.I.Draw.may_give c.loop-range.stream) (g.I.Draw.may_give c.args.stream) taken none
    c.loop-range.invariant.given))

pub returns-clause-gives : goal.returns-clause-gives
returns-clause-gives g c = λ runs same.
    let taken = intervals_of g.T.Integer.rank c.loop-range.ranges.items in
    let none = g.met.I.Draw.answers c.loop-range.stream c.draw.new.self None
    c.in_default.ensures.steps in
    rw (same, c.into_iter.ensures.rest)
    (all_given (g.I.Draw.may_give c.loop-range.stream) (g.I.Draw.may_give c.args.stream) taken none
    c.loop-range.invariant.given)
