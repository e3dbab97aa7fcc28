use Rattle.std.proofs.Common.{◌+◌, length}
use Rattle.rsb_streams.specs.OutOfPlace.{gap_of}
use Rattle.rsb_streams.proofs.lemmas.checking.FirstFault.{bad-here, below-here, checked-all, checked-none, checked-one, follows-after, place-past, place-within, spaced-take}
use Rattle.rsb_streams.proofs.out_of_place.first_bad.Goals as goal

pub loop-range-init : goal.loop-range-init
loop-range-init g c = checked-none g.T.Integer.rank (gap_of c.args.spacing) g.T.Integer.value_count c.args.ranges.now

pub returns-then-not-follows-clause-none : goal.returns-then-not-follows-clause-none
returns-then-not-follows-clause-none g c = (
  (λ impossible. absurd (cc)),
  (λ spaced.
      let rank = g.T.Integer.rank in
      let n = g.T.Integer.value_count in
      let within = place-within c.loop-range.position (length c.args.ranges.now) c.in-Some.ensures.lookup.0 in
      let follows = c.if-not-follows.ensures.found.1
      (follows-after rank (gap_of c.args.spacing) n c.args.ranges.now c.loop-range.position c.loop-range.previous
      c.loop-range.invariant c.in-Some.range.now within c.in-Some.ensures.lookup.1
      (spaced-take rank (gap_of c.args.spacing) n c.args.ranges.now (c.loop-range.position + 1) spaced)) in
      absurd (cc)),
)

pub returns-then-not-follows-clause-bad : goal.returns-then-not-follows-clause-bad
returns-then-not-follows-clause-bad g c =
    let within = place-within c.loop-range.position (length c.args.ranges.now) c.in-Some.ensures.lookup.0 in
    bad-here g.T.Integer.rank (gap_of c.args.spacing) g.T.Integer.value_count c.args.ranges.now c.loop-range.position
    c.loop-range.previous c.loop-range.invariant c.in-Some.range.now within
    c.in-Some.ensures.lookup.1
    (λ spaced. let follows = c.if-not-follows.ensures.found.1 spaced in cc)

pub returns-then-not-follows-clause-value : goal.returns-then-not-follows-clause-value
returns-then-not-follows-clause-value g c =
    let within = place-within c.loop-range.position (length c.args.ranges.now) c.in-Some.ensures.lookup.0 in
    below-here g.T.Integer.rank (gap_of c.args.spacing) g.T.Integer.value_count c.args.ranges.now c.loop-range.position
    c.loop-range.previous c.loop-range.invariant c.in-Some.range.now within
    c.in-Some.ensures.lookup.1 c.if-not-follows.ensures.value

pub loop-range-preserved : goal.loop-range-preserved
loop-range-preserved g c =
    let within = place-within c.loop-range.position (length c.args.ranges.now) c.in-Some.ensures.lookup.0 in
    checked-one g.T.Integer.rank (gap_of c.args.spacing) g.T.Integer.value_count c.args.ranges.now c.loop-range.position
    c.loop-range.previous c.loop-range.invariant c.in-Some.range.now within
    c.in-Some.ensures.lookup.1
    (c.if-not-follows.ensures.found.0 cc) c.if-not-follows.ensures.value c.end.result.now
    c.end.ensures

pub returns-clause-none : goal.returns-clause-none
returns-clause-none g c = (
  (λ _. checked-all g.T.Integer.rank (gap_of c.args.spacing) g.T.Integer.value_count c.args.ranges.now c.loop-range.position
      c.loop-range.previous c.loop-range.invariant
      (place-past c.loop-range.position (length c.args.ranges.now) c.in_default.ensures.lookup.0)),
  (λ _. cc),
)
