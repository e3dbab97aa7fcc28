use Rattle.std.proofs.Common.{◌<◌, true, false, sym, subst, inl, inr}
use Rattle.std.specs.Prelude.{IfSome}
use Rattle.std.specs.Range.{range_inclusive_start}
use Rattle.rsb_streams.specs.UnsortedDisjoint.{unsorted_disjoint, IsProper}
use Rattle.rsb_streams.proofs.lemmas.unsorted.Apart.{apart-told, empty-told, is_after, joined-first, joined-last, joined-proper, meet-told, proper-told, told-past}
use Rattle.rsb_streams.proofs.lemmas.checking.Comparisons.{IsRanked}
use Rattle.rsb_streams.proofs.lemmas.unsorted.Loop.{answer-last, answer-span, so_far-first, so_far-joined, so_far-none, so_far-skip, span-goes}
use Rattle.rsb_streams.proofs.unsorted_disjoint.UnsortedDisjointIterator.next.Given.{Over}
use Rattle.rsb_streams.proofs.unsorted_disjoint.UnsortedDisjointIterator.next.Goals as goal
use Rattle.rsb_streams.proofs.unsorted_disjoint.UnsortedDisjointIterator.next.Goals.{then-past-via-then-past, then-past-via-else-past+then-before}

ranked : (g : Over) → IsRanked g.T.Integer.rank g.T.Integer.value_count g.T.PartialOrd.partial_cmp
    g.T.Ord.cmp
ranked g = record { matches = g.met.T.Ord.matches_partial_cmp; in_order = g.met.T.Integer.in_order }

pub loop-range-init : goal.loop-range-init
loop-range-init g c =
    so_far-none g.T.Integer g.I.Iterator c.args.self.now c.requires

-- An empty range is passed over.
pub loop-range-preserved-then-is_empty : goal.loop-range-preserved-then-is_empty
loop-range-preserved-then-is_empty g c =
    let rank = g.T.Integer.rank in
    let n = g.T.Integer.value_count in
    so_far-skip g.T.Integer g.I.Iterator
    c.args.self.now c.loop-range.self c.next.new.self c.in-Some.range c.loop-range.invariant
    c.in-Some.ensures.steps c.in-Some.ensures.goes
    (empty-told (ranked g) c.in-Some.range
    (subst (λ value. rank value < n) c.start.ensures c.checked_add_one.ensures.value)
    (subst (λ value. rank value < n) c.end.ensures c.checked_add_one-after.ensures.value)
    c.is_empty.result c.is_empty.ensures (sym c.if-is_empty.true))

-- The first range is gathered.
pub loop-range-preserved-in_default-take : goal.loop-range-preserved-in_default-take
loop-range-preserved-in_default-take g c =
    let rank = g.T.Integer.rank in
    let n = g.T.Integer.value_count in
    so_far-first g.T.Integer g.I.Iterator
    c.args.self.now c.loop-range.self c.next.new.self c.in-Some.range c.loop-range.invariant
    c.in-Some.ensures.steps c.in-Some.ensures.goes
    (proper-told (ranked g) c.in-Some.range
    (subst (λ value. rank value < n) c.start.ensures c.checked_add_one.ensures.value)
    (subst (λ value. rank value < n) c.end.ensures c.checked_add_one-after.ensures.value)
    c.is_empty.result c.is_empty.ensures (sym c.if-is_empty.false))
    (sym c.in_default-take.ensures.value)

-- A range that is apart begins a new piece.
pub returns-then-past-clause-steps : goal.returns-then-past-clause-steps
returns-then-past-clause-steps g c =
    let rank = g.T.Integer.rank in
    let n = g.T.Integer.value_count in
    let is = sym c.in-Some-take.ensures.value in
    let proper = proper-told (ranked g) c.in-Some.range
    (subst (λ value. rank value < n) c.start.ensures c.checked_add_one.ensures.value)
    (subst (λ value. rank value < n) c.end.ensures c.checked_add_one-after.ensures.value)
    c.is_empty.result c.is_empty.ensures (sym c.if-is_empty.false) in
    answer-span g.T.Integer g.I.Iterator
    c.args.self.now c.loop-range.self c.next.new.self c.in-Some.range c.loop-range.invariant
    c.in-Some.ensures.steps c.in-Some.ensures.goes proper c.in-Some-take.gathered is
    (apart-told (ranked g) c.in-Some-take.gathered c.in-Some.range
    (subst (λ each. IfSome each (IsProper rank n)) is c.loop-range.invariant.ready.proper) proper
    c.checked_add_one-in-Some.result c.checked_add_one-after.result
    (is_after (ranked g) c.in-Some-take.gathered c.end-in-Some.result.now
    c.checked_add_one-in-Some.result c.end-in-Some.ensures c.checked_add_one-in-Some.ensures.none
    c.checked_add_one-in-Some.ensures.next)
    (is_after (ranked g) c.in-Some.range c.end.result.now
    c.checked_add_one-after.result c.end.ensures c.checked_add_one-after.ensures.none
    c.checked_add_one-after.ensures.next)
    (elim c.then-past.branch [
      | then-past-via-then-past w ↦
          inl (told-past (ranked g) c.is_past-past.result true
          c.checked_add_one-in-Some.result c.start-in-Some.result.now
          (range_inclusive_start c.in-Some.range) w.if-past.true c.is_past-past.ensures
          c.start-in-Some.ensures)
      | then-past-via-else-past+then-before w ↦
          inr (told-past (ranked g) c.is_past-before.result true
          c.checked_add_one-after.result c.start-in-Some-2.result.now
          (range_inclusive_start c.in-Some-take.gathered) w.if-before.true c.is_past-before.ensures
          c.start-in-Some-2.ensures)
    ]))

pub returns-then-past-clause-goes : goal.returns-then-past-clause-goes
returns-then-past-clause-goes g c =
    let rank = g.T.Integer.rank in
    let n = g.T.Integer.value_count in
    span-goes g.T.Integer g.I.Iterator
    c.args.self.now c.loop-range.self c.next.new.self c.in-Some.range c.loop-range.invariant
    c.in-Some.ensures.steps c.in-Some.ensures.goes
    (proper-told (ranked g) c.in-Some.range
    (subst (λ value. rank value < n) c.start.ensures c.checked_add_one.ensures.value)
    (subst (λ value. rank value < n) c.end.ensures c.checked_add_one-after.ensures.value)
    c.is_empty.result c.is_empty.ensures (sym c.if-is_empty.false))
    c.in-Some-take.gathered (sym c.in-Some-take.ensures.value)

-- A range that overlaps or touches joins the piece.
pub loop-range-preserved : goal.loop-range-preserved
loop-range-preserved g c =
    let rank = g.T.Integer.rank in
    let n = g.T.Integer.value_count in
    let is = sym c.in-Some-take.ensures.value in
    let held = subst (λ each. IfSome each (IsProper rank n)) is c.loop-range.invariant.ready.proper in
    let proper = proper-told (ranked g) c.in-Some.range
    (subst (λ value. rank value < n) c.start.ensures c.checked_add_one.ensures.value)
    (subst (λ value. rank value < n) c.end.ensures c.checked_add_one-after.ensures.value)
    c.is_empty.result c.is_empty.ensures (sym c.if-is_empty.false) in
    so_far-joined g.T.Integer g.I.Iterator
    c.args.self.now c.loop-range.self c.next.new.self c.in-Some.range c.loop-range.invariant
    c.in-Some.ensures.steps c.in-Some.ensures.goes proper c.in-Some-take.gathered c.joined.result is
    (joined-proper (ranked g) c.in-Some-take.gathered c.in-Some.range held
    proper c.joined.result c.joined.ensures.start c.joined.ensures.end c.joined.ensures.exhausted)
    (meet-told (ranked g) c.in-Some-take.gathered c.in-Some.range held proper
    c.checked_add_one-in-Some.result c.checked_add_one-after.result
    (is_after (ranked g) c.in-Some-take.gathered c.end-in-Some.result.now
    c.checked_add_one-in-Some.result c.end-in-Some.ensures c.checked_add_one-in-Some.ensures.none
    c.checked_add_one-in-Some.ensures.next)
    (is_after (ranked g) c.in-Some.range c.end.result.now
    c.checked_add_one-after.result c.end.ensures c.checked_add_one-after.ensures.none
    c.checked_add_one-after.ensures.next)
    (told-past (ranked g) c.is_past-past.result false
    c.checked_add_one-in-Some.result c.start-in-Some.result.now
    (range_inclusive_start c.in-Some.range) c.if-past.false c.is_past-past.ensures
    c.start-in-Some.ensures)
    (told-past (ranked g) c.is_past-before.result false
    c.checked_add_one-after.result c.start-in-Some-2.result.now
    (range_inclusive_start c.in-Some-take.gathered) c.if-before.false c.is_past-before.ensures
    c.start-in-Some-2.ensures))
    (joined-first (ranked g) c.in-Some-take.gathered c.in-Some.range held
    proper c.joined.result c.joined.ensures.start c.joined.ensures.end c.joined.ensures.exhausted)
    (joined-last (ranked g) c.in-Some-take.gathered c.in-Some.range held
    proper c.joined.result c.joined.ensures.start c.joined.ensures.end c.joined.ensures.exhausted)

-- At the end, the call returns what is gathered.
pub returns-clause-steps : goal.returns-clause-steps
returns-clause-steps g c =
    subst (λ answer. (unsorted_disjoint g.T.Integer g.I.Iterator).next_gives c.args.self.now answer
    (record { iter = c.next.new.self; gathered = c.take-2.new.self })) (sym c.take-2.ensures.value)
    (subst (λ held. (unsorted_disjoint g.T.Integer g.I.Iterator).next_gives c.args.self.now
    c.loop-range.self.gathered (record { iter = c.next.new.self; gathered = held }))
    (sym c.take-2.ensures.after)
    (answer-last g.T.Integer g.I.Iterator
    c.args.self.now c.loop-range.self c.next.new.self c.loop-range.invariant
    c.in_default.ensures.steps))
