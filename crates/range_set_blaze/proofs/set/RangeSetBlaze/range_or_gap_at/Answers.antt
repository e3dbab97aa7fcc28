use Rattle.std.proofs.Common.{arith, sym}
use Rattle.rsb_storage.specs.Storage.{run_of}
use Rattle.rsb_storage.proofs.lemmas.runs.Storage.{lt-fails}
use Rattle.rsb_storage.proofs.lemmas.look_up.Gaps.{contained-around, gap-first, gap-found}
use Rattle.rsb_storage.proofs.lemmas.runs.Apart.{contained-maximal, contained-members, last-gap, none-gap}
use Rattle.range_set_blaze.proofs.set.RangeSetBlaze.range_or_gap_at.Goals as goal
use Rattle.range_set_blaze.proofs.set.RangeSetBlaze.range_or_gap_at.Goals.{in-None, in-Some+else-not-ends_before}

-- The last run that starts at or before the value ends within the type.
pub ends_before-requires-clause-end : goal.ends_before-requires-clause-end
ends_before-requires-clause-end g c =
    (contained-maximal _ _ c.self.invariant.canonical _ c.in-Some.ensures.among).in_type

-- If that run does not end before the value, it has the value.
pub returns-then-not-ends_before-clause-found : goal.returns-then-not-ends_before-clause-found
returns-then-not-ends_before-clause-found g c =
    let starts = c.in-Some.ensures.starts in
    rw (← c.known-value.ensures.same, ← c.self.view_is)
    (sym (contained-members _ _ c.self.invariant.canonical
    (run_of g.T.Integer.rank c.in-Some.run') _ c.in-Some.ensures.among (omega (arith, starts))
    (lt-fails c.ends_before.result _ _ c.ends_before.ensures c.if-not-ends_before.true)))

pub returns-then-not-ends_before-clause-run : goal.returns-then-not-ends_before-clause-run
returns-then-not-ends_before-clause-run g c present =
    let starts = c.in-Some.ensures.starts in
    rw (
      c.new.ensures.start,
      c.new.ensures.end,
      c.new.ensures.exhausted,
      ← c.known-value.ensures.same,
      ← c.self.view_is,
    )
    (contained-around _ _ c.self.invariant.canonical _ (run_of g.T.Integer.rank c.in-Some.run')
    c.in-Some.ensures.among (omega (arith, starts))
    (lt-fails c.ends_before.result _ _ c.ends_before.ensures c.if-not-ends_before.true))

-- Otherwise the value is in a gap: that run ends before it, or there is no such run.
pub gap_end-end-requires-clause-gap : goal.gap_end-end-requires-clause-gap
gap_end-end-requires-clause-gap g c = elim c.match-up_to.branch [
  | in-Some+else-not-ends_before w ↦ last-gap _ _ c.self.invariant.canonical _
      (run_of g.T.Integer.rank w.in-Some.run') w.in-Some.ensures _
      (w.ends_before.ensures.0 w.if-not-ends_before.false) (omega arith)
  | in-None w ↦ none-gap _ _ c.self.invariant.canonical _ w.in-None.ensures _ (omega arith)
]

pub returns-clause-found : goal.returns-clause-found
returns-clause-found g c =
    rw (← c.known-value.ensures.same, ← c.self.view_is)
    (sym (elim c.match-up_to.branch [
      | in-Some+else-not-ends_before w ↦ last-gap _ _ c.self.invariant.canonical _
          (run_of g.T.Integer.rank w.in-Some.run') w.in-Some.ensures _
          (w.ends_before.ensures.0 w.if-not-ends_before.false) (omega arith)
      | in-None w ↦ none-gap _ _ c.self.invariant.canonical _ w.in-None.ensures _ (omega arith)
    ]))

pub returns-clause-gap : goal.returns-clause-gap
returns-clause-gap g c absent =
    rw (
      c.new-2.ensures.start,
      c.new-2.ensures.end,
      c.new-2.ensures.exhausted,
      ← c.known-value.ensures.same,
      ← c.self.view_is,
    )
    (elim c.match-up_to.branch [
      | in-Some+else-not-ends_before w ↦
          rw (w.start-is, w.add_one-start.ensures)
          (gap-found _ _ c.self.invariant.canonical _ (run_of g.T.Integer.rank w.in-Some.run') _
          w.in-Some.ensures (w.ends_before.ensures.0 w.if-not-ends_before.false) c.gap_end-end.ensures)
      | in-None w ↦
          rw (w.start-is, w.min_value-start.ensures)
          (gap-first _ _ c.self.invariant.canonical _ _ w.in-None.ensures c.gap_end-end.ensures)
    ])
