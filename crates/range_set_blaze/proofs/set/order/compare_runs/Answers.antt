use Rattle.std.proofs.Common.{arith, refl, rules}
use Rattle.range_set_blaze.proofs.lemmas.order.CommonFronts.{ends-compared, passing-none, passing-tells, starts-tell}
use Rattle.range_set_blaze.proofs.set.order.compare_runs.Goals as goal

-- At first no runs were compared.
pub loop-ends-init : goal.loop-ends-init
loop-ends-init g c = record {
  counted = rw c.iter-left.ensures.runs (omega arith);
  tells = rw (c.iter-left.ensures.runs, c.iter-right.ensures.runs)
      (passing-none g.T.Integer.value_count _ _ c.requires.left c.requires.right);
}

-- There is at most one iteration more than there are runs.
pub overflow_add-turns : goal.overflow_add-turns
overflow_add-turns g c =
    let counted = c.loop-ends.invariant.counted in
    let fits = c.iter-left.ensures.fits in
    search (rules, counted, fits)

-- If the last run of the left list ends first, the runs left in that list determine the order.
pub returns-in-Less : goal.returns-in-Less
returns-in-Less g c =
    rw c.order_by_rest.ensures (rw c.in-Less.is at c.loop-ends.invariant).tells

-- If that of the right list ends first, those left in the right list do.
pub returns-in-Greater : goal.returns-in-Greater
returns-in-Greater g c =
    rw (c.reverse.ensures, c.order_by_rest-in-Greater.ensures)
    (rw c.in-Greater.is at c.loop-ends.invariant).tells

-- If both lists have ended, the sets are equal.
pub returns-in_default-next_run : goal.returns-in_default-next_run
returns-in_default-next_run g c =
    passing-tells c.requires.left c.requires.right
    (rw (c.in-Equal.is, c.in_default.ensures, c.in_default-next_run.ensures) at c.loop-ends.invariant).tells
    tt refl refl

-- If only the left list has ended, the left set is less.
pub returns-in_default : goal.returns-in_default
returns-in_default g c =
    passing-tells c.requires.left c.requires.right
    (rw (c.in-Equal.is, c.in_default.ensures, c.in-Some-next_run.ensures) at c.loop-ends.invariant).tells
    tt refl refl

-- If only the right list has ended, the left set is greater.
pub returns-in_default-next_run-2 : goal.returns-in_default-next_run-2
returns-in_default-next_run-2 g c =
    passing-tells c.requires.left c.requires.right
    (rw (c.in-Equal.is, c.in-Some.ensures, c.in_default-next_run-2.ensures) at c.loop-ends.invariant).tells
    tt refl refl

-- If the next runs have different starts, these determine the order.
pub returns-then-is_ne : goal.returns-then-is_ne
returns-then-is_ne g c =
    starts-tell g.met.T.Integer.in_order c.requires.left c.requires.right _ _
    (rw (c.in-Equal.is, c.in-Some.ensures, c.in-Some-next_run-2.ensures) at c.loop-ends.invariant).tells
    c.cmp-starts.ensures c.if-is_ne.ensures

-- Otherwise their ends are compared in the next iteration.
pub loop-ends-preserved : goal.loop-ends-preserved
loop-ends-preserved g c =
    ends-compared g.met.T.Integer.in_order c.requires.left c.requires.right _ _
    (rw (c.in-Equal.is, c.in-Some.ensures, c.in-Some-next_run-2.ensures) at c.loop-ends.invariant).tells
    c.cmp-starts.ensures c.if-is_ne.ensures _ c.cmp-ends.ensures
