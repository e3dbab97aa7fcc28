use Rattle.std.proofs.Common.{◌+◌, ap, arith, refl}
use Rattle.range_set_blaze.proofs.lemmas.insertion.Joining.{joined-hull, joined-joining, reached-has, reached-lacks}
use Rattle.rsb_storage.proofs.lemmas.runs.Found.{two-values}
use Rattle.range_set_blaze.proofs.set.insert.touched.Goals as goal

-- If the first run that the new one reaches ends at or past its end, all of its values are members.
pub returns-then-ends_in-clause-within : goal.returns-then-ends_in-clause-within
returns-then-ends_in-clause-within g c none =
    reached-has g.T.Integer.rank g.T.Integer.value_count c.args.runs.now c.requires.canonical c.args.run c.args.run c.requires.order
    c.requires.value _ refl c.reached_at-first.result c.reached_at-first.ensures c.ends_in.result
    c.ends_in.ensures c.if-ends_in.true

-- Otherwise some of its values are not.
pub returns-clause-lacks : goal.returns-clause-lacks
returns-clause-lacks g c =
    (reached-lacks g.T.Integer.rank g.T.Integer.value_count c.args.runs.now c.requires.canonical c.args.run c.args.run c.requires.order
    c.requires.value _ refl c.reached_at-first.result c.reached_at-first.ensures c.ends_in.result
    c.ends_in.ensures c.if-ends_in.false).1

-- The joined run is the hull of the new run and those that it touches.
pub returns-clause-hull : goal.returns-clause-hull
returns-clause-hull g c =
    joined-hull g.T.Integer.rank g.T.Integer.value_count c.args.runs.now c.requires.canonical c.args.run
    (record { start = c.start_of-start.result; end = c.end_of-end.result }) c.requires.order
    c.requires.value (g.T.Integer.rank c.next_or_greatest.result + 1)
    (ap (λ bound. bound + 1) c.next_or_greatest.ensures) c.reached_at-first.result
    c.last_two.result.0 c.last_two.result.1 c.reached_at-first.ensures c.start_of-start.ensures
    c.last_two.ensures.two c.end_of-end.ensures

-- The result names the runs that the joined run covers.
pub returns-clause-joining : goal.returns-clause-joining
returns-clause-joining g c =
    let short = (reached-lacks g.T.Integer.rank g.T.Integer.value_count c.args.runs.now c.requires.canonical c.args.run c.args.run c.requires.order
    c.requires.value _ refl c.reached_at-first.result c.reached_at-first.ensures c.ends_in.result
    c.ends_in.ensures c.if-ends_in.false).0 in
    joined-joining g.T.Integer.rank g.T.Integer.value_count c.args.runs.now c.requires.canonical c.args.run
    (record { start = c.start_of-start.result; end = c.end_of-end.result }) c.requires.order
    c.requires.value (g.T.Integer.rank c.next_or_greatest.result + 1)
    (ap (λ bound. bound + 1) c.next_or_greatest.ensures) c.reached_at-first.result
    c.last_two.result.0 c.last_two.result.1 c.reached_at-first.ensures c.start_of-start.ensures
    c.last_two.ensures.two c.end_of-end.ensures c.past_start.result c.past_start-2.result
    c.past_start.ensures c.past_start-2.ensures short

-- The values that the calls take are of the type.
pub last_two-requires : goal.last_two-requires
last_two-requires g c = omega (arith, c.next_or_greatest.ensures, c.requires.value)

pub reached_at-first-requires-clause-two : goal.reached_at-first-requires-clause-two
reached_at-first-requires-clause-two g c = (
  g.T.Integer.rank c.next_or_greatest.result + 1,
  omega (arith, c.next_or_greatest.ensures, c.requires.order, c.requires.value),
  c.last_two.ensures.two,
)

pub end_of-end-requires-clause-last : goal.end_of-end-requires-clause-last
end_of-end-requires-clause-last g c = (two-values g.T.Integer.rank g.T.Integer.value_count
    c.args.runs.now c.requires.canonical (g.T.Integer.rank c.next_or_greatest.result + 1)
    c.last_two.result.0 c.last_two.result.1 c.last_two.ensures.two).1

pub past_start-requires-clause-run : goal.past_start-requires-clause-run
past_start-requires-clause-run g c = (two-values g.T.Integer.rank g.T.Integer.value_count
    c.args.runs.now c.requires.canonical (g.T.Integer.rank c.next_or_greatest.result + 1)
    c.last_two.result.0 c.last_two.result.1 c.last_two.ensures.two).0
