use Rattle.std.proofs.Common.{◌≡◌, ◌<◌, nat_le, not, sym, ◌∙◌, subst}
use Rattle.std.specs.Range.{range_inclusive_start, range_inclusive_end}
use Rattle.rsb_integer.specs.Rank.{interval_of}
use Rattle.rsb_streams.proofs.lemmas.checking.Comparisons.{IsRanked, ends-below, some-test}
use Rattle.rsb_streams.proofs.lemmas.sources.Known.{range-start}
use Rattle.rsb_streams.proofs.out_of_place.has_members.Given.{Over}
use Rattle.rsb_streams.proofs.out_of_place.has_members.Goals as goal
use Rattle.rsb_streams.proofs.out_of_place.has_members.Goals.{After-is_empty}
use borrow.Author.Tests.{le-leb, leb-true}

ranked : (g : Over) → IsRanked g.T.Integer.rank g.T.Integer.value_count g.T.PartialOrd.partial_cmp
    g.T.Ord.cmp
ranked g = record { matches = g.met.T.Ord.matches_partial_cmp; in_order = g.met.T.Integer.in_order }

-- The ends of the range are values of the type.
left : (g : Over) (c : After-is_empty g)
    → g.T.Integer.rank (range_inclusive_start c.args.range.now) < g.T.Integer.value_count
left g c = subst (λ each. g.T.Integer.rank each < g.T.Integer.value_count) c.start.ensures
    c.checked_add_one.ensures.value

right : (g : Over) (c : After-is_empty g)
    → g.T.Integer.rank (range_inclusive_end c.args.range.now) < g.T.Integer.value_count
right g c = subst (λ each. g.T.Integer.rank each < g.T.Integer.value_count) c.end.ensures
    c.checked_add_one-2.ensures.value

-- The range is non-empty exactly if `is_empty` returned false.
tests : (g : Over) (c : After-is_empty g)
    → nat_le (interval_of g.T.Integer.rank c.args.range.now).first
    (interval_of g.T.Integer.rank c.args.range.now).last ≡ not c.is_empty.result
tests g c = some-test (ranked g) c.args.range.now (left g c) (right g c) c.is_empty.result c.is_empty.ensures

pub returns-clause-value : goal.returns-clause-value
returns-clause-value g c =
    ends-below (ranked g) c.args.range.now (left g c) (right g c)

pub returns-clause-found : goal.returns-clause-found
returns-clause-found g c = (
  (λ is. leb-true _ _ (tests g c ∙ is)),
  (λ some. sym (tests g c) ∙ le-leb _ _ some),
)

pub returns-clause-start : goal.returns-clause-start
returns-clause-start g c is =
    sym (range-start g.T.Integer.rank c.args.range.now (leb-true _ _ (tests g c ∙ is)))
