use Rattle.std.proofs.Common.{◌<◌, sym, ◌∙◌, subst}
use Rattle.rsb_integer.specs.Rank.{interval_of}
use Rattle.rsb_streams.proofs.lemmas.checking.Fresh.{none-if_empty, one-canonical, one-if_some}
use Rattle.rsb_streams.proofs.lemmas.checking.Comparisons.{IsRanked, empty-ranks, ends-below, some-ranks}
use Rattle.rsb_streams.proofs.range_once.RangeOnceFromRangeInclusive.from.Given.{Over}
use Rattle.rsb_streams.proofs.range_once.RangeOnceFromRangeInclusive.from.Goals as goal
use Rattle.rsb_integer.proofs.lemmas.Canonical.{canonical-none}

ranked : (g : Over) → IsRanked g.T.Integer.rank g.T.Integer.value_count g.T.PartialOrd.partial_cmp
    g.T.Ord.cmp
ranked g = record { matches = g.met.T.Ord.matches_partial_cmp; in_order = g.met.T.Integer.in_order }

-- An empty range gives nothing.
pub returns-then-is_empty : goal.returns-then-is_empty
returns-then-is_empty g c =
    let rank = g.T.Integer.rank in
    let n = g.T.Integer.value_count in
    let left = subst (λ each. rank each < n) c.start.ensures c.checked_add_one.ensures.value in
    let right = subst (λ each. rank each < n) c.end.ensures c.checked_add_one-2.ensures.value in
    let empty = empty-ranks (ranked g) c.args.range
    left right c.if-is_empty.ensures in
    record {
      ready = canonical-none n;
      gives = λ runs at. at ∙ sym (none-if_empty (interval_of rank c.args.range) empty);
    }

-- A non-empty range gives its run.
pub returns : goal.returns
returns g c =
    let rank = g.T.Integer.rank in
    let n = g.T.Integer.value_count in
    let left = subst (λ each. rank each < n) c.start.ensures c.checked_add_one.ensures.value in
    let right = subst (λ each. rank each < n) c.end.ensures c.checked_add_one-2.ensures.value in
    let some = some-ranks (ranked g) c.args.range
    left right c.if-is_empty.ensures in
    let below = ends-below (ranked g) c.args.range
    left right in
    record {
      ready = one-canonical n (interval_of rank c.args.range) some below;
      gives = λ runs at. at ∙ sym (one-if_some (interval_of rank c.args.range) some);
    }
