use Rattle.std.proofs.Common.{sym, ap, ◌∙◌, subst, rules}
use Rattle.std.proofs.lemmas.Fn.{always_returns_same}
use Rattle.std.specs.Range.{range_inclusive_start}
use Rattle.rsb_integer.specs.Rank.{intervals_of}
use Rattle.rsb_streams.specs.Stream.{HasSortedStarts}
use Rattle.rsb_streams.proofs.lemmas.sorting.Collected.{collects-end, collects-sorted, gathered, runs-sorted}
use Rattle.rsb_streams.proofs.lemmas.sorting.Sorted.{IsInOrder, StartsAscend}
use Rattle.rsb_streams.proofs.lemmas.sources.Vectors.{vec-calls, vec-sorted}
use Rattle.rsb_streams.proofs.sorted_starts_in_vec.UnionIter+T+SortedStartsInVec+T+A.from_iter.Given.{Over}
use Rattle.rsb_streams.proofs.sorted_starts_in_vec.UnionIter+T+SortedStartsInVec+T+A.from_iter.Goals as goal

-- Values are ordered as their ranks are.
in_order : (g : Over) → IsInOrder g.T.Integer.rank g.T.Integer.value_count g.T.Ord.cmp
in_order g =
    let laws = g.met.T.Integer in
    laws.in_order

-- The sort leaves the ranges sorted by start.
ascend : (g : Over) (c : goal.After-sort_unstable_by_key g) → StartsAscend g.T.Integer.rank
    g.T.Integer.value_count g.T.Ord.cmp (in_order g) c.sort_unstable_by_key.new.self.items
ascend g c =
    c.sort_unstable_by_key.ensures.sorted range_inclusive_start
    (always_returns_same _ _ _ (λ a r f' k. search rules))

-- The list is sorted by start.
pub new-requires : goal.new-requires
new-requires g c = λ source becomes.
    let rank = g.T.Integer.rank in
    let n = g.T.Integer.value_count in
    let ran = c.in_ok-kept.ensures.ran in
    let came = gathered rank n g.J.IntoIter.Iterator.next_gives c.into_iter.result
    c.new-joined.result ran.0 ran.3.0 ran.1 c.in_ok-kept.kept.items c.new-joined.ensures.gives ran.2
    ran.3.1 (ran.3.2 tt) ran.4.0 in
    vec-sorted rank n source
    (subst (λ items. HasSortedStarts n (intervals_of rank items)) (sym becomes.0)
    (collects-sorted rank n came.items c.in_ok-kept.kept.items c.sort_unstable_by_key.new.self.items
    came.collects c.sort_unstable_by_key.ensures.permutation g.T.Ord.cmp (in_order g) (ascend g c)))

-- The union of the list has the runs of what came.
pub returns-clause-gives : goal.returns-clause-gives
returns-clause-gives g c =
    let rank = g.T.Integer.rank in
    let n = g.T.Integer.value_count in
    let ran = c.in_ok-kept.ensures.ran in
    let came = gathered rank n g.J.IntoIter.Iterator.next_gives c.into_iter.result
    c.new-joined.result ran.0 ran.3.0 ran.1 c.in_ok-kept.kept.items c.new-joined.ensures.gives ran.2
    ran.3.1 (ran.3.2 tt) ran.4.0 in (
      c.into_iter.result,
      came.items,
      c.into_iter.ensures.into_iter_gives,
      came.drains,
      record {
        runs = λ runs may.
            runs-sorted rank n came.items c.in_ok-kept.kept.items
            c.sort_unstable_by_key.new.self.items came.collects
            c.sort_unstable_by_key.ensures.permutation runs
            (λ nothing. c.new-2.ensures.gives runs may (λ given at all.
            let may_come = c.new.ensures.gives given at in
            nothing given
            (vec-calls rank n may_come.0 given may_come.2
            ∙ ap (intervals_of rank) may_come.1.0) all));
        ends = collects-end rank n came.items c.in_ok-kept.kept.items came.collects;
      },
    )
