use Rattle.std.proofs.Common.{ap, refl, rules, subst, sym, ◌∙◌}
use Rattle.std.proofs.lemmas.Fn.{always_returns_same}
use Rattle.std.proofs.lemmas.Result.{IfOk-weaker}
use Rattle.std.specs.Range.{range_inclusive_start}
use Rattle.rsb_integer.specs.Rank.{intervals_of}
use Rattle.rsb_integer.specs.Runs.{members}
use Rattle.rsb_streams.specs.Stream.{HasSortedStarts}
use Rattle.rsb_streams.proofs.lemmas.sorting.Collected.{collects-end, collects-sorted, runs-sorted, Collects}
use Rattle.rsb_streams.proofs.lemmas.sorting.Sorted.{IsInOrder}
use Rattle.rsb_streams.proofs.lemmas.sources.Vectors.{vec-calls, vec-sorted}
use Rattle.rsb_storage.specs.Storage.{IsKept}
use Rattle.range_set_blaze.proofs.lemmas.gathering.SetOperations.{set-of_runs}
use Rattle.range_set_blaze.proofs.set.RangeSetBlaze.from_list.Given.{Over}
use Rattle.range_set_blaze.proofs.set.RangeSetBlaze.from_list.Goals as goal

-- A list in order is that of the runs.
pub invariant_of-result : goal.invariant_of-result
invariant_of-result g c =
    subst (λ runs. IsKept g.T.Integer.value_count runs
    (g.T.SafeLen.SafeLength.number c.in-Some.length))
    (ap (intervals_of g.T.Integer.rank) c.deref.ensures.value ∙ sym c.in_ok-runs.ensures)
    c.in-Some.ensures

-- Values are ordered as their ranks are.
in_order : (g : Over) → IsInOrder g.T.Integer.rank g.T.Integer.value_count g.T.Ord.cmp
in_order g =
    let laws = g.met.T.Integer in
    laws.in_order

-- Another list is sorted, which leaves its ranges sorted by start.
pub new-requires : goal.new-requires
new-requires g c = λ source becomes.
    let rank = g.T.Integer.rank in
    let n = g.T.Integer.value_count in
    let ranges = c.args.ranges.items in
    let sorted = c.sort_unstable_by_key.new.self.items in
    vec-sorted rank n source
    (subst (λ items. HasSortedStarts n (intervals_of rank items)) (sym becomes.0)
    (collects-sorted rank n ranges ranges sorted
    (record { proper = c.requires; same = λ place. refl })
    c.sort_unstable_by_key.ensures.permutation g.T.Ord.cmp (in_order g)
    (c.sort_unstable_by_key.ensures.sorted range_inclusive_start
    (always_returns_same _ _ _ (λ a r f' k. search rules)))))

-- The union of the sorted list has the runs of the members.
pub returns : goal.returns
returns g c =
    let rank = g.T.Integer.rank in
    let n = g.T.Integer.value_count in
    let ranges = c.args.ranges.items in
    let sorted = c.sort_unstable_by_key.new.self.items in
    let collects : Collects rank n ranges ranges =
    record { proper = c.requires; same = λ place. refl } in
    IfOk-weaker c.from_sorted_disjoint.result _ _
    (λ set may. set-of_runs n (members (intervals_of rank ranges)) set
    (collects-end rank n ranges ranges collects)
    (runs-sorted rank n ranges ranges sorted collects
    c.sort_unstable_by_key.ensures.permutation set
    (λ nothing. c.new-2.ensures.gives set may (λ given at all.
    let may_come = c.new.ensures.gives given at in
    nothing given
    (vec-calls rank n may_come.0 given may_come.2
    ∙ ap (intervals_of rank) may_come.1.0) all))))
    c.from_sorted_disjoint.ensures.runs
