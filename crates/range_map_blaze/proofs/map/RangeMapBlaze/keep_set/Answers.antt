use Rattle.std.proofs.Common.{◌∙◌, ◌≡◌, ◌++◌, ◌∷◌, [], append_assoc, append-nil, ap, subst, sym}
use Rattle.rsb_integer.specs.Rank.{interval_of, intervals_of}
use Rattle.rsb_integer.specs.Runs.{members}
use Rattle.range_map_blaze.specs.Map.{value_at, IsWithout}
use Rattle.range_map_blaze.proofs.lemmas.Keys.{in-type-lacks, without-gaps, without-none, without-run}
use Rattle.range_map_blaze.proofs.map.RangeMapBlaze.keep_set.Goals as goal

-- At first nothing was removed. The gaps have all values that are no members.
pub loop-gap-init : goal.loop-gap-init
loop-gap-init g c =
    let rank = g.T.Integer.rank in
    let n = g.T.Integer.value_count in
    let gaps = c.gaps_in-gap-items.ensures.members tt in (
      [],
      intervals_of rank c.gaps_in-gap-items.result,
      ap (intervals_of rank) c.into_iter-gap-iterator.ensures.into_iter_gives,
      (λ each below. gaps each ∙ in-type-lacks n each (members c.args.set.now each) below),
      c.ranges_len.ensures.canonical,
      without-none (value_at c.args.self.now),
    )

-- The values of one more gap were removed.
pub loop-gap-preserved : goal.loop-gap-preserved
loop-gap-preserved g c =
    let rank = g.T.Integer.rank in
    let run = interval_of rank c.in-Some.gap in
    let done = c.loop-gap.invariant.0 in (
      done ++ run ∷ [],
      c.loop-gap.invariant.1,
      append_assoc done (run ∷ []) (intervals_of rank c.next.new.self)
          ∙ ap (λ items. done ++ intervals_of rank items) (sym c.in-Some.ensures.steps)
          ∙ c.loop-gap.invariant.2,
      c.loop-gap.invariant.3,
      c.loop-gap.invariant.4,
      without-run (value_at c.args.self.now) (value_at c.loop-gap.self)
          (value_at c.remove_range.new.self) done run c.loop-gap.invariant.5
          c.in_ok-remove_range.ensures.values,
    )

-- In the end, the values of all gaps were removed.
pub returns : goal.returns
returns g c =
    let rank = g.T.Integer.rank in
    let done = c.loop-gap.invariant.0 in
    let gaps = c.loop-gap.invariant.1 in
    let all : done ≡ gaps = sym (append-nil done)
    ∙ ap (λ items. done ++ intervals_of rank items) (sym c.in-None.ensures.steps.0)
    ∙ c.loop-gap.invariant.2 in
    without-gaps g.T.Integer.value_count c.args.self.now (members c.args.set.now) (members gaps)
    (value_at c.loop-gap.self) c.loop-gap.invariant.4 c.loop-gap.invariant.3
    (subst (λ runs. IsWithout (value_at c.args.self.now) (members runs) (value_at c.loop-gap.self)) all
    c.loop-gap.invariant.5)
