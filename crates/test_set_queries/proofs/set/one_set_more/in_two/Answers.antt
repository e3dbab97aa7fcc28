use Rattle.std.proofs.Common.{◌≡◌, ℕ, Bool, true, ◌&&◌, ◌||◌, nat_le, map, take, ap, arith}
use Rattle.std.proofs.lemmas.Bool.Decides.{nat_tests}
use Rattle.rsb_integer.specs.Runs.{members}
use Rattle.rsb_integer.specs.Selection.{how_many}
use Rattle.range_set_blaze.proofs.lemmas.HowMany.{at_least-next}
use Rattle.test_set_queries.proofs.set.one_set_more.in_two.Goals as goal

-- Every number is at least 0.
none-wanted : (many : ℕ) → nat_le 0 many ≡ true
none-wanted many = grind (arith, nat_tests)

-- With one more set, `once` has the members of at least 1 of the sets.
once-more : (new old item so_far none all same : Bool) → new ≡ (old || item) → old ≡ so_far
    → all ≡ (so_far || (none && same)) → none ≡ true → item ≡ same → new ≡ all
once-more new old item so_far none all same adds is next wanted one = cc

-- With one more set, `twice` has the members of at least 2 of the sets.
twice-more : (new old before item so_far some all same : Bool) → new ≡ (old || (before && item))
    → old ≡ so_far → before ≡ some → all ≡ (so_far || (some && same)) → item ≡ same → new ≡ all
twice-more new old before item so_far some all same adds is first next one = cc

-- Both still hold with one more set.
pub loop-set-preserved : goal.loop-set-preserved
loop-set-preserved c = (
  λ rank. once-more _ _ _ _ _ _ _ (c.in_ok-take_up.ensures.once rank) (c.loop-set.invariant.0 rank)
      (at_least-next members 0 c.args.sets.now c.loop-set.set-index c.set-item.result
      c.loop-set-test.true rank)
      (none-wanted (how_many (map members (take c.loop-set.set-index c.args.sets.now)) rank))
      (ap (λ set. members set rank) c.set-item.is),
  λ rank. twice-more _ _ _ _ _ _ _ _ (c.in_ok-take_up.ensures.twice rank)
      (c.loop-set.invariant.1 rank) (c.loop-set.invariant.0 rank)
      (at_least-next members 1 c.args.sets.now c.loop-set.set-index c.set-item.result
      c.loop-set-test.true rank)
      (ap (λ set. members set rank) c.set-item.is),
)
