use Rattle.std.proofs.Common.{nat_lt, of_calls, rules}
use Rattle.std.proofs.lemmas.Fn.{always_returns_same}
use Rattle.test_sets.proofs.set.retained.keep_long.Goals as goal

-- The result of the closure depends only on its range.
pub returns : goal.returns
returns g c = c.ranges_retain.ensures.exact (λ run. nat_lt run.first run.last)
    (always_returns_same _ _ _ (λ range answer after called. search (rules, of_calls)))
