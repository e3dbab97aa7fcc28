use Rattle.std.proofs.Common.{◌∙◌}
use Rattle.range_set_blaze.proofs.SetOperations.{set-of_complement}
use Rattle.test_set_queries.proofs.set.lacking.lacking.Goals as goal

-- The new set is built from the gaps of the set's ranges.
pub returns : goal.returns
returns g c = (set-of_complement g.T.Integer.value_count c.from_sorted_disjoint.result _
    c.from_sorted_disjoint.ensures.runs c.args.set.now (λ runs at. at ∙ c.ranges-2.ensures.ranges)
    c.ranges-2.ensures.runs c.complement-gaps.ensures.made.gives).0
