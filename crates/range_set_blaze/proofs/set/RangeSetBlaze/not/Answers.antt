use Rattle.std.proofs.Common.{◌∙◌}
use Rattle.range_set_blaze.proofs.lemmas.gathering.SetOperations.{set-of_complement}
use Rattle.range_set_blaze.proofs.set.RangeSetBlaze.not.Goals as goal

-- The stream gives the gaps of the set.
pub returns : goal.returns
returns g c =
    let made = set-of_complement g.T.Integer.value_count c.from_sorted_disjoint.result _
    c.from_sorted_disjoint.ensures.runs c.args.self.now (λ runs at. at ∙ c.ranges-2.ensures.ranges)
    c.ranges-2.ensures.runs c.complement.ensures.made.gives in
    record { members = made.0; run_count = made.1 }
