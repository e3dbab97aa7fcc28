-- Values as ranges of one value each.
use Rattle.std.proofs.Common.{◌≡◌, ℕ, List, [], ◌∷◌, refl, ap, ◌∙◌, arith}
use Rattle.std.proofs.lemmas.Bool.Decides.{nat_tests}
use Rattle.std.specs.Iterator.{Yields}
use Rattle.std.specs.Prelude.{Option}
use Rattle.std.specs.declared.ops.RangeInclusive.{RangeInclusive}
use Rattle.rsb_integer.specs.Rank.{interval_of, intervals_of}
use Rattle.rsb_integer.specs.Runs.{Interval, members}
use Rattle.rsb_integer.proofs.lemmas.Members.{members-cons}
use Rattle.rsb_streams.specs.Items.{GaveAll}
use Rattle.range_set_blaze.specs.Algebra.{ranks_of}
use Rattle.rsb_storage.specs.Set.{IsSetOf}
use Rattle.range_set_blaze.specs.Singles.{range_of_one, singles_steps}
use Rattle.range_set_blaze.specs.declared.set.collect.values_as_ranges.Singles.{Singles}

module _ {T I : Type 0} (rank : T → ℕ) (steps : I → Option T → I → Type 0) where
  -- If calls gave ranges, calls of the iterator inside gave their values.
  singles-yields : (ranges : List (RangeInclusive T)) (s t : Singles I)
      → Yields (singles_steps steps) s ranges t
      → (values : List T) × Yields steps s.values values t.values
      × ((point : ℕ) → members (intervals_of rank ranges) point ≡ ranks_of rank values point)
  singles-yields [] s t is = ([], ap (λ (each : Singles I). each.values) is, λ point. refl)
  singles-yields (range ∷ ranges) s t calls =
      let value = calls.1.0 in
      let rest = singles-yields ranges calls.0 t calls.2 in (
        value ∷ rest.0,
        (calls.0.values, calls.1.1, rest.1),
        λ point.
            let others = rest.2 point in
            let first = members-cons (interval_of rank (range_of_one value)) (intervals_of rank ranges) point
            in
            rw calls.1.2 (grind (arith, nat_tests)),
      )

  -- So a set of the members of these ranges is the set of these values.
  pub singles-gave : {J : Type 0} (becomes : J → I → Type 0) (value : J) (iter : I)
      (singles : Singles I) (set : List Interval) → becomes value iter → singles.values ≡ iter
      → GaveAll (λ s other. other ≡ s) (singles_steps steps) singles
      (λ items. IsSetOf set (members (intervals_of rank items)))
      → GaveAll becomes steps value (λ items. IsSetOf set (ranks_of rank items))
  singles-gave becomes value iter singles set is holds gave =
      let all = singles-yields gave.1 gave.0 gave.3.1.0 gave.3.1.1 in (
        gave.0.values,
        all.0,
        rw (ap (λ (each : Singles I). each.values) gave.2 ∙ holds) is,
        (gave.3.0.values, (gave.3.1.0.values, all.1, gave.3.1.2)),
        λ point. gave.4 point ∙ all.2 point,
      )
