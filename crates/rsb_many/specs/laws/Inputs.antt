-- The number of ranges left in many inputs.
use Rattle.std.proofs.Common.{◌≡◌, ℕ, zero, suc, Bool, true, false, refl}
use Rattle.std.specs.Iterator.{Count, count_map, count_unless, IsFinite}
use Rattle.rsb_streams.specs.laws.Merge.{both-finite}
use Rattle.rsb_many.specs.Inputs.{sum_below}

-- If the counts of an input that has not ended are finite, so are those of the input.
pub left-finite : (over : Bool) (f : ℕ → ℕ) (left : Count) → (over ≡ false → IsFinite left)
    → IsFinite (count_map f (count_unless over left))
left-finite true f left ends = tt
left-finite false f left ends = ends refl

-- If each of the counts is finite, so is their sum.
pub sum_below-finite : (count : ℕ) (counts : ℕ → Count) → ((place : ℕ) → IsFinite (counts place))
    → IsFinite (sum_below count counts)
sum_below-finite zero counts ends = tt
sum_below-finite (suc count) counts ends = both-finite (counts zero)
    (sum_below count (λ place. counts (suc place))) (ends zero)
    (sum_below-finite count (λ place. counts (suc place)) (λ place. ends (suc place)))
