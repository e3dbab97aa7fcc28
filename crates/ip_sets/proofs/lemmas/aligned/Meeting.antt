-- Two blocks that have a rank in common: one contains the other.
use Rattle.std.specs.Int.{◌∣◌}
use Rattle.std.proofs.Common.{ℕ, ◌+◌, ◌^◌, ◌≤◌, sym, subst, inl, inr, arith}
use Rattle.std.proofs.Math.Nat.{dvd-add, dvd_refl, dvd_trans}
use Rattle.std.proofs.lemmas.Bool.{cases_lt}
use Rattle.std.proofs.lemmas.Nat.{pow_pos}
use Rattle.range_set_blaze.specs.Runs.{Interval}
use Rattle.ip_sets.specs.Blocks.{IsBlock}
use Rattle.ip_sets.proofs.lemmas.aligned.Powers.{none_between, pow-divides}

-- A block is not empty.
pub block-ordered : (block : Interval) → IsBlock block → block.first ≤ block.last
block-ordered block is =
    let some = pow_pos is.free in
    let size = is.size in
    omega (arith, some, size)

-- The number of ranks of a block divides the rank past its end.
block-end : (block : Interval) (is : IsBlock block) → 2 ^ is.free ∣ block.last + 1
block-end block is = subst (λ n. 2 ^ is.free ∣ n) (sym is.size)
    (dvd-add (2 ^ is.free) is.aligned (dvd_refl (2 ^ is.free)))

-- If two blocks have a rank in common, the larger one contains the other.
pub meet-inside : (small large : Interval) (is : IsBlock small) (also : IsBlock large) (rank : ℕ)
    → is.free ≤ also.free → small.first ≤ rank → rank ≤ small.last → large.first ≤ rank
    → rank ≤ large.last → (large.first ≤ small.first) × (small.last ≤ large.last)
meet-inside small large is also rank less from to start end =
    let size = is.size in
    let divides = pow-divides is.free also.free less in (
      elim (cases_lt small.first large.first) [
        | inl later ↦ absurd (none_between (2 ^ is.free) small.first large.first is.aligned
            (dvd_trans (2 ^ is.free) divides also.aligned) later (omega (arith, size, to, start)))
        | inr most ↦ most
      ],
      elim (cases_lt large.last small.last) [
        | inl sooner ↦ absurd (none_between (2 ^ is.free) small.first (large.last + 1) is.aligned
            (dvd_trans (2 ^ is.free) divides (block-end large also)) (omega (arith, from, end))
            (omega (arith, size, sooner)))
        | inr most ↦ most
      ],
    )
