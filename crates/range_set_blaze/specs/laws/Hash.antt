-- Equal sets feed a hasher the same input. This file is in `specs/` because a law must not cite
-- `proofs/`.
use Rattle.std.specs.Hash.{HashWrites}
use Rattle.std.specs.Prelude.{◌≡◌, ℕ, true, false, ◌&&◌, nat_lt, ◌++◌, ◌≤◌, List, flat_map}
use Rattle.std.proofs.Common.{sym, ◌∙◌, ap, inl, inr, arith}
use Rattle.std.proofs.lemmas.Bool.{cases_lt}
use Rattle.std.proofs.lemmas.Bool.Decides.{nat_tests}
use Rattle.rsb_integer.specs.Runs.{Interval, members}
use Rattle.rsb_integer.specs.Selection.{Selection, Agree}
use Rattle.rsb_integer.proofs.lemmas.Count.{count-agree}
use Rattle.range_set_blaze.specs.Hash.{selected_below, bounds_from, hashed_runs}
use Rattle.range_set_blaze.specs.laws.Order.{set_eq, same-agree}

-- A rank of n or more is not below n.
nat_lt-past : (rank n : ℕ) → n ≤ rank → nat_lt rank n ≡ false
nat_lt-past rank n most = grind (arith, nat_tests)

-- Sets that agree have the same ranks below n.
selected_below-agree : (n : ℕ) (left right : Selection) → Agree n left right → (rank : ℕ)
    → selected_below n left rank ≡ selected_below n right rank
selected_below-agree n left right same rank = elim (cases_lt rank n) [
  | inl less ↦ ap (λ here. nat_lt rank n && here) (same rank less)
  | inr most ↦
      let past = nat_lt-past rank n most in
      ap (λ test. test && left rank) past ∙ sym (ap (λ test. test && right rank) past)
]

-- Sets that are equal by `==` feed a hasher the same input.
pub hashed_runs-same : (length_fed value_fed : ℕ → HashWrites) (n : ℕ) (left right : List Interval)
    → set_eq n left right ≡ true
    → hashed_runs length_fed value_fed n left ≡ hashed_runs length_fed value_fed n right
hashed_runs-same length_fed value_fed n left right is =
    let same = same-agree n (members left) (members right) is in
    let counted = count-agree n (members left) (members right) same in
    let ranks : selected_below n (members left) ≡ selected_below n (members right) =
    λ i rank. selected_below-agree n (members left) (members right) same rank i in
    λ i. length_fed (counted i) ++ flat_map value_fed (bounds_from (ranks i) 0 n)
