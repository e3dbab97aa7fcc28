-- The first run of a set that is long enough, found in a list of its runs from a value on.
use Rattle.std.proofs.Common.{◌≡◌, ◌↔◌, ℕ, Bool, IsTrue, false, ◌&&◌, nat_le, nat_lt, ◌+◌, ◌-◌, ◌<◌, ◌≤◌, List, ◌∙◌, ap, inl, inr, sym, arith}
use Rattle.std.proofs.lemmas.Bool.{cases_lt}
use Rattle.std.proofs.lemmas.Bool.Decides.{nat_tests}
use Rattle.rsb_integer.specs.Runs.{Interval, members, IsMaximalRun}
use Rattle.rsb_integer.specs.Selection.{Selection, intersection, Agree}
use Rattle.rsb_integer.proofs.lemmas.List.{not_both}
use Rattle.rsb_integer.proofs.lemmas.Members.{covers-bounds}
use Rattle.range_set_blaze.specs.FirstFit.{AllShorter, IsFirstFit}
use Rattle.range_set_blaze.specs.Set.{IsSetOf}
use Rattle.range_set_blaze.specs.Split.{from_on}

-- The runs between a value and the last one of the type have the members from that value on.
pub members-from : (n : ℕ) (set runs : List Interval) (start end value last : ℕ) → start ≡ value
    → end ≡ last → last + 1 ≡ n
    → IsSetOf runs (intersection (members set) (λ rank. nat_le start rank && nat_lt rank (end + 1)))
    → Agree n (members runs) (intersection (members set) (from_on value))
members-from n set runs start end value last begins ends most all rank below =
    all rank ∙ ap (λ (inside : Bool). members set rank && inside)
    (grind (arith, nat_tests, begins, ends, most, below))

-- A test that fails says that a length is below another.
pub falls-short : (test : Bool) (len most : ℕ) → IsTrue test ↔ (len ≤ most) → test ≡ false
    → most < len
falls-short test len most tells fails = elim (cases_lt most len) [
  | inl less ↦ less
  | inr more ↦ absurd (not_both test (tells.1 more) fails)
]

-- A maximal run of a set is also one of each set that agrees with it.
maximal-in : (n : ℕ) (one other : Selection) → Agree n one other → (run : Interval)
    → IsMaximalRun n one run → IsMaximalRun n other run
maximal-in n one other same run maximal =
    let ordered = maximal.in_order in
    let below = maximal.in_type in
    record {
      in_order = ordered;
      in_type = below;
      whole = λ rank here.
          let bounds = covers-bounds run rank here in
          sym (same rank (omega (arith, bounds.1))) ∙ maximal.whole rank here;
      begins_here = λ above. sym (same (run.first - 1) (omega arith)) ∙ maximal.begins_here above;
      ends_here = λ more. sym (same (run.last + 1) more) ∙ maximal.ends_here more;
    }

module _ (n : ℕ) (one other : Selection) (same : Agree n one other) (len : ℕ) where
  back : Agree n other one
  back rank below = sym (same rank below)

  -- If two sets agree, the first run that is long enough is the same in both.
  pub fit-along : (run : Interval) → IsFirstFit n one len run → IsFirstFit n other len run
  fit-along run fit = record {
    maximal = maximal-in n one other same run fit.maximal;
    long = fit.long;
    first = λ each maximal. fit.first each (maximal-in n other one back each maximal);
  }

  -- If there is none in one, there is none in the other.
  pub shorter-along : AllShorter n one len → AllShorter n other len
  shorter-along shorter run maximal = shorter run (maximal-in n other one back run maximal)
