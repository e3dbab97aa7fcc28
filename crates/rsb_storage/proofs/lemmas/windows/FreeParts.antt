-- The gaps in an interval, from the runs between its first and its last free rank.
use Rattle.std.proofs.Common.{◌≡◌, ℕ, true, false, nat_le, ◌&&◌, ◌+◌, ◌<◌, ◌≤◌, List, inl, inr, arith}
use Rattle.std.specs.List.{Contains}
use Rattle.std.proofs.lemmas.Bool.{cases_lt}
use Rattle.std.proofs.lemmas.Bool.Decides.{nat_tests}
use Rattle.std.proofs.lemmas.List.Elements.{All-contains_itself, All-weaker}
use Rattle.rsb_integer.specs.Runs.{Interval, covers, members, IsCanonicalIn}
use Rattle.rsb_integer.specs.Selection.{difference}
use Rattle.rsb_integer.proofs.lemmas.List.{not_both}
use Rattle.rsb_integer.proofs.lemmas.Members.{covers-bounds}
use Rattle.rsb_storage.specs.GapsIn.{gaps_between, IsFreePart, LieBetween}
use Rattle.rsb_storage.specs.Set.{IsSetOf}
use Rattle.rsb_storage.specs.Windows.{starting_within}
use Rattle.rsb_storage.proofs.lemmas.runs.Apart.{contained-maximal, contained-members, starting-members}
use Rattle.rsb_storage.proofs.lemmas.runs.Starts.{starting-canonical_in}
use Rattle.rsb_storage.proofs.lemmas.windows.Gaps.{gaps-canonical, gaps-members}
use Rattle.rsb_storage.proofs.lemmas.windows.Parts.{canonical-raise, within-contains}

module _ (n : ℕ) (runs : List Interval) (canonical : IsCanonicalIn n runs) (window part : Interval)
    (known : window.last < n) (free : IsFreePart runs window part) where
  abbrev within : List Interval
  within = starting_within part.first part.last runs

  -- No run has a free rank.
  not-over : (run : Interval) (rank : ℕ) → Contains runs run → members runs rank ≡ false
      → run.first ≤ rank → rank ≤ run.last → ⊥
  not-over run rank found lacks from to =
      not_both (members runs rank) (contained-members n runs canonical run rank found from to) lacks

  within-starts : (run : Interval) → Contains within run → part.first + 1 ≤ run.first
  within-starts run found =
      let is = within-contains n runs canonical part.first part.last free.in_order run found in
      let order = (contained-maximal n runs canonical run is.0).in_order in
      elim (cases_lt part.first run.first) [
        | inl later ↦ omega (arith, later)
        | inr from ↦ absurd (not-over run part.first is.0 free.first_free from
            (omega (arith, order, is.1)))
      ]

  within-ends : (run : Interval) → Contains within run → run.last < part.last
  within-ends run found =
      let is = within-contains n runs canonical part.first part.last free.in_order run found in
      elim (cases_lt run.last part.last) [
        | inl less ↦ less
        | inr over ↦ absurd (not-over run part.last is.0 free.last_free is.2 over)
      ]

  -- The runs that start in the part lie between its ends.
  pub within-between : LieBetween n part.first part.last within
  within-between =
      let to = free.to in
      record {
        in_order = free.in_order;
        in_type = omega (arith, known, to);
        later = canonical-raise 0 (part.first + 1) within
            (starting-canonical_in (λ start. nat_le part.first start && nat_le start part.last) n
            runs canonical).apart within-starts;
        earlier = All-weaker (Contains within) (λ (run : Interval). run.last < part.last)
            within-ends within (All-contains_itself within);
      }

  -- They have the members of the part.
  within-members : (rank : ℕ) → part.first ≤ rank → rank ≤ part.last
      → members within rank ≡ members runs rank
  within-members rank from to =
      let some = starting-members (λ start. nat_le part.first start && nat_le start part.last) runs
      rank true
      (λ run found here.
      let bounds = covers-bounds run rank here in
      elim (cases_lt run.first part.first) [
        | inl less ↦ absurd (not-over run part.first found free.first_free (omega (arith, less))
            (omega (arith, from, bounds.1)))
        | inr later ↦ grind (arith, nat_tests, later, bounds.0, to)
      ]) in
      grind (arith, some)

  abbrev gaps : List Interval
  gaps = gaps_between part.first part.last within

  -- So the gaps that they leave are canonical.
  pub free-canonical : IsCanonicalIn n gaps
  free-canonical = gaps-canonical n part.first part.last within within-between

  -- These gaps have the ranks of the interval that are not members.
  pub free-members : IsSetOf gaps (difference (covers window) (members runs))
  free-members rank =
      let all = gaps-members n part.first part.last within within-between rank in
      let from = free.from in
      let to = free.to in
      elim (cases_lt rank part.first) [
        | inl less ↦ elim (cases_lt rank window.first) [
          | inl before ↦ grind (arith, nat_tests, all, less, before)
          | inr inside ↦
              let member = free.before rank inside less in
              grind (arith, nat_tests, all, less, member)
        ]
        | inr more ↦ elim (cases_lt part.last rank) [
          | inl past ↦ elim (cases_lt window.last rank) [
            | inl after ↦ grind (arith, nat_tests, all, past, after)
            | inr inside ↦
                let member = free.after rank past inside in
                grind (arith, nat_tests, all, past, member)
          ]
          | inr less ↦
              let same = within-members rank more less in
              grind (arith, nat_tests, all, same, more, less, from, to)
        ]
      ]
