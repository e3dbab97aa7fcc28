-- The parts of canonical runs between two ranks.
use Rattle.std.proofs.Common.{◌≡◌, ℕ, true, false, min, nat_le, nat_lt, ◌&&◌, ◌+◌, ◌<◌, ◌≤◌, List, [], ◌∷◌, map, refl, ap, ◌∙◌, inl, inr, arith, subst}
use Rattle.std.specs.List.{Contains}
use Rattle.std.proofs.lemmas.Bool.{cases_lt}
use Rattle.std.proofs.lemmas.Bool.Decides.{nat_tests}
use Rattle.std.proofs.lemmas.List.Elements.{All-cons, All-filter, All-head, All-nil, All-tail}
use Rattle.rsb_integer.specs.Runs.{Interval, covers, from_to, members, AllEndBelow, IsCanonicalFrom, IsCanonicalIn}
use Rattle.rsb_integer.specs.Selection.{intersection}
use Rattle.rsb_integer.proofs.lemmas.Canonical.{canonical-lower}
use Rattle.rsb_integer.proofs.lemmas.List.{not_both, Contains-cases, Contains-head, Contains-tail}
use Rattle.rsb_integer.proofs.lemmas.Members.{covers-bounds, covers-inside, covers-outside, members-cons}
use Rattle.rsb_storage.specs.Set.{IsSetOf}
use Rattle.rsb_storage.specs.Split.{NoneOver}
use Rattle.rsb_storage.specs.Windows.{starting_within, up_to, IsWindow, ReachesIn}
use Rattle.rsb_storage.proofs.lemmas.runs.Apart.{contained-after, contained-maximal, contained-members, contained-one, starting-members}
use Rattle.rsb_storage.proofs.lemmas.runs.Starts.{starting-canonical, starting-canonical_in, starting-contains}

-- ---- up to a rank

-- If canonical intervals start at or below a rank, their parts up to that rank are canonical.
up_to-canonical : (last low : ℕ) (runs : List Interval) → IsCanonicalFrom low runs
    → ((run : Interval) → Contains runs run → run.first ≤ last)
    → IsCanonicalFrom low (map (up_to last) runs)
up_to-canonical last low [] canonical starts = tt
up_to-canonical last low (run ∷ runs) canonical starts =
    let here = starts run (Contains-head run runs) in
    let ordered = canonical.in_order in
    record {
      starts = canonical.starts;
      in_order = omega (arith, here, ordered);
      rest = canonical-lower (run.last + 2) (min run.last last + 2) (map (up_to last) runs)
          (omega arith)
          (up_to-canonical last (run.last + 2) runs canonical.rest
          (λ other found. starts other (Contains-tail run runs other found)));
    }

-- If the intervals end below n, so do these parts.
up_to-ends : (n last : ℕ) (runs : List Interval) → AllEndBelow n runs
    → AllEndBelow n (map (up_to last) runs)
up_to-ends n last [] ends = All-nil (λ (run : Interval). run.last < n)
up_to-ends n last (run ∷ runs) ends =
    let P : Interval → Type 0 = λ each. each.last < n in
    let here = All-head P run runs ends in
    All-cons P (up_to last run) (map (up_to last) runs) (omega (arith, here))
    (up_to-ends n last runs (All-tail P run runs ends))

-- The parts have the members up to that rank.
up_to-members : (last : ℕ) (runs : List Interval) (rank : ℕ)
    → members (map (up_to last) runs) rank ≡ (members runs rank && nat_le rank last)
up_to-members last [] rank = refl
up_to-members last (run ∷ runs) rank =
    let all = members-cons run runs rank in
    let some = members-cons (up_to last run) (map (up_to last) runs) rank in
    let rest = up_to-members last runs rank in
    let here : covers (up_to last run) rank ≡ (covers run rank && nat_le rank last) =
    grind (arith, nat_tests) in
    some ∙ rw (here, rest, all) (grind arith)

module _ (n : ℕ) (runs : List Interval) (first last : ℕ) (parts : List Interval)
    (is : IsWindow n runs first last parts) where
  -- So the parts of a window up to its last rank are canonical.
  pub window-canonical : IsCanonicalIn n (map (up_to last) parts)
  window-canonical = record {
    apart = up_to-canonical last 0 parts is.canonical.apart is.starts;
    within = up_to-ends n last parts is.canonical.within;
  }

  -- They have the members from its first rank to its last.
  pub window-members : IsSetOf (map (up_to last) parts)
      (intersection (members runs) (covers (from_to first last)))
  window-members rank =
      up_to-members last parts rank
      ∙ elim (cases_lt last rank) [
        | inl past ↦ grind (arith, nat_tests, past)
        | inr within ↦
            let has = is.has rank within in
            grind (arith, nat_tests, within, has)
      ]

-- ---- from a rank on

-- If canonical intervals all start at a rank or past it, they are canonical from that rank on.
pub canonical-raise : (low from : ℕ) (runs : List Interval) → IsCanonicalFrom low runs
    → ((run : Interval) → Contains runs run → from ≤ run.first) → IsCanonicalFrom from runs
canonical-raise low from [] canonical starts = tt
canonical-raise low from (run ∷ runs) canonical starts = record {
  starts = starts run (Contains-head run runs);
  in_order = canonical.in_order;
  rest = canonical.rest;
}

module _ (n : ℕ) (runs : List Interval) (canonical : IsCanonicalIn n runs) (first last : ℕ)
    (order : first ≤ last) where
  -- The runs that start in the window are runs of the list, and their starts are in it.
  pub within-contains : (run : Interval) → Contains (starting_within first last runs) run
      → Contains runs run × (first ≤ run.first) × (run.first ≤ last)
  within-contains run found =
      let is = starting-contains (λ start. nat_le first start && nat_le start last) runs run found in
      (is.0, grind (arith, nat_tests, is.1), grind (arith, nat_tests, is.1))

  -- If no run extends over the first rank, the runs that start in the window form the window.
  pub window-none : NoneOver runs first
      → IsWindow n runs first last (starting_within first last runs)
  window-none none = record {
    canonical = starting-canonical_in (λ start. nat_le first start && nat_le start last) n runs
        canonical;
    starts = λ part found. (within-contains part found).2;
    has = λ rank within.
        starting-members (λ start. nat_le first start && nat_le start last) runs rank
        (nat_le first rank)
        (λ run found here.
        let bounds = covers-bounds run rank here in
        elim (cases_lt run.first first) [
          | inl less ↦ elim (cases_lt rank first) [
            | inl low ↦ grind (arith, nat_tests, less, low)
            | inr high ↦ absurd (none run found less (omega (arith, high, bounds.1)))
          ]
          | inr from ↦ grind (arith, nat_tests, from, within, bounds.0)
        ]);
  }

  module _ (part : Interval) (reaches : ReachesIn runs first part) where
    -- A run that starts in the window starts at least two ranks past the end of a part that reaches
    -- in.
    part-apart : (run : Interval) → Contains (starting_within first last runs) run
        → part.last + 2 ≤ run.first
    part-apart run found =
        let is = within-contains run found in
        let over = reaches.run in
        let ordered = (contained-maximal n runs canonical run is.0).in_order in
        let less = reaches.before in
        let starts = is.1 in
        let ends = reaches.ends in
        elim (cases_lt (over.last + 1) run.first) [
          | inl later ↦ omega (arith, later, ends)
          | inr near ↦ elim (cases_lt over.last run.first) [
            | inl touches ↦ absurd (not_both (members runs run.first)
                (contained-members n runs canonical run run.first is.0 (omega arith) ordered)
                (contained-after n runs canonical over run.first reaches.among
                (omega (arith, near, touches))))
            | inr meets ↦
                let same = ap (λ (each : Interval). each.first)
                (contained-one n runs canonical over run run.first reaches.among is.0
                (covers-inside over run.first (omega (arith, less, starts)) meets)
                (covers-inside run run.first (omega arith) ordered)) in
                absurd (omega (arith, same, less, starts))
          ]
        ]

    -- The runs that start in the window have the members of the window that are past this part.
    rest-members : (rank : ℕ) → rank ≤ last → members (starting_within first last runs) rank
        ≡ (members runs rank && (nat_le first rank && nat_lt part.last rank))
    rest-members rank within =
        starting-members (λ start. nat_le first start && nat_le start last) runs rank
        (nat_le first rank && nat_lt part.last rank)
        (λ run found here.
        let bounds = covers-bounds run rank here in
        let over = reaches.run in
        let less = reaches.before in
        let to = reaches.reaches in
        let ends = reaches.ends in
        elim (cases_lt run.first first) [
          | inl before ↦ elim (cases_lt rank first) [
            | inl low ↦ grind (arith, nat_tests, before, low)
            | inr high ↦
                let same = ap (λ (each : Interval). each.last)
                (contained-one n runs canonical over run first reaches.among found
                (covers-inside over first (omega (arith, less)) to)
                (covers-inside run first (omega (arith, before)) (omega (arith, high, bounds.1)))) in
                let under : rank ≤ part.last = omega (arith, same, ends, bounds.1) in
                grind (arith, nat_tests, before, under)
          ]
          | inr from ↦ elim (cases_lt part.last rank) [
            | inl past ↦ grind (arith, nat_tests, from, within, bounds.0, past)
            | inr inside ↦
                let same = ap (λ (each : Interval). each.first)
                (contained-one n runs canonical over run rank reaches.among found
                (covers-inside over rank (omega (arith, less, from, bounds.0))
                (omega (arith, inside, ends))) here) in
                absurd (omega (arith, same, less, from))
          ]
        ])

    -- This part and the runs that start in the window are canonical.
    reached-canonical : IsCanonicalIn n (part ∷ starting_within first last runs)
    reached-canonical =
        let starts = reaches.starts in
        let ends = reaches.ends in
        let to = reaches.reaches in
        let inside = (contained-maximal n runs canonical reaches.run reaches.among).in_type in
        record {
          apart = record {
            starts = omega arith;
            in_order = omega (arith, starts, ends, to);
            rest = canonical-raise 0 (part.last + 2) (starting_within first last runs)
                (starting-canonical (λ start. nat_le first start && nat_le start last) 0 runs
                canonical.apart) part-apart;
          };
          within = All-cons (λ (each : Interval). each.last < n) part
              (starting_within first last runs) (omega (arith, ends, inside))
              (All-filter (λ (each : Interval). nat_le first each.first && nat_le each.first last)
              (λ (each : Interval). each.last < n) runs canonical.within);
        }

    -- Below the window, this part has no rank. Within the window and up to its end, it has all of
    -- them, and so does the list.
    part-has : (rank : ℕ) → rank ≤ part.last
        → covers part rank ≡ (members runs rank && nat_le first rank)
    part-has rank to =
        let starts = reaches.starts in
        let ends = reaches.ends in
        let less = reaches.before in
        elim (cases_lt rank first) [
          | inl low ↦
              let lacks = covers-outside part rank (inl (omega (arith, low, starts))) in
              let below : nat_le first rank ≡ false = grind (arith, nat_tests, low) in
              rw (lacks, below) (grind arith)
          | inr high ↦
              let here = covers-inside part rank (omega (arith, high, starts)) to in
              let from : nat_le first rank ≡ true = grind (arith, nat_tests, high) in
              let member = contained-members n runs canonical reaches.run rank reaches.among
              (omega (arith, less, high)) (omega (arith, to, ends)) in
              rw (here, member, from) refl
        ]

    -- Together with the runs that start in the window, it has the members from `first` on.
    reached-members : (rank : ℕ) → rank ≤ last
        → members (part ∷ starting_within first last runs) rank
        ≡ (members runs rank && nat_le first rank)
    reached-members rank within =
        let all = members-cons part (starting_within first last runs) rank in
        let rest = rest-members rank within in
        elim (cases_lt part.last rank) [
          | inl past ↦
              let ends = reaches.ends in
              let to = reaches.reaches in
              let lacks = covers-outside part rank (inr past) in
              let from : nat_le first rank ≡ true = grind (arith, nat_tests, past, ends, to) in
              let later : nat_lt part.last rank ≡ true = grind (arith, nat_tests, past) in
              all ∙ rw (lacks, rest, from, later) (grind arith)
          | inr to ↦
              let here = part-has rank to in
              let not_later : nat_lt part.last rank ≡ false = grind (arith, nat_tests, to) in
              grind (arith, all, rest, here, not_later)
        ]

    -- This part and the runs that start in the window form the window.
    pub window-reached : IsWindow n runs first last (part ∷ starting_within first last runs)
    window-reached =
        let starts = reaches.starts in
        record {
          canonical = reached-canonical;
          starts = λ run found.
              elim (Contains-cases part (starting_within first last runs) run found) [
                | inl same ↦
                    subst (λ (each : Interval). each.first ≤ last) same (omega (arith, starts, order))
                | inr later ↦ (within-contains run later).2
              ];
          has = reached-members;
        }
