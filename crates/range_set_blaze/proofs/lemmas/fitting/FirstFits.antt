-- The first run, or the first gap, that is long enough.
use Rattle.std.proofs.Common.{◌≡◌, ◌⊎◌, ℕ, true, false, not, nat_lt, ◌+◌, ◌-◌, ◌<◌, ◌≤◌, List, [], ◌∷◌, sym, ap, ◌∙◌, inl, inr, arith, subst}
use Rattle.std.specs.List.{Contains}
use Rattle.std.proofs.lemmas.Bool.{cases_Bool, cases_lt}
use Rattle.std.proofs.lemmas.Bool.Decides.{nat_tests}
use Rattle.std.proofs.lemmas.List.Elements.{All-contains, All-head, All-tail}
use Rattle.rsb_integer.specs.Runs.{Interval, from_to, length_of, members, AllEndBelow, IsCanonicalFrom, IsCanonicalIn, IsMaximalRun}
use Rattle.rsb_integer.specs.Selection.{Selection, complement, intersection, IsEmpty}
use Rattle.rsb_integer.proofs.lemmas.Canonical.{canonical-lower, canonical-starts, canonical-tail}
use Rattle.rsb_integer.proofs.lemmas.List.{not_both, Contains-cases, Contains-head, Contains-tail}
use Rattle.rsb_integer.proofs.lemmas.Maximal.{maximal-around}
use Rattle.rsb_integer.proofs.lemmas.Members.{covers-bounds, covers-inside, members-below, members-end, members-head, members-tail}
use Rattle.rsb_integer.proofs.lemmas.Runs.{canonical-runs}
use Rattle.rsb_storage.specs.FirstFit.{AllShorter, AllShorterBefore, HasAllFrom, IsFirstFit, IsFirstFree, IsFree}
use Rattle.rsb_storage.specs.Split.{from_on}
use Rattle.rsb_storage.specs.Starts.{runs_past}
use Rattle.rsb_storage.proofs.lemmas.runs.Apart.{contained-maximal, contained-members, starting-members}
use Rattle.rsb_storage.proofs.lemmas.runs.Starts.{starting-canonical_in, starting-contains}
use Rattle.rsb_storage.proofs.lemmas.windows.Parts.{canonical-raise}

-- ---- runs

-- Whether `rest` has the runs that are left, and all runs that were passed are too short.
pub record ArePassed (n len : ℕ) (all rest : List Interval) : Type 0 where
  pub canonical : IsCanonicalIn n rest
  pub among : (run : Interval) → Contains rest run → Contains all run
  pub passed : (run : Interval) → Contains all run → Contains rest run ⊎ (length_of run < len)

module _ (n len : ℕ) (all : List Interval) (canonical : IsCanonicalIn n all) where
  module _ (run : Interval) (rest : List Interval) (left : ArePassed n len all (run ∷ rest)) where
    -- A run that is too short is passed.
    pub passed-next : length_of run < len → ArePassed n len all rest
    passed-next short = record {
      canonical = canonical-tail n run rest left.canonical;
      among = λ other found. left.among other (Contains-tail run rest other found);
      passed = λ other found. elim (left.passed other found) [
        | inr shorter ↦ inr shorter
        | inl there ↦ elim (Contains-cases run rest other there) [
          | inl same ↦ inr (subst (λ (each : Interval). length_of each < len) same short)
          | inr later ↦ inl later
        ]
      ];
    }

    -- A run that is long enough is the first such run.
    pub passed-fit : len ≤ length_of run → IsFirstFit n (members all) len run
    passed-fit long = record {
      maximal = contained-maximal n all canonical run
          (left.among run (Contains-head run rest));
      long = long;
      first = λ other maximal before. elim (left.passed other
          ((canonical-runs n all canonical.apart canonical.within).complete other maximal)) [
            | inr shorter ↦ shorter
            | inl there ↦ elim (Contains-cases run rest other there) [
              | inl same ↦
                  let starts = ap (λ (each : Interval). each.first) same in
                  absurd (omega (arith, starts, before))
              | inr later ↦
                  let starts = All-contains (λ (each : Interval). run.last + 2 ≤ each.first) rest other
                  (canonical-starts (run.last + 2) rest left.canonical.apart.rest) later in
                  let order = left.canonical.apart.in_order in
                  absurd (omega (arith, starts, order, before))
            ]
          ];
    }

  -- If no run is left, all runs are too short.
  pub passed-all : ArePassed n len all [] → AllShorter n (members all) len
  passed-all left run maximal = elim (left.passed run
      ((canonical-runs n all canonical.apart canonical.within).complete run maximal)) [
        | inr shorter ↦ shorter
        | inl there ↦ let none = there.1 in absurd (omega arith)
      ]

-- ---- maximal runs of any selection

module _ (n : ℕ) (selected : Selection) where
  -- If no rank is selected, all maximal runs are too short, since there are none.
  pub none-shorter : (len : ℕ) → ((rank : ℕ) → rank < n → selected rank ≡ false)
      → AllShorter n selected len
  none-shorter len none run maximal =
      let order = maximal.in_order in
      let within = maximal.in_type in
      absurd (not_both (selected run.first)
      (maximal.whole run.first (covers-inside run run.first (omega arith) order))
      (none run.first (omega (arith, order, within))))

  -- A maximal run that starts inside another is no longer than that.
  inside-shorter : (run other : Interval) → IsMaximalRun n selected run
      → IsMaximalRun n selected other → run.first ≤ other.first → other.first ≤ run.last
      → length_of other ≤ length_of run
  inside-shorter run other maximal also from to = elim (cases_lt run.last other.last) [
    | inr less ↦ omega (arith, from, less)
    | inl more ↦
        let within = also.in_type in
        absurd (not_both (selected (run.last + 1))
        (also.whole (run.last + 1)
        (covers-inside other (run.last + 1) (omega (arith, to)) (omega (arith, more))))
        (maximal.ends_here (omega (arith, more, within))))
  ]

  -- Suppose that `run` and all maximal runs before it are too short, and no rank between its end
  -- and `rank` is selected. Then all maximal runs that start before `rank` are too short.
  pub shorter-past : (len rank : ℕ) (run : Interval) → IsMaximalRun n selected run
      → AllShorterBefore n selected len run.first → length_of run < len
      → ((other : ℕ) → run.last < other → other < rank → selected other ≡ false)
      → AllShorterBefore n selected len rank
  shorter-past len rank run maximal shorter short none other also before =
      elim (cases_lt other.first run.first) [
        | inl earlier ↦ shorter other also earlier
        | inr from ↦ elim (cases_lt run.last other.first) [
          | inl later ↦
              let order = also.in_order in
              absurd (not_both (selected other.first)
              (also.whole other.first (covers-inside other other.first (omega arith) order))
              (none other.first later before))
          | inr to ↦
              let most = inside-shorter run other maximal also from to in
              omega (arith, most, short)
        ]
      ]

  -- If all maximal runs that start before the end of the type are too short, all of them are.
  pub shorter-all : (len : ℕ) → AllShorterBefore n selected len n → AllShorter n selected len
  shorter-all len shorter run maximal =
      let order = maximal.in_order in
      let within = maximal.in_type in
      shorter run maximal (omega (arith, order, within))

  -- If a run of one rank is long enough, no rank below the first maximal run is selected.
  pub none-before : (len bound : ℕ) → len ≤ 1 → AllShorterBefore n selected len bound
      → (rank : ℕ) → rank < bound → rank < n → selected rank ≡ false
  none-before len bound any shorter rank before below = elim (cases_Bool (selected rank)) [
    | inr out ↦ out
    | inl here ↦
        let found = maximal-around n selected rank below here in
        let bounds = covers-bounds found.0 rank found.2 in
        let order = found.1.in_order in
        let short = shorter found.0 found.1 (omega (arith, bounds.0, before)) in
        absurd (omega (arith, short, any, order))
  ]

  -- If there is no such run, no rank of the type is selected.
  pub none-at_all : (len : ℕ) → len ≤ 1 → AllShorter n selected len
      → (rank : ℕ) → rank < n → selected rank ≡ false
  none-at_all len any shorter rank below =
      none-before len (rank + 1) any (λ run maximal before. shorter run maximal) rank
      (omega arith) below

  -- The first rank of a maximal run is selected.
  pub first-selected : (run : Interval) → IsMaximalRun n selected run → selected run.first ≡ true
  first-selected run maximal =
      let order = maximal.in_order in
      maximal.whole run.first (covers-inside run run.first (omega arith) order)

-- ---- gaps

-- Whether the gaps that start before `start` are too short, the next gap starts there, and the runs
-- that are left are past it.
pub record AreGapsPassed (n : ℕ) (free : Selection) (len start : ℕ) (rest : List Interval) : Type 0
  where
    pub later : IsCanonicalFrom (start + 1) rest
    pub within : AllEndBelow n rest
    pub in_type : start < n
    pub same : (rank : ℕ) → start ≤ rank → free rank ≡ complement (members rest) rank
    pub begins : 0 < start → free (start - 1) ≡ false
    pub shorter : AllShorterBefore n free len start

-- The ranks at or past `from` that no run has.
abbrev pub free_from : ℕ → List Interval → Selection
free_from from runs = intersection (complement (members runs)) (from_on from)

-- At first no gap is passed.
pub gaps-none : (n len from : ℕ) (runs : List Interval) → IsCanonicalFrom (from + 1) runs
    → AllEndBelow n runs → from < n → AreGapsPassed n (free_from from runs) len from runs
gaps-none n len from runs later within known = record {
  later = later;
  within = within;
  in_type = known;
  same = λ rank more. grind (arith, nat_tests, more);
  begins = λ some. grind (arith, nat_tests, some);
  shorter = λ run maximal before.
      let order = maximal.in_order in
      let here = maximal.whole run.first (covers-inside run run.first (omega arith) order) in
      absurd (grind (arith, nat_tests, here, before));
}

module _ (n : ℕ) (free : Selection) (len start : ℕ) where
  module _ (run : Interval) (rest : List Interval)
      (left : AreGapsPassed n free len start (run ∷ rest)) (end : ℕ) (ends : end + 1 ≡ run.first) where
    -- The ranks of the next run are not free.
    taken : (rank : ℕ) → run.first ≤ rank → rank ≤ run.last → free rank ≡ false
    taken rank from to =
        let later = left.later.starts in
        left.same rank (omega (arith, later, from))
        ∙ ap not (members-head run rest rank from to)

    -- The gap up to the next run is maximal.
    gap-maximal : IsMaximalRun n free (from_to start end)
    gap-maximal =
        let later = left.later.starts in
        let order = left.later.in_order in
        let last = All-head (λ (each : Interval). each.last < n) run rest left.within in
        record {
          in_order = omega (arith, later, ends);
          in_type = omega (arith, ends, order, last);
          whole = λ rank here.
              let bounds = covers-bounds (from_to start end) rank here in
              left.same rank bounds.0
              ∙ ap not (members-below run.first (run ∷ rest) rank
              (record {
                starts = omega arith;
                in_order = left.later.in_order;
                rest = left.later.rest;
              })
              (omega (arith, bounds.1, ends)));
          begins_here = left.begins;
          ends_here = λ more. taken (end + 1) (omega (arith, ends)) (omega (arith, ends, order));
        }

    -- So if it is long enough, it is the first such gap.
    pub gaps-fit : len ≤ length_of (from_to start end) → IsFirstFit n free len (from_to start end)
    gaps-fit long = record { maximal = gap-maximal; long = long; first = left.shorter }

    -- Otherwise no gap that starts at or before the end of that run is long enough.
    gaps-short : length_of (from_to start end) < len → (rank : ℕ) → rank ≡ run.last + 1
        → AllShorterBefore n free len rank
    gaps-short short rank past =
        shorter-past n free len rank (from_to start end) gap-maximal left.shorter short
        (λ other more less. taken other (omega (arith, more, ends)) (omega (arith, less, past)))

    -- The next gap starts right past that run.
    pub gaps-next : length_of (from_to start end) < len → (next : ℕ) → next ≡ run.last + 1 → next < n
        → AreGapsPassed n free len next rest
    gaps-next short next past known = record {
      later = canonical-lower (run.last + 2) (next + 1) rest (omega (arith, past)) left.later.rest;
      within = All-tail (λ (each : Interval). each.last < n) run rest left.within;
      in_type = known;
      same = λ rank more.
          let order = left.later.in_order in
          let later = left.later.starts in
          left.same rank (omega (arith, more, past, order, later))
          ∙ ap not (members-tail run rest rank (inr (omega (arith, more, past))));
      begins = λ some.
          let order = left.later.in_order in
          taken (next - 1) (omega (arith, past, order)) (omega (arith, past));
      shorter = gaps-short short next past;
    }

    -- If the type ends with that run, all gaps are too short.
    pub gaps-done : length_of (from_to start end) < len → run.last + 1 ≡ n → AllShorter n free len
    gaps-done short last = shorter-all n free len (gaps-short short n (sym last))

  module _ (left : AreGapsPassed n free len start []) (end : ℕ) (ends : end + 1 ≡ n) where
    -- After all runs, the gap extends to the end of the type.
    last-maximal : IsMaximalRun n free (from_to start end)
    last-maximal =
        let known = left.in_type in
        record {
          in_order = omega (arith, ends, known);
          in_type = omega (arith, ends);
          whole = λ rank here.
              let bounds = covers-bounds (from_to start end) rank here in
              left.same rank bounds.0;
          begins_here = left.begins;
          ends_here = λ more. absurd (omega (arith, ends, more));
        }

    pub last-fit : len ≤ length_of (from_to start end) → IsFirstFit n free len (from_to start end)
    last-fit long = record { maximal = last-maximal; long = long; first = left.shorter }

    pub last-short : length_of (from_to start end) < len → AllShorter n free len
    last-short short =
        shorter-all n free len
        (shorter-past n free len n (from_to start end) last-maximal left.shorter short
        (λ other more less. absurd (omega (arith, more, less, ends))))

-- ---- gaps of a set

module _ (n : ℕ) (runs : List Interval) (canonical : IsCanonicalIn n runs) where
  module _ (start : ℕ) (gap : members runs start ≡ false) where
    -- The runs past a free rank are canonical, and start at the next rank or later.
    pub past-later : IsCanonicalFrom (start + 1) (runs_past start runs)
    past-later =
        canonical-raise 0 (start + 1) (runs_past start runs)
        (starting-canonical_in (λ first. nat_lt start first) n runs canonical).apart
        (λ run found.
        let is = (starting-contains (λ first. nat_lt start first) runs run found).1 in
        grind (arith, nat_tests, is))

    pub past-within : AllEndBelow n (runs_past start runs)
    past-within = (starting-canonical_in (λ first. nat_lt start first) n runs canonical).within

    -- From the free rank on, they have the members of all runs.
    past-same : (rank : ℕ) → start ≤ rank → members (runs_past start runs) rank ≡ members runs rank
    past-same rank from =
        let some = starting-members (λ first. nat_lt start first) runs rank true
        (λ run found here.
        let bounds = covers-bounds run rank here in
        elim (cases_lt start run.first) [
          | inl later ↦ grind (arith, nat_tests, later)
          | inr before ↦ absurd (not_both (members runs start)
              (contained-members n runs canonical run start found before
              (omega (arith, from, bounds.1))) gap)
        ]) in
        grind (arith, some)

  -- If it is the first free rank from a value on, these runs leave the same ranks free as all runs
  -- do.
  pub past-free : (value start : ℕ) → IsFirstFree n runs value start
      → free_from start (runs_past start runs) ≡ free_from value runs
  past-free value start first = λ i rank. same rank i
    where
      same : (rank : ℕ) → free_from start (runs_past start runs) rank ≡ free_from value runs rank
      same rank = elim (cases_lt rank start) [
        | inl less ↦ elim (cases_lt rank value) [
          | inl before ↦ grind (arith, nat_tests, less, before)
          | inr from ↦
              let member = first.before rank from less in
              grind (arith, nat_tests, less, from, member)
        ]
        | inr more ↦
            let some = past-same start first.free rank more in
            let later = first.later in
            grind (arith, nat_tests, more, later, some)
      ]

  -- If all ranks from a value on are members, all gaps from there on are too short, since there are
  -- none.
  pub none-free : (len value : ℕ) → HasAllFrom n runs value → AllShorter n (free_from value runs) len
  none-free len value has =
      none-shorter n (free_from value runs) len
      (λ rank less. elim (cases_lt rank value) [
        | inl before ↦ grind (arith, nat_tests, before)
        | inr from ↦ let member = has rank from less in grind (arith, nat_tests, from, member)
      ])

-- ---- free blocks

module _ (n : ℕ) (runs : List Interval) (value len start : ℕ) (from : value ≤ start) (some : 0 < len)
    (block : IsFree n runs start len) where
  -- A free block lies in a gap that is at least as long.
  block-gap : (gap : Interval) × IsMaximalRun n (free_from value runs) gap × (gap.first ≤ start)
      × (len ≤ length_of gap)
  block-gap =
      let within = block.in_type in
      let free : (rank : ℕ) → start ≤ rank → rank < start + len → free_from value runs rank ≡ true =
      λ rank more less. let none = block.free rank more less in
      grind (arith, nat_tests, none, from, more) in
      let found = maximal-around n (free_from value runs) start (omega (arith, within, some))
      (free start (omega arith) (omega (arith, some))) in
      let bounds = covers-bounds found.0 start found.2 in (
        found.0,
        found.1,
        bounds.0,
        elim (cases_lt (found.0.last + 1) (start + len)) [
          | inr reaches ↦ omega (arith, reaches, bounds.0)
          | inl ends ↦ absurd (not_both (free_from value runs (found.0.last + 1))
              (free (found.0.last + 1) (omega (arith, bounds.1)) ends)
              (found.1.ends_here (omega (arith, ends, within))))
        ],
      )

  -- So no free block starts below the first gap that is long enough.
  pub none-lower : (gap : Interval) → AllShorterBefore n (free_from value runs) len gap.first
      → start < gap.first → ⊥
  none-lower gap shorter less =
      let found = block-gap in
      let short = shorter found.0 found.1 (omega (arith, found.2, less)) in
      omega (arith, short, found.3)

  -- If every gap is shorter, there is no free block.
  pub none-anywhere : AllShorter n (free_from value runs) len → ⊥
  none-anywhere shorter =
      let found = block-gap in
      let short = shorter found.0 found.1 in
      omega (arith, short, found.3)

-- ---- what callers know of a gap that fits

module _ (n : ℕ) (runs : List Interval) (value len : ℕ) where
  module _ (gap : Interval) (fit : IsFirstFit n (free_from value runs) len gap) where
    -- The gap starts at the value or past it.
    pub fit-from : value ≤ gap.first
    fit-from =
        let free = first-selected n (free_from value runs) gap fit.maximal in
        grind (arith, nat_tests, free)

    -- If a gap of one rank is long enough, all ranks from the value to the gap are members.
    pub fit-before : len ≤ 1 → (rank : ℕ) → value ≤ rank → rank < gap.first
        → members runs rank ≡ true
    fit-before any rank from before =
        let order = fit.maximal.in_order in
        let within = fit.maximal.in_type in
        let taken = none-before n (free_from value runs) len gap.first any fit.first rank before
        (omega (arith, before, order, within)) in
        grind (arith, nat_tests, taken, from)

    -- The first rank of the gap is not a member, so not all ranks from the value on are.
    pub fit-lacks : HasAllFrom n runs value → ⊥
    fit-lacks all =
        let order = fit.maximal.in_order in
        let within = fit.maximal.in_type in
        let free = first-selected n (free_from value runs) gap fit.maximal in
        let member = all gap.first fit-from (omega (arith, order, within)) in
        grind (arith, nat_tests, free, member)

  -- If there is no gap, all ranks from the value on are members.
  pub none-lacks : len ≤ 1 → AllShorter n (free_from value runs) len → HasAllFrom n runs value
  none-lacks any shorter rank from below =
      let taken = none-at_all n (free_from value runs) len any shorter rank below in
      grind (arith, nat_tests, taken, from)

-- ---- what callers know of a run that fits

module _ (n : ℕ) (runs : List Interval) (len : ℕ) where
  module _ (run : Interval) (fit : IsFirstFit n (members runs) len run) where
    -- If a run of one rank is long enough, no rank before the run is a member.
    pub fit-after : len ≤ 1 → (rank : ℕ) → rank < run.first → members runs rank ≡ false
    fit-after any rank before =
        let order = fit.maximal.in_order in
        let within = fit.maximal.in_type in
        none-before n (members runs) len run.first any fit.first rank before
        (omega (arith, before, order, within))

    -- The first rank of the run is a member.
    pub fit-some : IsEmpty (members runs) → ⊥
    fit-some none = not_both (members runs run.first)
        (first-selected n (members runs) run fit.maximal) (none run.first)

  -- If there is no run, no rank is a member.
  pub none-runs : IsCanonicalIn n runs → len ≤ 1 → AllShorter n (members runs) len
      → IsEmpty (members runs)
  none-runs canonical any shorter rank = elim (cases_lt rank n) [
    | inl below ↦ none-at_all n (members runs) len any shorter rank below
    | inr past ↦ members-end n runs rank canonical.within past
  ]
