-- How many members of a list of runs are below a rank, and the member that has a given number below
-- it.
use Rattle.std.proofs.Common.{◌≡◌, ℕ, true, ◌+◌, ◌-◌, ◌<◌, ◌≤◌, min, List, [], ◌∷◌, refl, ◌∙◌, inr, arith}
use Rattle.std.proofs.lemmas.List.Elements.{All-head, All-tail}
use Rattle.rsb_integer.specs.Runs.{Interval, covers, length_of, members, AllEndBelow, IsCanonicalFrom, IsCanonicalIn}
use Rattle.rsb_integer.specs.Selection.{count}
use Rattle.rsb_integer.proofs.lemmas.Canonical.{canonical-lower, canonical-tail}
use Rattle.rsb_integer.proofs.lemmas.Count.{count-covers, count-none, count-union, count-within}
use Rattle.rsb_integer.proofs.lemmas.Members.{covers-bounds, members-below, members-cons, members-head, members-tail}
use Rattle.range_set_blaze.specs.Ranked.{IsPartBelow}

-- The members below a bound are those of the first run and those of the others.
count-next : (bound low : ℕ) (run : Interval) (rest : List Interval)
    → IsCanonicalFrom low (run ∷ rest)
    → count bound (members (run ∷ rest))
    ≡ min bound (run.last + 1) - run.first + count bound (members rest)
count-next bound low run rest canonical =
    let both = count-union bound (members (run ∷ rest)) (covers run) (members rest)
    (members-cons run rest)
    (λ rank here. let bounds = covers-bounds run rank here in
    members-below (run.last + 2) rest rank canonical.rest (omega (arith, bounds.1))) in
    let one = count-covers bound run in
    omega (arith, both, one)

-- If a list starts at the bound or past it, no member is below the bound.
count-below : (bound low : ℕ) (runs : List Interval) → IsCanonicalFrom low runs → bound ≤ low
    → count bound (members runs) ≡ 0
count-below bound low runs canonical less =
    count-none bound (members runs)
    (λ rank below. members-below low runs rank canonical (omega (arith, below, less)))

-- ---- how many are below a bound

-- Whether the members that were counted and those of the runs that are left are all members below
-- the bound.
pub record AreCounted (n : ℕ) (all rest : List Interval) (bound counted : ℕ) : Type 0 where
  pub canonical : IsCanonicalIn n rest
  pub in_type : bound ≤ n
  pub sum : counted + count bound (members rest) ≡ count bound (members all)

module _ (n : ℕ) (all rest : List Interval) (run : Interval) (bound counted : ℕ)
    (left : AreCounted n all (run ∷ rest) bound counted) where
  module _ (part : Interval) (is : IsPartBelow run bound part) where
    -- The sum stays the same once the part of the next run is counted.
    counted-sum : counted + length_of part + count bound (members rest) ≡ count bound (members all)
    counted-sum =
        let next = count-next bound 0 run rest left.canonical.apart in
        let sum = left.sum in
        let first = is.first in
        let last = is.last in
        let some = is.some in
        let order = left.canonical.apart.in_order in
        omega (arith, next, sum, first, last, some, order)

    -- The number that was counted, with this part, is at most n.
    pub counted-fits : counted + length_of part ≤ n
    counted-fits =
        let sum = counted-sum in
        let within = count-within bound (members all) in
        let known = left.in_type in
        omega (arith, sum, within, known)

    pub counted-next : AreCounted n all rest bound (counted + length_of part)
    counted-next = record {
      canonical = canonical-tail n run rest left.canonical;
      in_type = left.in_type;
      sum = counted-sum;
    }

  -- If the next run starts at the bound or past it, all members below the bound are counted.
  pub counted-past : bound ≤ run.first → counted ≡ count bound (members all)
  counted-past less =
      let none = count-below bound run.first (run ∷ rest)
      (record {
        starts = omega arith;
        in_order = left.canonical.apart.in_order;
        rest = left.canonical.apart.rest;
      }) less in
      let sum = left.sum in
      omega (arith, none, sum)

-- If no run is left, all members below the bound are counted.
pub counted-all : (n : ℕ) (all : List Interval) (bound counted : ℕ) → AreCounted n all [] bound counted
    → counted ≡ count bound (members all)
counted-all n all bound counted left =
    let none = count-none bound (members []) (λ rank below. refl) in
    let sum = left.sum in
    omega (arith, none, sum)

-- ---- the member that has a given number below it

-- Whether the runs that are left start at some rank or past it. `left` of the members below the
-- wanted one are still to be passed.
pub record AreLeft (n : ℕ) (all rest : List Interval) (wanted left : ℕ) : Type 0 where
  pub from : ℕ
  pub in_type : from ≤ n
  pub later : IsCanonicalFrom from rest
  pub within : AllEndBelow n rest
  pub same : (rank : ℕ) → from ≤ rank → members all rank ≡ members rest rank
  pub counted : (rank : ℕ) → from ≤ rank
      → count rank (members all) + left ≡ count rank (members rest) + wanted

module _ (n : ℕ) (all rest : List Interval) (run : Interval) (wanted left : ℕ)
    (are : AreLeft n all (run ∷ rest) wanted left) where
  -- If the next run has at most `left` members, it is passed.
  pub left-next : (less : ℕ) → less + length_of run ≡ left → AreLeft n all rest wanted less
  left-next less passed =
      let starts = are.later.starts in
      let order = are.later.in_order in
      let last = All-head (λ (each : Interval). each.last < n) run rest are.within in
      record {
        from = run.last + 1;
        in_type = omega (arith, last);
        later = canonical-lower (run.last + 2) (run.last + 1) rest (omega arith) are.later.rest;
        within = All-tail (λ (each : Interval). each.last < n) run rest are.within;
        same = λ rank more.
            are.same rank (omega (arith, starts, order, more))
            ∙ members-tail run rest rank (inr (omega (arith, more)));
        counted = λ rank more.
            let sum = are.counted rank (omega (arith, starts, order, more)) in
            let next = count-next rank are.from run rest are.later in
            omega (arith, sum, next, more, order, passed);
      }

  module _ (rank : ℕ) (fewer : left < length_of run) (is : rank ≡ run.first + left) where
    -- Otherwise the wanted member is in it.
    pub left-member : members all rank ≡ true
    left-member =
        let starts = are.later.starts in
        are.same rank (omega (arith, starts, is))
        ∙ members-head run rest rank (omega (arith, is)) (omega (arith, is, fewer))

    pub left-below : count rank (members all) ≡ wanted
    left-below =
        let starts = are.later.starts in
        let sum = are.counted rank (omega (arith, starts, is)) in
        let next = count-next rank are.from run rest are.later in
        let none = count-below rank (run.last + 2) rest are.later.rest (omega (arith, is, fewer)) in
        omega (arith, sum, next, none, is, fewer)

  -- In this case, more than `wanted` ranks are members.
  pub left-more : left < length_of run → wanted < count n (members all)
  left-more fewer =
      let last = All-head (λ (each : Interval). each.last < n) run rest are.within in
      let sum = are.counted n are.in_type in
      let next = count-next n are.from run rest are.later in
      omega (arith, sum, next, fewer, last)

-- If no run is left, at most `wanted` ranks are members.
pub left-none : (n : ℕ) (all : List Interval) (wanted left : ℕ) → AreLeft n all [] wanted left
    → count n (members all) ≤ wanted
left-none n all wanted left are =
    let sum = are.counted n are.in_type in
    let none = count-none n (members []) (λ rank below. refl) in
    omega (arith, sum, none)
