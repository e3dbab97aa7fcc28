-- The order of two lists of runs, by their elements.
use Rattle.std.proofs.Common.{◌≡◌, ℕ, zero, suc, true, false, cond, ◌+◌, ◌-◌, ◌<◌, ◌≤◌, nat_lt, List, [], ◌∷◌, ◌++◌, length, length-append, append_assoc, refl, sym, ◌∙◌, ap, arith}
use Rattle.std.proofs.lemmas.Bool.Decides.{nat_tests}
use Rattle.std.proofs.lemmas.Grind.{flat_map-append}
use Rattle.std.proofs.lemmas.Cmp.{nat_list_cmp_total, ranked}
use Rattle.std.specs.List.{flat_map}
use Rattle.std.specs.Cmp.Lexicographic.{slice_cmp}
use Rattle.std.specs.Ordering.{is_ne, nat_cmp, ordering_reverse}
use Rattle.std.specs.declared.cmp.Ordering.{Ordering}
use Rattle.std.specs.declared.cmp.Ordering.TheVariants.{Less, Equal, Greater}
use Rattle.rsb_integer.specs.Runs.{Interval, members, IsCanonicalFrom, IsCanonicalIn}
use Rattle.rsb_integer.specs.Selection.{Selection}
use Rattle.rsb_integer.proofs.lemmas.Canonical.{canonical-tail}
use Rattle.rsb_integer.proofs.lemmas.Members.{covers-inside, same_interval}
use Rattle.rsb_storage.specs.Storage.{run_of, runs_of}
use Rattle.rsb_storage.specs.declared.run.Run.{Run}
use Rattle.range_set_blaze.specs.Order.{elements_from, order, start_alike, AreTurns}
use Rattle.range_set_blaze.specs.laws.Order.{nat_cmp-greater, nat_cmp-same}
use Rattle.range_set_blaze.proofs.lemmas.order.AlongRuns.{made-canonical}

-- The given number of ranks, starting at `low`.
abbrev ranks_from : ℕ → ℕ → List ℕ
ranks_from low count = elements_from low count (λ rank. true)

-- The ranks of a run that has at least one.
abbrev pub ranks_of_run : Interval → List ℕ
ranks_of_run run = run.first ∷ ranks_from (suc run.first) (run.last - run.first)

-- The ranks of the runs, one after the other.
abbrev pub elements_of : List Interval → List ℕ
elements_of runs = flat_map ranks_of_run runs

-- If the next ranks are selected, they are the next elements.
elements_from-inside : (selected : Selection) (low count more high rest : ℕ) → more ≡ count + rest
    → low + count ≡ high → ((rank : ℕ) → low ≤ rank → rank < high → selected rank ≡ true)
    → elements_from low more selected ≡ ranks_from low count ++ elements_from high rest selected
unfolding elements_from
elements_from-inside selected low zero more high rest all end here =
    let at : low ≡ high = omega arith in
    let left : more ≡ rest = omega arith in
    λ i. elements_from (at i) (left i) selected
elements_from-inside selected low (suc count) zero high rest all end here = absurd (omega arith)
elements_from-inside selected low (suc count) (suc more) high rest all end here =
    rw (here low (omega arith) (omega arith))
    (ap (λ elements. low ∷ elements)
    (elements_from-inside selected (suc low) count more high rest (omega arith) (omega arith)
    (λ rank from. here rank (omega arith))))

-- The elements of the set of a canonical list are the ranks of its runs.
pub elements_from-members : (n : ℕ) (runs : List Interval) → IsCanonicalIn n runs
    → elements_from 0 n (members runs) ≡ elements_of runs
unfolding elements_from
elements_from-members n runs canonical =
    made-canonical (λ low more. elements_from low more (members runs)) n runs ranks_of_run canonical
    (λ low. refl) (λ rank left lacks. rw lacks refl)
    (λ run maximal stops.
    let ordered = maximal.in_order in
    let below = maximal.in_type in
    elements_from-inside (members runs) run.first (suc (run.last - run.first))
    (n - run.first) (suc run.last) (n - suc run.last) (omega arith) (omega arith)
    (λ rank from to. maximal.whole rank (covers-inside run rank from (omega arith))))

-- A common prefix does not change how two lists compare.
slice_cmp-front : (front left right : List ℕ)
    → slice_cmp nat_cmp (front ++ left) (front ++ right) ≡ slice_cmp nat_cmp left right
slice_cmp-front [] left right = refl
slice_cmp-front (rank ∷ front) left right =
    rw (nat_cmp-same rank) (slice_cmp-front front left right)

-- If one of two runs with the same start ends first, its list is less if no run follows, and
-- greater if one does.
slice_cmp-shorter : {T : Type 0} (rank : T → ℕ) (low lower count most bound : ℕ)
    (entries : List (T × T)) (others : List ℕ) → low ≡ lower → count < most → low + count < bound
    → IsCanonicalFrom bound (runs_of rank entries)
    → cond (nat_lt 0 (length entries)) Greater Less
    ≡ slice_cmp nat_cmp (ranks_from low count ++ elements_of (runs_of rank entries))
    (ranks_from lower most ++ others)
unfolding elements_from
slice_cmp-shorter rank low lower count zero bound entries others same fewer past rest =
    absurd (omega arith)
slice_cmp-shorter rank low lower zero (suc most) bound [] others same fewer past rest = refl
slice_cmp-shorter rank low lower zero (suc most) bound (entry ∷ entries) others same fewer past rest =
    let starts = rest.starts in
    rw (nat_cmp-greater lower (rank entry.0) (omega arith)) (grind (arith, nat_tests))
slice_cmp-shorter rank low lower (suc count) (suc most) bound entries others same fewer past rest =
    rw (same, nat_cmp-same lower)
    (slice_cmp-shorter rank (suc lower) (suc lower) count most bound entries others refl (omega arith)
    (omega arith) rest)

-- ---- what the loop that compares two lists has passed

-- Whether the lists do not start with the same run.
abbrev pub AreApart : List Interval → List Interval → Type 0
AreApart [] right = Unit {0}
AreApart (run ∷ left) [] = Unit {0}
AreApart (run ∷ left) (other ∷ right) = run.first ≡ other.first → ¬ (run.last ≡ other.last)

-- If two lists go on apart after a common prefix, no common prefix is longer.
longest-front : (front left right : List Interval) → AreApart left right
    → (other one two : List Interval) → front ++ left ≡ other ++ one → front ++ right ≡ other ++ two
    → length other ≤ length front
longest-front front left right apart [] one two is also = omega arith
longest-front [] left right apart (run ∷ other) one two is also =
    absurd ((rw (is, also) at apart) refl refl)
longest-front (head ∷ front) left right apart (run ∷ other) one two is also =
    let shorter = longest-front front left right apart other one two (cc) (cc) in
    omega (arith, shorter)

-- Whether `turns` iterations passed a common prefix of two canonical lists, and `left` and `right`
-- are what is left of them.
pub record IsPassing (n : ℕ) (whole total left right : List Interval) (turns : ℕ) : Type 0 where
  pub front : List Interval
  pub left_parts : whole ≡ front ++ left
  pub right_parts : total ≡ front ++ right
  pub counted : turns + length left ≡ length whole
  pub left_rest : IsCanonicalIn n left
  pub right_rest : IsCanonicalIn n right

-- At first nothing is passed.
pub passing-none : (n : ℕ) (whole total : List Interval) → IsCanonicalIn n whole
    → IsCanonicalIn n total → IsPassing n whole total whole total 0
passing-none n whole total left right = record {
  front = [];
  left_parts = refl;
  right_parts = refl;
  counted = omega arith;
  left_rest = left;
  right_rest = right;
}

-- Whether the sets of two lists have this order, and finding it takes the given number of
-- iterations.
abbrev pub TellsOrder : ℕ → List Interval → List Interval → Ordering → ℕ → Type 0
TellsOrder n whole total ordering turns = record {
  order : ordering ≡ order n (members whole) (members total);
  turns : AreTurns whole total turns;
}

-- If what is left of both lists starts apart, it determines the order.
pub passing-tells : {n : ℕ} {whole total left right : List Interval} {turns all : ℕ}
    {ordering : Ordering} → IsCanonicalIn n whole → IsCanonicalIn n total
    → IsPassing n whole total left right turns → AreApart left right
    → ordering ≡ slice_cmp nat_cmp (elements_of left) (elements_of right)
    → turns + cond (start_alike left right) 2 1 ≡ all → TellsOrder n whole total ordering all
passing-tells {n} {whole} {total} {left} {right} one two passing apart is told =
    let counted = passing.counted in
    let front = passing.front in
    let length = ap length passing.left_parts ∙ length-append front left in
    record {
      order =
          rw (
            elements_from-members n whole one,
            elements_from-members n total two,
            passing.left_parts,
            passing.right_parts,
            flat_map-append ranks_of_run front left,
            flat_map-append ranks_of_run front right,
            slice_cmp-front (elements_of front) (elements_of left) (elements_of right),
          )
          is;
      turns = record {
        front = front;
        left_rest = left;
        right_rest = right;
        left_parts = passing.left_parts;
        right_parts = passing.right_parts;
        longest = λ other more rest.
            longest-front front left right apart other more.rest rest.rest
            (sym passing.left_parts ∙ more.parts) (sym passing.right_parts ∙ rest.parts);
        counted = omega (arith, counted, length, told);
      };
    }

-- What the iterations so far determine, by how the last two runs compare by their ends. If they end
-- alike, a common prefix was passed. If not, the order is determined, and the next iteration is the
-- last.
abbrev pub TellsBy : {T : Type 0} → (T → ℕ) → ℕ → List Interval → List Interval → Ordering
    → List (T × T) → List (T × T) → ℕ → Type 0
TellsBy rank n whole total Less left right turns =
    TellsOrder n whole total (cond (nat_lt 0 (length left)) Greater Less) (turns + 1)
TellsBy rank n whole total Equal left right turns =
    IsPassing n whole total (runs_of rank left) (runs_of rank right) turns
TellsBy rank n whole total Greater left right turns = TellsOrder n whole total
    (ordering_reverse (cond (nat_lt 0 (length right)) Greater Less)) (turns + 1)

-- Whether each iteration took a run of the left list, and the iterations determine what `TellsBy`
-- states.
pub record HasCompared {T : Type 0} (rank : T → ℕ) (n : ℕ) (whole total : List Interval)
    (ends : Ordering) (left right : List (T × T)) (turns : ℕ) : Type 0 where
  pub counted : turns + length (runs_of rank left) ≡ length whole
  pub tells : TellsBy rank n whole total ends left right turns

-- ---- an iteration

module _ {T : Type 0} {rank : T → ℕ} {n : ℕ} {cmp : T → T → Ordering}
    (in_order : (x y : T) → rank x < n → rank y < n → cmp x y ≡ nat_cmp (rank x) (rank y))
    {whole total : List Interval} (one : IsCanonicalIn n whole) (two : IsCanonicalIn n total)
    {run other : Run T} (left right : List (T × T)) {turns : ℕ}
    (passing : IsPassing n whole total (run_of rank run ∷ runs_of rank left)
    (run_of rank other ∷ runs_of rank right) turns)
    {starts : Ordering} (starts_by : starts ≡ cmp run.start other.start) where
  -- The next two runs compare by their starts and by their ends as their ranks do.
  heads-ranked : (cmp run.start other.start ≡ nat_cmp (rank run.start) (rank other.start))
      × (cmp run.end other.end ≡ nat_cmp (rank run.end) (rank other.end))
  heads-ranked =
      let ordered = passing.left_rest.apart.in_order in
      let order = passing.right_rest.apart.in_order in
      let below = passing.left_rest.within 0 (run_of rank run) (omega arith) in
      let also = passing.right_rest.within 0 (run_of rank other) (omega arith) in
      (in_order _ _ (omega arith) (omega arith), in_order _ _ below also)

  -- If the next two runs have different starts, these determine the order.
  pub starts-tell : true ≡ is_ne starts → TellsOrder n whole total starts (turns + 1)
  starts-tell apart =
      let by = starts_by ∙ heads-ranked.0 in
      let differ : ¬ (rank run.start ≡ rank other.start) = grind (arith, nat_tests) in
      passing-tells one two passing (λ same. absurd (differ same))
      (rw (← by) (grind (arith, apart))) (grind (arith, nat_tests))

  module _ (level : false ≡ is_ne starts) where
    -- The next two runs have the same start.
    same_start : rank run.start ≡ rank other.start
    same_start = let by = starts_by ∙ heads-ranked.0 in grind (arith, nat_tests)

    -- If the run of the left list ends first, the runs after it determine the order.
    left-tells : Less ≡ cmp run.end other.end → TellsOrder n whole total
        (cond (nat_lt 0 (length left)) Greater Less) (turns + 1 + 1)
    unfolding elements_from
    left-tells is =
        let ordered = passing.left_rest.apart.in_order in
        let ends : rank run.end < rank other.end = ranked _ _ Less (is ∙ heads-ranked.1) in
        let starts = same_start in
        passing-tells one two passing (λ same alike. absurd (omega arith))
        (slice_cmp-shorter rank _ _ (suc (rank run.end - rank run.start))
        (suc (rank other.end - rank other.start)) _ left (elements_of (runs_of rank right)) starts
        (omega arith) (omega arith) passing.left_rest.apart.rest)
        (grind (arith, nat_tests))

    -- If the run of the right list ends first, the runs after that one do.
    right-tells : Greater ≡ cmp run.end other.end → TellsOrder n whole total
        (ordering_reverse (cond (nat_lt 0 (length right)) Greater Less)) (turns + 1 + 1)
    unfolding elements_from
    right-tells is =
        let ordered = passing.right_rest.apart.in_order in
        let ends : rank other.end < rank run.end = ranked _ _ Greater (is ∙ heads-ranked.1) in
        let starts = same_start in
        passing-tells one two passing (λ same alike. absurd (omega arith))
        (ap ordering_reverse (slice_cmp-shorter rank _ _ (suc (rank other.end - rank other.start))
        (suc (rank run.end - rank run.start)) _ right (elements_of (runs_of rank left)) (sym starts)
        (omega arith) (omega arith) passing.right_rest.apart.rest)
        ∙ sym (nat_list_cmp_total.antisymm (elements_of (run_of rank run ∷ runs_of rank left))
        (elements_of (run_of rank other ∷ runs_of rank right))))
        (grind (arith, nat_tests))

    -- If both end alike, they are passed.
    alike-passed : Equal ≡ cmp run.end other.end
        → IsPassing n whole total (runs_of rank left) (runs_of rank right) (turns + 1)
    alike-passed is =
        let same : run_of rank run ≡ run_of rank other =
        same_interval _ _ same_start (ranked _ _ Equal (is ∙ heads-ranked.1)) in
        let front = passing.front in
        let counted = passing.counted in
        let both = run_of rank run ∷ [] in
        record {
          front = front ++ both;
          left_parts = passing.left_parts ∙ sym (append_assoc front both (runs_of rank left));
          right_parts = passing.right_parts
              ∙ ap (λ each. front ++ each ∷ runs_of rank right) (sym same)
              ∙ sym (append_assoc front both (runs_of rank right));
          counted = omega (arith, counted);
          left_rest = canonical-tail n _ (runs_of rank left) passing.left_rest;
          right_rest = canonical-tail n _ (runs_of rank right) passing.right_rest;
        }

    -- So how their ends compare determines what `TellsBy` states.
    ends-tell : (ends : Ordering) → ends ≡ cmp run.end other.end
        → TellsBy rank n whole total ends left right (turns + 1)
    ends-tell Less is = left-tells is
    ends-tell Equal is = alike-passed is
    ends-tell Greater is = right-tells is

    -- So the same holds after one more iteration.
    pub ends-compared : (ends : Ordering) → ends ≡ cmp run.end other.end
        → HasCompared rank n whole total ends left right (turns + 1)
    ends-compared ends is =
        let counted = passing.counted in
        record { counted = omega (arith, counted); tells = ends-tell ends is }
