-- Lists of runs and gaps.
use Rattle.std.proofs.Common.{◌≡◌, ℕ, ◌+◌, ◌<◌, ◌≤◌, Bool, true, false, List, [], ◌∷◌, refl, sym, ap, subst, arith}
use Rattle.std.proofs.lemmas.List.Elements.{All-head}
use Rattle.rsb_integer.specs.Runs.{Interval, members, AreRuns, AllEndBelow, IsCanonicalFrom, IsCanonicalIn}
use Rattle.rsb_integer.specs.Selection.{Selection, complement}
use Rattle.rsb_integer.proofs.lemmas.Runs.{canonical-runs, runs-along, runs-same}
use Rattle.rsb_streams.specs.FillGaps.{marked_runs, marked_gaps, IsAscendingFrom, IsFilledList}
use Rattle.rsb_streams.specs.FillGapsIter.{FillsFrom}
use Rattle.rsb_streams.specs.Stream.{gaps_from}
use Rattle.rsb_streams.proofs.lemmas.gaps.Lists.{gap-last, gap-then, gaps-above, gaps-along, no-gaps}

-- ---- there is only one such list

-- A run of the list starts no earlier than the list may.
run-from : (low : ℕ) (pairs : List (Interval × Bool)) (run : Interval) (rest : List Interval)
    → IsAscendingFrom low pairs → marked_runs pairs ≡ run ∷ rest → low ≤ run.first
run-from low [] run rest ascending is = absurd (cc)
run-from low ((other, true) ∷ pairs) run rest ascending is =
    let same : other ≡ run = cc in
    let starts = ascending.0 in
    let first = ap (λ each. each.first) same in
    omega arith
run-from low ((other, false) ∷ pairs) run rest ascending is =
    let starts = ascending.0 in
    let later = run-from (other.first + 1) pairs run rest ascending.1 is in
    omega arith

-- A gap of the list starts no earlier than the list may.
gap-from : (low : ℕ) (pairs : List (Interval × Bool)) (gap : Interval) (rest : List Interval)
    → IsAscendingFrom low pairs → marked_gaps pairs ≡ gap ∷ rest → low ≤ gap.first
gap-from low [] gap rest ascending is = absurd (cc)
gap-from low ((other, false) ∷ pairs) gap rest ascending is =
    let same : other ≡ gap = cc in
    let starts = ascending.0 in
    let first = ap (λ each. each.first) same in
    omega arith
gap-from low ((other, true) ∷ pairs) gap rest ascending is =
    let starts = ascending.0 in
    let later = gap-from (other.first + 1) pairs gap rest ascending.1 is in
    omega arith

-- Lists that ascend and have the same runs and the same gaps are the same.
same-pairs : (low lower : ℕ) (pairs others : List (Interval × Bool)) → IsAscendingFrom low pairs
    → IsAscendingFrom lower others → marked_runs pairs ≡ marked_runs others
    → marked_gaps pairs ≡ marked_gaps others → pairs ≡ others
same-pairs low lower [] [] left right runs gaps = refl
same-pairs low lower [] ((other, true) ∷ others) left right runs gaps = absurd (cc)
same-pairs low lower [] ((other, false) ∷ others) left right runs gaps = absurd (cc)
same-pairs low lower ((run, true) ∷ pairs) [] left right runs gaps = absurd (cc)
same-pairs low lower ((run, false) ∷ pairs) [] left right runs gaps = absurd (cc)
same-pairs low lower ((run, true) ∷ pairs) ((other, true) ∷ others) left right runs gaps =
    let head : run ≡ other = cc in
    let tail : marked_runs pairs ≡ marked_runs others = cc in
    let rest = same-pairs (run.first + 1) (other.first + 1) pairs others left.1 right.1 tail gaps in
    λ i. (head i, true) ∷ rest i
same-pairs low lower ((run, false) ∷ pairs) ((other, false) ∷ others) left right runs gaps =
    let head : run ≡ other = cc in
    let tail : marked_gaps pairs ≡ marked_gaps others = cc in
    let rest = same-pairs (run.first + 1) (other.first + 1) pairs others left.1 right.1 runs tail in
    λ i. (head i, false) ∷ rest i
same-pairs low lower ((run, true) ∷ pairs) ((other, false) ∷ others) left right runs gaps =
    let one = run-from (other.first + 1) others run (marked_runs pairs) right.1 (sym runs) in
    let two = gap-from (run.first + 1) pairs other (marked_gaps others) left.1 gaps in
    absurd (omega arith)
same-pairs low lower ((run, false) ∷ pairs) ((other, true) ∷ others) left right runs gaps =
    let one = gap-from (other.first + 1) others run (marked_gaps pairs) right.1 (sym gaps) in
    let two = run-from (run.first + 1) pairs other (marked_runs others) left.1 runs in
    absurd (omega arith)

-- A set has only one filled list.
pub filled-unique : (n : ℕ) (selected : Selection) (pairs others : List (Interval × Bool))
    → IsFilledList n selected pairs → IsFilledList n selected others → pairs ≡ others
filled-unique n selected pairs others left right =
    same-pairs 0 0 pairs others left.ascending right.ascending
    (runs-same n selected selected (marked_runs pairs) (marked_runs others) left.runs right.runs
    (λ rank below. refl))
    (runs-same n (complement selected) (complement selected) (marked_gaps pairs)
    (marked_gaps others)
    left.gaps right.gaps (λ rank below. refl))

-- ---- lists from a rank onwards

-- A list that ascends from a rank onwards ascends from every lower rank onwards.
ascending-lower : (low lower : ℕ) (pairs : List (Interval × Bool)) → lower ≤ low
    → IsAscendingFrom low pairs → IsAscendingFrom lower pairs
ascending-lower low lower [] less ascending = tt
ascending-lower low lower (pair ∷ pairs) less ascending =
    let starts = ascending.0 in (omega arith, ascending.1)

-- If no run comes, the list is the gap to the greatest value.
pub fills-last : (n : ℕ) (gap : Interval) → gap.first ≤ gap.last → gap.last + 1 ≡ n
    → FillsFrom n gap.first [] ((gap, false) ∷ [])
fills-last n gap ordered to = record {
  ascending = (omega arith, tt);
  all_runs = refl;
  gaps = gap-last n gap.first gap refl ordered to;
}

-- If there is a gap before a run, the list starts with the gap.
pub fills-gap : (n : ℕ) (gap run : Interval) (given : List Interval)
    (pairs : List (Interval × Bool)) → gap.first < run.first → run.first ≤ run.last → run.last < n
    → gap.last + 1 ≡ run.first → IsCanonicalFrom (run.last + 2) given
    → FillsFrom n run.first (run ∷ given) pairs
    → FillsFrom n gap.first (run ∷ given) ((gap, false) ∷ pairs)
fills-gap n gap run given pairs less ordered below touching canonical fills = record {
  ascending = (
    omega arith,
    ascending-lower run.first (gap.first + 1) pairs (omega arith) fills.ascending,
  );
  all_runs = fills.all_runs;
  gaps = gap-then n gap.first gap run given (marked_gaps pairs) less ordered below refl touching
      canonical
      (runs-along n (gaps_from run.first (members (run ∷ given)))
      (gaps_from (run.last + 1) (members given)) (marked_gaps pairs)
      (λ rank within. sym (gaps-along n run.first run given refl ordered rank within)) fills.gaps);
}

-- If a run starts where a gap might, the list starts with the run.
pub fills-run : (n : ℕ) (run : Interval) (given : List Interval) (pairs : List (Interval × Bool))
    → run.first ≤ run.last → FillsFrom n (run.last + 1) given pairs
    → FillsFrom n run.first (run ∷ given) ((run, true) ∷ pairs)
fills-run n run given pairs ordered fills = record {
  ascending = (
    omega arith,
    ascending-lower (run.last + 1) (run.first + 1) pairs (omega arith) fills.ascending,
  );
  all_runs = ap (λ runs. run ∷ runs) fills.all_runs;
  gaps = runs-along n (gaps_from (run.last + 1) (members given))
      (gaps_from run.first (members (run ∷ given))) (marked_gaps pairs)
      (gaps-along n run.first run given refl ordered) fills.gaps;
}

-- Nothing comes past the greatest value.
pub fills-end : (n last : ℕ) (given : List Interval) → last + 1 ≡ n → AllEndBelow n given
    → IsCanonicalFrom (last + 2) given → FillsFrom n n given []
fills-end n last [] is below canonical = record {
  ascending = tt;
  all_runs = refl;
  gaps = no-gaps n (members []);
}
fills-end n last (run ∷ given) is below canonical =
    let starts = canonical.starts in
    let ordered = canonical.in_order in
    let under = All-head (λ (each : Interval). each.last < n) run given below in
    absurd (omega arith)

-- From the least value onwards, it is the filled list.
pub fills-all : (n : ℕ) (given : List Interval) (pairs : List (Interval × Bool))
    → IsCanonicalIn n given → FillsFrom n 0 given pairs → IsFilledList n (members given) pairs
fills-all n given pairs canonical fills = record {
  ascending = fills.ascending;
  runs = subst (AreRuns n (members given)) (sym fills.all_runs)
      (canonical-runs n given canonical.apart canonical.within);
  gaps = runs-along n (gaps_from 0 (members given)) (complement (members given))
      (marked_gaps pairs) (λ rank within. gaps-above 0 rank (members given) (omega arith))
      fills.gaps;
}
