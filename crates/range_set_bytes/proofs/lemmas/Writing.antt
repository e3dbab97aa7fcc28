-- Bytes that are written run by run.
use Rattle.std.proofs.Common.{◌≡◌, ℕ, ◌+◌, ◌-◌, List, [], ◌∷◌, ◌++◌, length, sym, ap, ◌∙◌, append_assoc}
use Rattle.rsb_integer.specs.Runs.{Interval, from_to}
use Rattle.range_set_bytes.specs.Format.{bytes_of, bytes_of_runs, header}
use Rattle.range_set_bytes.specs.Leb128.{leb128}

-- After the header and the count, the runs are left.
pub write-begun : (n : ℕ) (set runs : List Interval) (empty head first second : List ℕ) (count : ℕ)
    → empty ≡ [] → head ≡ header n → first ≡ empty ++ head → second ≡ first ++ leb128 count
    → count ≡ length set → runs ≡ set → second ++ bytes_of_runs 0 runs ≡ bytes_of n set
unfolding bytes_of
write-begun n set runs empty head first second count none head_is first_is second_is counted same =
    let begun : first ≡ header n = first_is ∙ ap (λ (bytes : List ℕ). bytes ++ head) none ∙ head_is in
    ap (λ (bytes : List ℕ). bytes ++ bytes_of_runs 0 runs) (second_is
    ∙ ap (λ (bytes : List ℕ). bytes ++ leb128 count) begun)
    ∙ append_assoc (header n) (leb128 count) (bytes_of_runs 0 runs)
    ∙ ap (λ (k : ℕ). header n ++ (leb128 k ++ bytes_of_runs 0 runs)) counted
    ∙ ap (λ (all : List Interval). header n ++ (leb128 (length set) ++ bytes_of_runs 0 all)) same

-- After a run, the others are left.
pub write-run : (from first last : ℕ) (runs rest : List Interval) (run : Interval)
    (written second third all : List ℕ) → runs ≡ run ∷ rest → run ≡ from_to first last
    → second ≡ written ++ leb128 (first - from) → third ≡ second ++ leb128 (last - first)
    → written ++ bytes_of_runs from runs ≡ all → third ++ bytes_of_runs (last + 1) rest ≡ all
write-run from first last runs rest run written second third all split run_is second_is third_is so_far =
    let tail = bytes_of_runs (last + 1) rest in
    let gap = leb128 (first - from) in
    let size = leb128 (last - first) in
    let whole : runs ≡ from_to first last ∷ rest = split ∙ ap (λ (r : Interval). r ∷ rest) run_is in
    ap (λ (bytes : List ℕ). bytes ++ tail) (third_is ∙ ap (λ (bytes : List ℕ). bytes ++ size) second_is)
    ∙ append_assoc (written ++ gap) size tail ∙ append_assoc written gap (size ++ tail)
    ∙ ap (λ (rs : List Interval). written ++ bytes_of_runs from rs) (sym whole) ∙ so_far
