-- Runs that are taken from a stream, one after the other.
use Rattle.std.proofs.Common.{◌≡◌, ℕ, ◌+◌, ◌≤◌, List, [], ◌∷◌, ◌++◌, append_assoc, sym, ap, ◌∙◌, subst, arith}
use Rattle.std.proofs.lemmas.Bool.Decides.{nat_tests}
use Rattle.std.proofs.lemmas.List.{map-append}
use Rattle.std.proofs.lemmas.List.Sums.{sum_by-append}
use Rattle.std.specs.List.{sum_by}
use Rattle.std.specs.Range.{range_inclusive_start, range_inclusive_end}
use Rattle.std.specs.declared.ops.RangeInclusive.{RangeInclusive}
use Rattle.rsb_integer.specs.Rank.{interval_of}
use Rattle.rsb_integer.specs.Runs.{Interval, covers, length_of, members, IsCanonicalIn}
use Rattle.rsb_integer.proofs.lemmas.Range.{interval_of-some}
use Rattle.rsb_integer.proofs.lemmas.Canonical.{canonical-front, canonical-parts}
use Rattle.rsb_streams.specs.laws.Stream.{settled_canonical_in}
use Rattle.rsb_streams.specs.Stream.{Outcomes, ◌⊆◌, run_if_any, HasOutcome}
use Rattle.rsb_storage.specs.Storage.{entry_run, runs_of}
use Rattle.rsb_storage.proofs.lemmas.runs.Storage.{sum_by-within}

-- What a stream may give at first (`all`), and after a call that returned `run`. The runs taken
-- before that call are `taken`.
module _ (n : ℕ) (all after : Outcomes) (canonical : all ⊆ IsCanonicalIn n)
    (taken : List Interval) (run : Interval)
    (given : (rest : List Interval) → after rest → all (taken ++ run ∷ rest))
    (some : HasOutcome after) where
  -- The runs taken before and the run are canonical.
  pub taken-canonical : IsCanonicalIn n (taken ++ run ∷ [])
  taken-canonical = settled_canonical_in n (taken ++ run ∷ []) (λ fails. some (λ rest may. fails
      (canonical-front n (taken ++ run ∷ []) rest
      (subst (IsCanonicalIn n) (sym (append_assoc taken (run ∷ []) rest))
      (canonical (taken ++ run ∷ rest) (given rest may))))))

  -- So the run is non-empty.
  pub taken-ordered : run.first ≤ run.last
  taken-ordered = (canonical-parts 0 taken (run ∷ []) taken-canonical.apart).1.in_order

  -- All of them together have at most n ranks.
  pub taken-within : sum_by length_of taken + length_of run ≤ n
  taken-within =
      let all_of = sum_by-within n (taken ++ run ∷ []) taken-canonical in
      let sum = sum_by-append length_of taken (run ∷ []) in
      omega (arith, all_of, sum)

-- The run that is stored for a range has the ranks of the range.
pub runs_of-taken : {T : Type 0} (rank : T → ℕ) (runs new : List (T × T)) (run : T × T)
    (range : RangeInclusive T) → new ≡ runs ++ run ∷ []
    → run.0 ≡ range_inclusive_start range → run.1 ≡ range_inclusive_end range
    → (interval_of rank range).first ≤ (interval_of rank range).last
    → runs_of rank new ≡ runs_of rank runs ++ interval_of rank range ∷ []
runs_of-taken {T} rank runs new run range is starts ends ordered =
    let same : entry_run rank run ≡ interval_of rank range =
    (λ i. record { first = rank (starts i); last = rank (ends i) })
    ∙ sym (interval_of-some rank range ordered) in
    ap (runs_of rank) is ∙ map-append (entry_run rank) runs (run ∷ [])
    ∙ ap (λ (last : Interval). runs_of rank runs ++ last ∷ []) same

-- The members of the list of one interval are its ranks, even if the interval is empty.
pub members-run_if_any : (run : Interval) (rank : ℕ) → members (run_if_any run) rank
    ≡ covers run rank
members-run_if_any run rank = grind (arith, nat_tests)
