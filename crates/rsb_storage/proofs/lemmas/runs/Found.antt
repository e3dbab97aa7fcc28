-- The last runs of a range of a map.
use Rattle.std.proofs.Common.{◌≡◌, ℕ, nat_lt, ◌<◌, ◌≤◌, List, [], ◌∷◌, ◌++◌, sym, ap, ◌∙◌, arith, subst, Option, Some, None, MatchOption, IfSome}
use Rattle.std.proofs.lemmas.Bool.Decides.{nat_tests}
use Rattle.std.proofs.lemmas.List.{map-append}
use Rattle.rsb_integer.specs.Runs.{Interval, IsCanonicalIn}
use Rattle.rsb_storage.specs.Storage.{entry_of, entry_run, run_of, runs_of}
use Rattle.rsb_storage.specs.Starts.{runs_below, StartsAscendFrom, IsLastBelow, IsLastTwo, NoneBelow}
use Rattle.rsb_storage.specs.declared.run.Run.{Run}
use Rattle.rsb_storage.proofs.lemmas.runs.Apart.{contained-maximal}
use Rattle.rsb_storage.proofs.lemmas.runs.Starts.{below-none, below-push, starting-ascending, starting-starting, EndsWith-last}

module _ {T : Type 0} (rank : T → ℕ) (n : ℕ) (runs : List Interval)
    (ascending : StartsAscendFrom n 0 runs) where
  -- The last of the entries that start below a bound is that of the last run that starts below it.
  -- If there are no such entries, there is no such run.
  pub found-last : (bound : ℕ) (items left : List (T × T)) (result : Option (Run T))
      → runs_of rank items ≡ runs_below bound runs
      → MatchOption result (items ≡ []) (λ run. items ≡ left ++ entry_of run ∷ [])
      → MatchOption result (NoneBelow runs bound)
      (λ run. IsLastBelow runs bound (run_of rank run))
  found-last bound items left None is none =
      below-none bound runs (sym is ∙ ap (runs_of rank) none)
  found-last bound items left (Some run) is parts =
      EndsWith-last n bound runs (run_of rank run) ascending (record {
        front = runs_of rank left;
        parts = sym is ∙ ap (runs_of rank) parts
            ∙ map-append (entry_run rank) left (entry_of run ∷ []);
      })

  -- The last two of these entries are those of the last two runs that start below the bound.
  pub found-two : (bound : ℕ) (items left rest : List (T × T)) (last before : Option (Run T))
      → runs_of rank items ≡ runs_below bound runs
      → MatchOption last (items ≡ []) (λ run. items ≡ left ++ entry_of run ∷ [])
      → MatchOption before (left ≡ []) (λ run. left ≡ rest ++ entry_of run ∷ [])
      → IsLastTwo rank runs bound last before
  found-two bound items left rest None before is none earlier =
      found-last bound items left None is none
  found-two bound items left rest (Some last) before is parts earlier =
      let found = found-last bound items left (Some last) is parts in
      let ends = sym is ∙ ap (runs_of rank) parts
      ∙ map-append (entry_run rank) left (entry_of last ∷ []) in
      let starts = found.starts in (
        found,
        found-last (rank last.start) left rest before
            (sym (below-push n 0 (runs_of rank left) (run_of rank last)
            (subst (StartsAscendFrom n 0) ends
            (starting-ascending (λ start. nat_lt start bound) n 0 runs ascending)))
            ∙ ap (runs_below (rank last.start)) (sym ends)
            ∙ starting-starting (λ start. nat_lt start (rank last.start)) (λ start. nat_lt start bound)
            (λ start. nat_lt start (rank last.start)) runs
            (λ start. grind (arith, nat_tests, starts)))
            earlier,
      )

-- ---- lower bounds

-- The last run that starts below a bound is also the last that starts below a lower one, if it
-- does.
pub last-lower : (runs : List Interval) (low bound : ℕ) (run : Interval) → low ≤ bound → run.first < low
    → IsLastBelow runs bound run → IsLastBelow runs low run
last-lower runs low bound run less starts found = record {
  among = found.among;
  starts = starts;
  last = λ other also under. found.last other also (omega (arith, less, under));
}

-- If no run starts below a bound, none starts below a lower one.
pub none-lower : (runs : List Interval) (low bound : ℕ) → low ≤ bound → NoneBelow runs bound
    → NoneBelow runs low
none-lower runs low bound less none run found under = none run found (omega (arith, less, under))

module _ {T : Type 0} (rank : T → ℕ) (n : ℕ) (runs : List Interval)
    (canonical : IsCanonicalIn n runs) (bound : ℕ) where
  -- The last run that starts below a bound starts and ends within the type.
  pub last-value : (run : Run T) → IsLastBelow runs bound (run_of rank run)
      → (rank run.start < n) × (rank run.end < n)
  last-value run found =
      let maximal = contained-maximal n runs canonical (run_of rank run) found.among in
      (omega (arith, maximal.in_order, maximal.in_type), maximal.in_type)

  -- So do the last runs that `IsLastTwo` names.
  pub two-values : (last before : Option (Run T)) → IsLastTwo rank runs bound last before
      → IfSome last (λ run. rank run.start < n) × IfSome last (λ run. rank run.end < n)
  two-values None before two = (tt, tt)
  two-values (Some run) before two = last-value run two.0

module _ {T : Type 0} (rank : T → ℕ) (runs : List Interval) (bound : ℕ) (last before : Option (Run T))
    (two : IsLastTwo rank runs bound last before) where
  -- What `IsLastTwo` states if it is known whether `last` and `before` are runs.
  pub two-last : (run : Run T) → last ≡ Some run → IsLastTwo rank runs bound (Some run) before
  two-last run is = subst (λ (each : Option (Run T)). IsLastTwo rank runs bound each before) is two

  pub two-neither : last ≡ None → NoneBelow runs bound
  two-neither is = subst (λ (each : Option (Run T)). IsLastTwo rank runs bound each before) is two

  pub two-before : (run other : Run T) → last ≡ Some run → before ≡ Some other
      → IsLastBelow runs (rank run.start) (run_of rank other)
  two-before run other is also =
      subst (λ (each : Option (Run T)). MatchOption each (NoneBelow runs (rank run.start))
      (λ other. IsLastBelow runs (rank run.start) (run_of rank other))) also (two-last run is).1

  pub two-none : (run : Run T) → last ≡ Some run → before ≡ None → NoneBelow runs (rank run.start)
  two-none run is also =
      subst (λ (each : Option (Run T)). MatchOption each (NoneBelow runs (rank run.start))
      (λ other. IsLastBelow runs (rank run.start) (run_of rank other))) also (two-last run is).1
