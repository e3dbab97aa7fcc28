-- What calls of a map do to the runs of its entries, and which runs they find.
use Rattle.std.proofs.Common.{◌≡◌, ◌⊎◌, ℕ, Bool, true, false, not, ◌==◌, nat_le, nat_lt, ◌+◌, ◌<◌, cond, List, [], ◌∷◌, refl, sym, ap, ◌∙◌, inl, inr, arith, Less, Equal, Greater, Some, None}
use Rattle.std.specs.List.{Contains, filter}
use Rattle.std.specs.Map.{lookup, remove_entry}
use Rattle.std.specs.Ordering.{nat_cmp, is_eq, is_gt, is_le}
use Rattle.std.specs.BTreeMap.Range.{entries_below, entries_from, range_contains}
use Rattle.std.specs.declared.ops.Bound.TheVariants.{Excluded, Included, Unbounded}
use Rattle.std.specs.BTreeMap.{insert_entry, is_at}
use Rattle.std.specs.declared.cmp.Ordering.{Ordering}
use Rattle.std.proofs.lemmas.Bool.{cases_lt, eq-eqb, le-ltb, lt-ltb, ne_eqb}
use Rattle.std.proofs.lemmas.Bool.Decides.{nat_tests}
use Rattle.rsb_integer.specs.Runs.{Interval}
use Rattle.rsb_integer.proofs.lemmas.List.{Contains-cases}
use Rattle.rsb_storage.specs.Storage.{entry_run, runs_of}
use Rattle.rsb_storage.specs.Starts.{runs_below, runs_past, runs_starting, starting_from, with_run, without_start, StartsAscendFrom}
use Rattle.rsb_storage.proofs.lemmas.runs.Starts.{ascending-all, ascending-contains, ascending-raise, with_run-first, with_run-here, with_run-later}

-- If a test of keys agrees with a test of their ranks, the entries whose keys pass have the runs
-- whose starts pass.
pub runs-filter : {T : Type 0} (rank : T → ℕ) (n : ℕ) (keeps : T → Bool) (test : ℕ → Bool) (low : ℕ)
    (entries : List (T × T)) → ((key : T) → rank key < n → keeps key ≡ test (rank key))
    → StartsAscendFrom n low (runs_of rank entries)
    → runs_of rank (filter (λ (entry : T × T). keeps entry.0) entries)
    ≡ runs_starting test (runs_of rank entries)
runs-filter rank n keeps test low [] same ascending = refl
runs-filter {T} rank n keeps test low (entry ∷ entries) same ascending =
    by (test (rank entry.0)) refl
    (runs-filter rank n keeps test (rank entry.0 + 1) entries same ascending.rest)
  where
    by : (passes : Bool) → test (rank entry.0) ≡ passes
        → runs_of rank (filter (λ (each : T × T). keeps each.0) entries)
        ≡ runs_starting test (runs_of rank entries)
        → runs_of rank (filter (λ (each : T × T). keeps each.0) (entry ∷ entries))
        ≡ runs_starting test (runs_of rank (entry ∷ entries))
    by true is rest =
        rw (same entry.0 ascending.in_type, is)
        (ap (λ (runs : List Interval). entry_run rank entry ∷ runs) rest)
    by false is rest = rw (same entry.0 ascending.in_type, is) rest

module _ {T : Type 0} (cmp : T → T → Ordering) (rank : T → ℕ) (n : ℕ)
    (in_order : (x y : T) → rank x < n → rank y < n → cmp x y ≡ nat_cmp (rank x) (rank y)) where
  -- Values compare as their ranks do.
  pub order-cases : (x y : T) → rank x < n → rank y < n
      → ((rank x < rank y) × (cmp x y ≡ Less))
      ⊎ ((rank x ≡ rank y) × (cmp x y ≡ Equal)) ⊎ ((rank y < rank x) × (cmp x y ≡ Greater))
  order-cases x y known other = elim (cases_lt (rank x) (rank y)) [
    | inl less ↦ inl (less, in_order x y known other ∙ rw (lt-ltb (rank x) (rank y) less) refl)
    | inr from ↦ elim (cases_lt (rank y) (rank x)) [
      | inl more ↦ inr (inr (
        more,
        in_order x y known other
            ∙ rw (le-ltb (rank x) (rank y) from, ne_eqb (rank x) (rank y) (omega (arith, more))) refl,
      ))
      | inr to ↦
          let same : rank x ≡ rank y = omega (arith, from, to) in
          inr (inl (
            same,
            in_order x y known other
                ∙ rw (le-ltb (rank x) (rank y) from, eq-eqb (rank x) (rank y) same) refl,
          ))
    ]
  ]

  -- Inserting an entry puts its run at its place, in place of any run with the same start.
  pub runs-insert_entry : (key end : T) → rank key < n → (low : ℕ) (entries : List (T × T))
      → StartsAscendFrom n low (runs_of rank entries)
      → runs_of rank (insert_entry cmp entries key end)
      ≡ with_run (entry_run rank (key, end)) (runs_of rank entries)
  runs-insert_entry key end known low [] ascending = refl
  runs-insert_entry key end known low (entry ∷ entries) ascending =
      let run = entry_run rank (key, end) in
      let first = entry_run rank entry in
      let runs = runs_of rank entries in
      elim (order-cases key entry.0 known ascending.in_type) [
        | inl less ↦
            let below = less.0 in
            rw less.1
            (sym (with_run-first n run (first ∷ runs)
            (ascending-raise n low (run.first + 1) first runs (omega (arith, below)) ascending)))
        | inr (inl same) ↦
            rw same.1
            ((λ i. (record { first = sym same.0 i; last = rank end }) ∷ runs)
            ∙ sym (with_run-here run first runs same.0 ∙ with_run-first n run runs
            (rw same.0 ascending.rest)))
        | inr (inr more) ↦
            rw more.1
            (ap (λ (rest : List Interval). first ∷ rest)
            (runs-insert_entry key end known (rank entry.0 + 1) entries ascending.rest)
            ∙ sym (with_run-later run first runs more.0))
      ]

  -- Removing the entry at a key removes the run that starts there.
  pub runs-remove_entry : (key : T) → rank key < n → (low : ℕ) (entries : List (T × T))
      → StartsAscendFrom n low (runs_of rank entries)
      → runs_of rank (remove_entry (is_at (cmp key)) entries)
      ≡ without_start (rank key) (runs_of rank entries)
  runs-remove_entry key known low [] ascending = refl
  runs-remove_entry key known low (entry ∷ entries) ascending =
      let rest = ap (λ (runs : List Interval). entry_run rank entry ∷ runs)
      (runs-remove_entry key known (rank entry.0 + 1) entries ascending.rest) in
      elim (order-cases key entry.0 known ascending.in_type) [
        | inl less ↦
            let differs : (rank entry.0 == rank key) ≡ false = grind (arith, nat_tests, less.0) in
            rw (less.1, differs) rest
        | inr (inl same) ↦
            let meets : (rank entry.0 == rank key) ≡ true = grind (arith, nat_tests, same.0) in
            rw (same.1, meets)
            (sym (ascending-all (λ start. not (start == rank key)) n (rank entry.0 + 1)
            (runs_of rank entries) ascending.rest
            (λ start from. grind (arith, nat_tests, from, same.0))))
        | inr (inr more) ↦
            let differs : (rank entry.0 == rank key) ≡ false = grind (arith, nat_tests, more.0) in
            rw (more.1, differs) rest
      ]

  -- If a look-up finds nothing, no run starts at the key.
  pub lookup-none : (key : T) → rank key < n → (low : ℕ) (entries : List (T × T))
      → StartsAscendFrom n low (runs_of rank entries) → lookup (is_at (cmp key)) entries ≡ None
      → (run : Interval) → Contains (runs_of rank entries) run → run.first ≡ rank key → ⊥
  lookup-none key known low [] ascending absent run found starts =
      let none = found.1 in omega arith
  lookup-none key known low (entry ∷ entries) ascending absent run found starts =
      let first = entry_run rank entry in
      let runs = runs_of rank entries in
      let from = ascending-contains n (rank entry.0) (first ∷ runs) run
      (ascending-raise n low (rank entry.0) first runs (omega arith) ascending) found in
      elim (order-cases key entry.0 known ascending.in_type) [
        | inl less ↦ let below = less.0 in omega (arith, below, from, starts)
        | inr (inl same) ↦
            let is : Some entry.1 ≡ None = ap (λ order. cond (is_eq order) (Some entry.1)
            (lookup (is_at (cmp key)) entries)) (sym same.1) ∙ absent in
            cc
        | inr (inr more) ↦ elim (Contains-cases first runs run found) [
          | inl is ↦
              let meets = ap (λ (each : Interval). each.first) is in
              let above = more.0 in omega (arith, meets, above, starts)
          | inr later ↦
              lookup-none key known (rank entry.0 + 1) entries ascending.rest
              (ap (λ order. cond (is_eq order) (Some entry.1) (lookup (is_at (cmp key)) entries))
              (sym more.1) ∙ absent) run later starts
        ]
      ]

  -- ---- ranges of a map

  -- The entries up to a value have the runs that start below the next rank.
  pub runs-up_to : (value : T) → rank value < n → (entries : List (T × T))
      → StartsAscendFrom n 0 (runs_of rank entries)
      → runs_of rank
      (filter (λ (entry : T × T). range_contains cmp Unbounded (Included value) entry.0) entries)
      ≡ runs_below (rank value + 1) (runs_of rank entries)
  runs-up_to value known entries ascending =
      runs-filter rank n (range_contains cmp Unbounded (Included value))
      (λ start. nat_lt start (rank value + 1)) 0 entries
      (λ key other. elim (order-cases value key known other) [
        | inl less ↦ rw less.1 (grind (arith, nat_tests, less.0))
        | inr (inl same) ↦ rw same.1 (grind (arith, nat_tests, same.0))
        | inr (inr more) ↦ rw more.1 (grind (arith, nat_tests, more.0))
      ]) ascending

  -- The entries after a value have the runs that start past its rank.
  pub runs-after : (value : T) → rank value < n → (entries : List (T × T))
      → StartsAscendFrom n 0 (runs_of rank entries)
      → runs_of rank
      (filter (λ (entry : T × T). range_contains cmp (Excluded value) Unbounded entry.0) entries)
      ≡ runs_past (rank value) (runs_of rank entries)
  runs-after value known entries ascending =
      runs-filter rank n (range_contains cmp (Excluded value) Unbounded)
      (λ start. nat_lt (rank value) start) 0 entries
      (λ key other. elim (order-cases value key known other) [
        | inl less ↦ rw less.1 (grind (arith, nat_tests, less.0))
        | inr (inl same) ↦ rw same.1 (grind (arith, nat_tests, same.0))
        | inr (inr more) ↦ rw more.1 (grind (arith, nat_tests, more.0))
      ]) ascending

  -- If a map is split at a value, one part has the runs that start below its rank. The other part
  -- has the others.
  pub runs-below : (value : T) → rank value < n → (entries : List (T × T))
      → StartsAscendFrom n 0 (runs_of rank entries)
      → runs_of rank (entries_below (cmp value) entries)
      ≡ runs_below (rank value) (runs_of rank entries)
  runs-below value known entries ascending =
      runs-filter rank n (λ key. is_gt (cmp value key)) (λ start. nat_lt start (rank value)) 0 entries
      (λ key other. elim (order-cases value key known other) [
        | inl less ↦ rw less.1 (grind (arith, nat_tests, less.0))
        | inr (inl same) ↦ rw same.1 (grind (arith, nat_tests, same.0))
        | inr (inr more) ↦ rw more.1 (grind (arith, nat_tests, more.0))
      ]) ascending

  pub runs-from : (value : T) → rank value < n → (entries : List (T × T))
      → StartsAscendFrom n 0 (runs_of rank entries)
      → runs_of rank (entries_from (cmp value) entries)
      ≡ starting_from (rank value) (runs_of rank entries)
  runs-from value known entries ascending =
      runs-filter rank n (λ key. is_le (cmp value key)) (λ start. nat_le (rank value) start) 0 entries
      (λ key other. elim (order-cases value key known other) [
        | inl less ↦ rw less.1 (grind (arith, nat_tests, less.0))
        | inr (inl same) ↦ rw same.1 (grind (arith, nat_tests, same.0))
        | inr (inr more) ↦ rw more.1 (grind (arith, nat_tests, more.0))
      ]) ascending
