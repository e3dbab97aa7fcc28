-- The gaps between two free ranks, from the runs between them.
use Rattle.std.proofs.Common.{◌≡◌, ℕ, ◌+◌, ◌-◌, ◌<◌, ◌≤◌, List, [], ◌∷◌, ◌++◌, refl, ap, inl, inr, arith}
use Rattle.std.proofs.lemmas.Bool.{cases_lt}
use Rattle.std.proofs.lemmas.Bool.Decides.{nat_tests}
use Rattle.std.proofs.lemmas.List.Elements.{All-cons, All-head, All-nil, All-tail}
use Rattle.rsb_integer.specs.Runs.{Interval, covers, from_to, members, AllEndBelow, IsCanonicalFrom, IsCanonicalIn}
use Rattle.rsb_integer.specs.Selection.{difference}
use Rattle.rsb_integer.proofs.lemmas.Canonical.{canonical-lower, canonical-parts}
use Rattle.rsb_integer.proofs.lemmas.Members.{members-below, members-cons}
use Rattle.rsb_storage.specs.GapsIn.{gaps_between, LieBetween}
use Rattle.rsb_storage.specs.Set.{IsSetOf}

-- ---- what is left when a gap is removed

-- The runs after the first one lie between the rank after it and `last`.
pub between-tail : (n first last : ℕ) (run : Interval) (runs : List Interval)
    → LieBetween n first last (run ∷ runs) → LieBetween n (run.last + 1) last runs
between-tail n first last run runs lie =
    let ends = All-head (λ (each : Interval). each.last < last) run runs lie.earlier in
    record {
      in_order = omega (arith, ends);
      in_type = lie.in_type;
      later = canonical-lower (run.last + 2) (run.last + 1 + 1) runs (omega arith) lie.later.rest;
      earlier = All-tail (λ (each : Interval). each.last < last) run runs lie.earlier;
    }

-- The last of canonical runs starts at least two ranks past the ends of the others.
pub last-apart : (low last : ℕ) (runs : List Interval) (run : Interval)
    → IsCanonicalFrom low (runs ++ run ∷ []) → AllEndBelow last (runs ++ run ∷ [])
    → record {
      starts : low ≤ run.first;
      in_order : run.first ≤ run.last;
      ends : run.last < last;
      before : AllEndBelow (run.first - 1) runs;
    }
last-apart low last [] run canonical ends = record {
  starts = canonical.starts;
  in_order = canonical.in_order;
  ends = All-head (λ (each : Interval). each.last < last) run [] ends;
  before = All-nil (λ (each : Interval). each.last < run.first - 1);
}
last-apart low last (other ∷ runs) run canonical ends =
    let rest = last-apart (other.last + 2) last runs run canonical.rest
    (All-tail (λ (each : Interval). each.last < last) other (runs ++ run ∷ []) ends) in
    let starts = canonical.starts in
    let order = canonical.in_order in
    record {
      starts = omega (arith, rest.starts, starts, order);
      in_order = rest.in_order;
      ends = rest.ends;
      before = All-cons (λ (each : Interval). each.last < run.first - 1) other runs
          (omega (arith, rest.starts)) rest.before;
    }

-- The runs before the last one lie between `first` and the rank before it.
pub between-front : (n first last : ℕ) (runs : List Interval) (run : Interval)
    → LieBetween n first last (runs ++ run ∷ []) → LieBetween n first (run.first - 1) runs
between-front n first last runs run lie =
    let apart = last-apart (first + 1) last runs run lie.later lie.earlier in
    let known = lie.in_type in
    record {
      in_order = omega (arith, apart.starts);
      in_type = omega (arith, apart.in_order, apart.ends, known);
      later = (canonical-parts (first + 1) runs (run ∷ []) lie.later).0;
      earlier = apart.before;
    }

-- The last run lies between the two ranks.
pub between-last : (n first last : ℕ) (runs : List Interval) (run : Interval)
    → LieBetween n first last (runs ++ run ∷ [])
    → (first < run.first) × (run.first ≤ run.last) × (run.last < last)
between-last n first last runs run lie =
    let apart = last-apart (first + 1) last runs run lie.later lie.earlier in
    (omega (arith, apart.starts), apart.in_order, apart.ends)

-- The gap after the last run is the last gap.
pub gaps-last : (first last : ℕ) (runs : List Interval) (run : Interval)
    → gaps_between first last (runs ++ run ∷ [])
    ≡ gaps_between first (run.first - 1) runs ++ from_to (run.last + 1) last ∷ []
gaps-last first last [] run = refl
gaps-last first last (other ∷ runs) run =
    ap (λ (gaps : List Interval). from_to first (other.first - 1) ∷ gaps)
    (gaps-last (other.last + 1) last runs run)

-- ---- what the gaps are

-- The gaps are canonical.
gaps-apart : (n first last : ℕ) (runs : List Interval) → LieBetween n first last runs
    → IsCanonicalFrom first (gaps_between first last runs)
gaps-apart n first last [] lie = record {
  starts = omega arith;
  in_order = lie.in_order;
  rest = tt;
}
gaps-apart n first last (run ∷ runs) lie =
    let starts = lie.later.starts in
    let order = lie.later.in_order in
    record {
      starts = omega arith;
      in_order = omega (arith, starts);
      rest = canonical-lower (run.last + 1) (run.first - 1 + 2)
          (gaps_between (run.last + 1) last runs) (omega (arith, starts, order))
          (gaps-apart n (run.last + 1) last runs (between-tail n first last run runs lie));
    }

-- They end within the type.
gaps-end : (n first last : ℕ) (runs : List Interval) → LieBetween n first last runs
    → AllEndBelow n (gaps_between first last runs)
gaps-end n first last [] lie =
    All-cons (λ (each : Interval). each.last < n) (from_to first last) [] lie.in_type
    (All-nil (λ (each : Interval). each.last < n))
gaps-end n first last (run ∷ runs) lie =
    let order = lie.later.in_order in
    let known = lie.in_type in
    let ends = All-head (λ (each : Interval). each.last < last) run runs lie.earlier in
    All-cons (λ (each : Interval). each.last < n) (from_to first (run.first - 1))
    (gaps_between (run.last + 1) last runs) (omega (arith, order, known, ends))
    (gaps-end n (run.last + 1) last runs (between-tail n first last run runs lie))

pub gaps-canonical : (n first last : ℕ) (runs : List Interval) → LieBetween n first last runs
    → IsCanonicalIn n (gaps_between first last runs)
gaps-canonical n first last runs lie = record {
  apart = canonical-lower first 0 (gaps_between first last runs) (omega arith)
      (gaps-apart n first last runs lie);
  within = gaps-end n first last runs lie;
}

-- Their members are the ranks from `first` to `last` that no run has.
pub gaps-members : (n first last : ℕ) (runs : List Interval) → LieBetween n first last runs
    → IsSetOf (gaps_between first last runs)
    (difference (covers (from_to first last)) (members runs))
gaps-members n first last [] lie rank =
    let all = members-cons (from_to first last) [] rank in
    grind (arith, nat_tests, all)
gaps-members n first last (run ∷ runs) lie rank =
    let rest = gaps-members n (run.last + 1) last runs
    (between-tail n first last run runs lie) rank in
    let all = members-cons (from_to first (run.first - 1))
    (gaps_between (run.last + 1) last runs) rank in
    let some = members-cons run runs rank in
    let starts = lie.later.starts in
    let order = lie.later.in_order in
    let ends = All-head (λ (each : Interval). each.last < last) run runs lie.earlier in
    elim (cases_lt run.last rank) [
      | inl past ↦ grind (arith, nat_tests, rest, all, some, past, starts, order)
      | inr to ↦
          let none = members-below (run.last + 2) runs rank lie.later.rest (omega (arith, to)) in
          elim (cases_lt rank run.first) [
            | inl before ↦ grind (arith, nat_tests, rest, all, some, none, before, to, order, ends)
            | inr from ↦ grind (arith, nat_tests, rest, all, some, none, from, to, starts)
          ]
    ]
