-- A canonical list in which an interval loses its first or its last rank.
use Rattle.std.proofs.Common.{◌≡◌, ℕ, true, cond, ◌+◌, ◌<◌, ◌≤◌, List, [], ◌∷◌, ◌++◌, ap, arith}
use Rattle.std.proofs.lemmas.Bool.Decides.{nat_tests}
use Rattle.std.proofs.lemmas.List.Elements.{All-cons, All-head, All-tail}
use Rattle.rsb_integer.specs.Runs.{Interval, cover, covers, length_of, members, AllEndBelow, IsAfterFirst, IsBeforeLast, IsCanonicalFrom}
use Rattle.rsb_integer.proofs.lemmas.Canonical.{canonical-lower}
use Rattle.rsb_integer.proofs.lemmas.Members.{members-below}
use Rattle.rsb_streams.specs.Stream.{run_if_any}
use Rattle.rsb_storage.specs.Set.{only, Removes}

-- Whether `rest` is what is left of `run` without the rank `point`, if `run` has any ranks.
pub record IsShorter (run rest : Interval) (point : ℕ) : Type 0 where
  pub within : rest.first ≤ rest.last → (run.first ≤ rest.first) × (rest.last ≤ run.last)
  pub fewer : run.first ≤ run.last → length_of rest < length_of run
  pub same : run.first ≤ run.last → (other : ℕ)
      → cond (covers rest other) 1 0 + cond (only point other) 1 0 ≡ cond (covers run other) 1 0

-- An interval without its first rank is as `IsShorter` states.
pub shorter-first : (run rest : Interval) → IsAfterFirst run rest → IsShorter run rest run.first
shorter-first run rest after = record {
  within = λ left. grind (arith, after.more, after.none);
  fewer = λ some. grind (arith, after.more, after.none);
  same = λ some other. grind (arith, nat_tests, after.more, after.none);
}

-- An interval without its last rank is as `IsShorter` states.
pub shorter-last : (run rest : Interval) → IsBeforeLast run rest → IsShorter run rest run.last
shorter-last run rest before = record {
  within = λ left. grind (arith, before.more, before.none);
  fewer = λ some. grind (arith, before.more, before.none);
  same = λ some other. grind (arith, nat_tests, before.more, before.none);
}

-- Whether a list is canonical from a rank on, in a type of n values.
pub record IsCanonicalBetween (low n : ℕ) (runs : List Interval) : Type 0 where
  pub apart : IsCanonicalFrom low runs
  pub within : AllEndBelow n runs

-- Whether a canonical list in which an interval loses a rank stays canonical, and keeps the other
-- members. The first rank of the first interval is the least member, and the last rank of the last
-- is the greatest.
pub record IsTaken (low n : ℕ) (before after : List Interval) (run rest : Interval) (point : ℕ)
    : Type 0 where
  pub starts : low ≤ point
  pub canonical : IsCanonicalBetween low n (before ++ (run_if_any rest ++ after))
  pub removes : Removes (before ++ run ∷ after) (before ++ (run_if_any rest ++ after)) (only point)
  pub in_type : point < n
  pub here : members (before ++ run ∷ after) point ≡ true
  pub least : before ≡ [] → run.first ≡ point → (other : ℕ)
      → members (before ++ run ∷ after) other ≡ true → point ≤ other
  pub greatest : after ≡ [] → run.last ≡ point → (other : ℕ)
      → members (before ++ run ∷ after) other ≡ true → other ≤ point

module _ (n : ℕ) (after : List Interval) (run rest : Interval) (point : ℕ)
    (shorter : IsShorter run rest point) (below : run.last < n) where
  -- This holds for each interval, by induction along the intervals before it.
  pub taken : (low : ℕ) (before : List Interval)
      → IsCanonicalBetween low n (before ++ run ∷ after) → IsTaken low n before after run rest point
  taken low [] known =
      let some = known.apart.in_order in
      let lower = λ (lower : ℕ). canonical-lower (run.last + 2) lower after in
      let later = λ (other : ℕ). members-below (run.last + 2) after other known.apart.rest in
      let ends = All-tail (λ (each : Interval). each.last < n) run after known.within in
      record {
        starts = grind (arith, nat_tests, shorter.same some point, known.apart.starts);
        canonical = record {
          apart = grind (arith, nat_tests, known.apart.starts, some, known.apart.rest, shorter.within, lower);
          within = grind (arith, nat_tests, ends, below, shorter.within, All-cons);
        };
        removes = λ other. grind (arith, nat_tests, shorter.same some other, later other);
        in_type = grind (arith, nat_tests, shorter.same some point, below);
        here = grind (arith, nat_tests, shorter.same some point);
        least = λ none edge other member. grind (arith, nat_tests, edge, some, member, later other);
        greatest = λ none edge other member.
            grind (arith, nat_tests, edge, member, ap (λ runs. cover runs other) none);
      }
  taken low (first ∷ before) known =
      let tail = taken (first.last + 2) before (record {
        apart = known.apart.rest;
        within = All-tail (λ (each : Interval). each.last < n) first (before ++ run ∷ after)
            known.within;
      }) in
      record {
        starts = omega (arith, known.apart.starts, known.apart.in_order, tail.starts);
        canonical = record {
          apart = record {
            starts = known.apart.starts;
            in_order = known.apart.in_order;
            rest = tail.canonical.apart;
          };
          within = grind (arith, All-cons, All-head, known.within, tail.canonical.within);
        };
        removes = λ other. grind (arith, nat_tests, tail.removes other, tail.starts);
        in_type = tail.in_type;
        here = grind (arith, nat_tests, tail.here);
        least = λ none. absurd (cc);
        greatest = λ none edge other member.
            grind (arith, nat_tests, tail.greatest none edge other, tail.starts, member);
      }
