-- What operations select from the streams of lists.
use Rattle.std.proofs.Common.{◌≡◌, ℕ, Bool, true, false, ◌&&◌, ◌||◌, drop, length, take, List, [], ◌∷◌, map, not, refl, ap, subst, sym, arith}
use Rattle.std.proofs.lemmas.Result.{IfOk-weaker}
use Rattle.std.specs.Prelude.{IfOk, Result, min}
use Rattle.range_set_blaze.specs.Multiway.{IsMadeOf}
use Rattle.range_set_blaze.specs.Runs.{AreRuns, Interval, members}
use Rattle.range_set_blaze.specs.Selection.{Agree, Selection, any_of, complement, difference}
use Rattle.rsb_integer.proofs.lemmas.Runs.{runs-along, runs-members}
use Rattle.rsb_many.proofs.lemmas.calling.Results.{GiveThese, runs_by_all-these, settled_runs}
use Rattle.rsb_many.specs.MultiwayResults.{GivesByAll}
use Rattle.rsb_streams.specs.Stream.{◌⊆◌, Outcomes, runs_by, runs_by_two}
use Rattle.ip_sets.specs.Operation.{first_only, selected_by}
use Rattle.ip_sets.specs.declared.operations.Operation.{Operation}
use Rattle.ip_sets.specs.Selection.{GiveEach}

module _ {S : Type 0} (may_give : S → Outcomes) where
  -- Each stream gives only the list at its place.
  give-these : (streams : List S) (sets : List (List Interval)) → GiveEach may_give streams sets
      → GiveThese may_give streams sets
  give-these [] [] each = tt
  give-these [] (runs ∷ sets) each = absurd each
  give-these (s ∷ streams) [] each = absurd each
  give-these (s ∷ streams) (runs ∷ sets) each = (each.0, give-these streams sets each.1)

  -- If a stream gives the runs of what an operation selects from streams, it gives only those of
  -- what the operation selects from the lists that these streams give.
  pub selects : (n : ℕ) (operation : List Selection → Selection) (streams : List S)
      (sets : List (List Interval)) (gives : Outcomes) → GiveEach may_give streams sets
      → GivesByAll operation n may_give streams gives
      → gives ⊆ AreRuns n (operation (map members sets))
  selects n operation streams sets gives each by_all runs may =
      runs_by_all-these n operation may_give streams sets (give-these streams sets each) runs
      (by_all runs may)

-- If a stream gives only the runs of a set, its complement gives only those of the complement.
pub selects-complement : (n : ℕ) (selected : Selection) (of gives : Outcomes)
    → of ⊆ AreRuns n selected → gives ⊆ runs_by n complement of
    → gives ⊆ AreRuns n (complement selected)
selects-complement n selected of gives only by runs may =
    settled_runs n (complement selected) runs (λ fails. by runs may (λ first at all.
    fails (runs-along n (complement (members first)) (complement selected) runs
    (λ rank below. ap not (runs-members n selected first (only first at) rank below)) all)))

-- If two streams give only the runs of two sets, their difference gives only those of the
-- difference.
pub selects-difference : (n : ℕ) (these those : Selection) (left right gives : Outcomes)
    → left ⊆ AreRuns n these → right ⊆ AreRuns n those → gives ⊆ runs_by_two n difference left right
    → gives ⊆ AreRuns n (difference these those)
selects-difference n these those left right gives first_only others_only by runs may =
    settled_runs n (difference these those) runs (λ fails. by runs may (λ first other at also all.
    fails (runs-along n (difference (members first) (members other)) (difference these those) runs
    (λ rank below.
    let here = runs-members n these first (first_only first at) rank below in
    let there = runs-members n those other (others_only other also) rank below in
    rw (here, there) refl) all)))

-- ---- the first stream and the others

-- One stream or none, if there is none, is the same as at most one.
pub take-least : {X : Type 0} (xs : List X) (k : ℕ) → k ≡ min (length xs) 1
    → take k xs ≡ take 1 xs
take-least [] k is = ap (λ many. take many []) is
take-least (x ∷ xs) k is =
    let one : k ≡ 1 = omega (arith, is) in
    ap (λ many. take many (x ∷ xs)) one

-- What is left without these is the same too.
pub drop-least : {X : Type 0} (xs : List X) (k : ℕ) → k ≡ min (length xs) 1
    → drop k xs ≡ drop 1 xs
drop-least [] k is = ap (λ many. drop many []) is
drop-least (x ∷ xs) k is =
    let one : k ≡ 1 = omega (arith, is) in
    ap (λ many. drop many (x ∷ xs)) one

module _ {S : Type 0} (may_give : S → Outcomes) where
  -- The first stream, if there is one, gives the first list.
  pub give-first : (streams : List S) (sets : List (List Interval)) → GiveEach may_give streams sets
      → GiveEach may_give (take 1 streams) (take 1 sets)
  give-first [] [] each = tt
  give-first [] (runs ∷ sets) each = absurd each
  give-first (s ∷ streams) [] each = absurd each
  give-first (s ∷ streams) (runs ∷ sets) each = (each.0, tt)

  -- The others give the other lists.
  pub give-others : (streams : List S) (sets : List (List Interval))
      → GiveEach may_give streams sets → GiveEach may_give (drop 1 streams) (drop 1 sets)
  give-others [] [] each = tt
  give-others [] (runs ∷ sets) each = absurd each
  give-others (s ∷ streams) [] each = absurd each
  give-others (s ∷ streams) (runs ∷ sets) each = each.1

-- What the first set has, if there is one, and none of the others.
pub first-agrees : (n : ℕ) (sets : List (List Interval))
    → Agree n (difference (any_of (map members (take 1 sets))) (any_of (map members (drop 1 sets))))
    (first_only (map members sets))
first-agrees n [] rank below = refl
first-agrees n (runs ∷ sets) rank below = by (members runs rank)
  where
    by : (has : Bool) → ((has || false) && not (any_of (map members sets) rank))
        ≡ (has && not (any_of (map members sets) rank))
    by true = refl
    by false = refl

-- If the operation is the one that was asked for, and the set has the runs of what it selects, what
-- was asked for was made.
pub as-made : {E : Type 0} (n : ℕ) (operation which : Operation) (sets : List (List Interval))
    (gives : Outcomes) (result : Result (List Interval) E) → operation ≡ which
    → gives ⊆ AreRuns n (selected_by which (map members sets)) → IfOk result gives
    → IfOk result (λ set. IsMadeOf n (selected_by operation) sets set)
as-made n operation which sets gives result is only made =
    subst (λ each. IfOk result (λ set. IsMadeOf n (selected_by each) sets set)) (sym is)
    (IfOk-weaker result gives _
    (λ set may. runs-members n (selected_by which (map members sets)) set (only set may)) made)
