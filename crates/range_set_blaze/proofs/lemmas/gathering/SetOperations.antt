-- Sets built from one or two lists of runs by an operation.
use Rattle.std.proofs.Common.{◌≡◌, ℕ, Bool, false, not, ◌&&◌, ◌≤◌, nat_lt, List, refl, sym, ◌∙◌, inl, inr, arith}
use Rattle.std.specs.Prelude.{IfOk, Result}
use Rattle.std.proofs.lemmas.Bool.{and_parts, cases_lt}
use Rattle.std.proofs.lemmas.Bool.Decides.{nat_tests}
use Rattle.std.proofs.lemmas.Result.{IfOk-weaker}
use Rattle.rsb_integer.specs.Runs.{Interval, members, AreRuns}
use Rattle.rsb_integer.specs.Selection.{Selection, complement, intersection, complement_in}
use Rattle.rsb_integer.proofs.lemmas.Members.{members-end}
use Rattle.rsb_integer.proofs.lemmas.Begins.{runs-none}
use Rattle.rsb_integer.proofs.lemmas.RunCount.{runs-complement, runs-intersection, runs-of_one}
use Rattle.rsb_integer.proofs.lemmas.Runs.{runs-along, runs-canonical, runs-members}
use Rattle.rsb_streams.specs.RunCount.{HasFewerRunsThanBoth, HasOneRunMoreAtMost, HasRunsOfBothAtMost}
use Rattle.rsb_streams.specs.Stream.{◌⊆◌, just, runs_by, runs_by_two, Outcomes}
use Rattle.rsb_many.proofs.lemmas.calling.Results.{settled_runs}
use Rattle.rsb_storage.specs.Set.{IsSetOf}

-- If a selection ends within the type, a set with its runs has exactly its ranks.
pub set-of_runs : (n : ℕ) (selected : Selection) (set : List Interval)
    → ((rank : ℕ) → n ≤ rank → selected rank ≡ false) → AreRuns n selected set
    → IsSetOf set selected
set-of_runs n selected set ends are rank = elim (cases_lt rank n) [
  | inl below ↦ runs-members n selected set are rank below
  | inr past ↦
      members-end n set rank (runs-canonical n selected set are).within past ∙ sym (ends rank past)
]

module _ (n : ℕ) {E : Type 0} (result : Result (List Interval) E) (gives : Outcomes)
    (made : IfOk result gives) where
  -- A set that is built from the gaps of a set is its complement, with at most one run more.
  pub set-of_complement : {P : Outcomes} (given : List Interval) → P ⊆ just given
      → AreRuns n (members given) given → gives ⊆ runs_by n complement P
      → IfOk result (λ set. IsSetOf set (complement_in n (members given)))
      × IfOk result (λ set. HasOneRunMoreAtMost given set)
  set-of_complement given is one gaps =
      let are : (set : List Interval) → gives set → AreRuns n (complement (members given)) set =
      λ set may. settled_runs n (complement (members given)) set (λ fails.
      gaps set may (λ runs at all. fails (rw (is runs at) at all))) in (
        IfOk-weaker result _ _ (λ set may. set-of_runs n
            (λ rank. nat_lt rank n && not (members given rank)) set
            (λ rank past. grind (arith, nat_tests))
            (runs-along n (complement (members given))
            (λ rank. nat_lt rank n && not (members given rank)) set
            (λ rank below. grind (arith, nat_tests)) (are set may))) made,
        IfOk-weaker result _ _ (λ set may.
            runs-complement n (members given) given set one (are set may)) made,
      )

  module _ {P Q : Outcomes} (these those : List Interval) (is : P ⊆ just these)
      (also : Q ⊆ just those) (one : AreRuns n (members these) these)
      (other : AreRuns n (members those) those) where
    -- If an operation selects no rank that neither set has, a set built by it has exactly what it
    -- selects.
    set-of_two : (operation : Selection → Selection → Selection) (Bound : List Interval → Type 0)
        → ((rank : ℕ) → members these rank ≡ false → members those rank ≡ false
        → operation (members these) (members those) rank ≡ false)
        → ((set : List Interval) → AreRuns n (operation (members these) (members those)) set
        → Bound set) → gives ⊆ runs_by_two n operation P Q
        → IfOk result (λ set. IsSetOf set (operation (members these) (members those)))
        × IfOk result Bound
    set-of_two operation Bound nothing bounds by_two =
        let selected = operation (members these) (members those) in
        let are : (set : List Interval) → gives set → AreRuns n selected set = λ set may.
        settled_runs n selected set (λ fails. by_two set may (λ first second at too all.
        fails (rw (is first at, also second too) at all))) in (
          IfOk-weaker result _ _ (λ set may. set-of_runs n selected set (λ rank past. nothing rank
              (members-end n these rank (runs-canonical n (members these) these one).within past)
              (members-end n those rank (runs-canonical n (members those) those other).within past))
              (are set may)) made,
          IfOk-weaker result _ _ (λ set may. bounds set (are set may)) made,
        )

    -- If the operation works rank by rank, the result has at most as many runs as both sets
    -- together.
    pub set-of_operation : (op : Bool → Bool → Bool) → op false false ≡ false
        → gives ⊆ runs_by_two n (λ lefts rights rank. op (lefts rank) (rights rank)) P Q
        → IfOk result (λ set. IsSetOf set (λ rank. op (members these rank) (members those rank)))
        × IfOk result (HasRunsOfBothAtMost these those)
    set-of_operation op none = set-of_two (λ lefts rights rank. op (lefts rank) (rights rank))
        (HasRunsOfBothAtMost these those) (λ rank here there. rw (here, there) none)
        (λ set. runs-of_one op none n (members these) (members those) these those set one other)

    -- An intersection has no runs if either set has none, and otherwise fewer than both together.
    pub set-of_intersection : gives ⊆ runs_by_two n intersection P Q
        → IfOk result (λ set. IsSetOf set (intersection (members these) (members those)))
        × IfOk result (HasFewerRunsThanBoth these those)
    set-of_intersection =
        let both = intersection (members these) (members those) in
        set-of_two intersection (HasFewerRunsThanBoth these those)
        (λ rank here there. rw here refl) (λ set are. (
          runs-none n (members these) both these set one are
              (λ rank has. (and_parts (members these rank) (members those rank) has).0),
          runs-none n (members those) both those set other are
              (λ rank has. (and_parts (members these rank) (members those rank) has).1),
          λ some more.
              runs-intersection n (members these) (members those) these those set one other are some,
        ))
