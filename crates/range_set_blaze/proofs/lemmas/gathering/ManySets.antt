-- Sets built from any number of sets, by the streams of their ranges.
use Rattle.std.proofs.Common.{◌≡◌, ◌∙◌, ℕ, Bool, true, false, ◌+◌, ◌<◌, ◌≤◌, cond, List, [], ◌∷◌, length, map, refl, subst, sym, arith}
use Rattle.std.proofs.lemmas.Bool.Decides.{nat_tests}
use Rattle.std.proofs.lemmas.List.Elements.{All-head, All-tail}
use Rattle.std.proofs.lemmas.Result.{IfOk-weaker}
use Rattle.std.specs.Prelude.{All, IfOk, Option, Result}
use Rattle.rsb_integer.specs.Runs.{Interval, AreRuns, IsCanonicalIn, members}
use Rattle.rsb_integer.specs.Selection.{Selection, all_of, any_of, at_least, how_many, odd_of}
use Rattle.rsb_integer.proofs.lemmas.AtLeast.{at_least-one}
use Rattle.rsb_integer.proofs.lemmas.Members.{members-end}
use Rattle.rsb_integer.proofs.lemmas.Runs.{runs-members}
use Rattle.rsb_streams.specs.Items.{GaveRun}
use Rattle.rsb_streams.specs.Stream.{◌⊆◌, just, Outcomes}
use Rattle.rsb_many.specs.MultiwayAtLeast.{GivesRunsOfAllAtMost}
use Rattle.rsb_many.specs.MultiwayResults.{GivesByAll}
pub use Rattle.rsb_many.proofs.lemmas.inputs.GivenList.{given-list, whole-items}
use Rattle.rsb_many.proofs.lemmas.inputs.HandedIn.{gave-each}
use Rattle.rsb_many.proofs.lemmas.pieces.AtLeast.{few-one, few-these}
use Rattle.rsb_many.proofs.lemmas.calling.Results.{runs_by_all-these, GiveThese}
use Rattle.range_set_blaze.specs.Multiway.{GivesSets, HasRunsOfAllAtMost, IsMadeOf}
use Rattle.rsb_storage.specs.Set.{IsSetOf}
use Rattle.range_set_blaze.proofs.lemmas.gathering.SetOperations.{set-of_runs}

-- ---- ranks that no set has

-- If none of some sets has a rank, the first does not.
first-none : (here : Bool) (others : ℕ) → cond here 1 0 + others ≡ 0 → here ≡ false
first-none true others none = absurd (omega (arith, none))
first-none false others none = refl

-- None of them is in any set.
pub any_of-none : (sets : List Selection) (rank : ℕ) → how_many sets rank ≡ 0
    → any_of sets rank ≡ false
any_of-none sets rank none = sym (at_least-one sets rank) ∙ grind (arith, nat_tests, none)

-- None of them is in all sets, if there is any set.
pub all_of-none : (lists : List (List Interval)) (rank : ℕ) → 0 < length lists
    → how_many (map members lists) rank ≡ 0 → all_of (map members lists) rank ≡ false
all_of-none [] rank some none = absurd (omega (arith, some))
all_of-none (list ∷ lists) rank some none =
    let here : members list rank ≡ false = first-none (members list rank) _ none in rw here refl

-- None of them is in an odd number of sets.
pub odd_of-none : (sets : List Selection) (rank : ℕ) → how_many sets rank ≡ 0
    → odd_of sets rank ≡ false
odd_of-none [] rank none = refl
odd_of-none (set ∷ sets) rank none =
    let here : set rank ≡ false = first-none (set rank) (how_many sets rank) none in
    rw (here, odd_of-none sets rank (omega (arith, none))) refl

-- ---- sets built from streams

module _ {S : Type 0} (n : ℕ) (may_give : S → Outcomes) (given : S → List Interval)
    (known : (s : S) → may_give s ⊆ just (given s)) where
  -- The streams give these lists, one each.
  give-these : (streams : List S) → GiveThese may_give streams (map given streams)
  give-these [] = tt
  give-these (s ∷ streams) = (known s, give-these streams)

  -- No list has a rank past the end of the type.
  how_many-end : (rank : ℕ) (streams : List S) → All (λ s. IsCanonicalIn n (given s)) streams
      → n ≤ rank → how_many (map members (map given streams)) rank ≡ 0
  how_many-end rank [] canonical past = refl
  how_many-end rank (s ∷ streams) canonical past =
      let Can : S → Type 0 = λ s. IsCanonicalIn n (given s) in
      let first = members-end n (given s) rank (All-head Can s streams canonical).within past in
      let rest = how_many-end rank streams (All-tail Can s streams canonical) past in
      λ i. cond (first i) 1 0 + rest i

  -- The sets that calls gave have the lists that the streams give, and a set is built from the
  -- streams.
  module _ {J I X E : Type 0} (becomes : J → I → Type 0) (steps : I → Option X → I → Type 0)
      (value : J) (shown : List X → List (List Interval)) (streams : List S)
      (came : GaveRun becomes steps value (λ items. map given streams ≡ shown items))
      (result : Result (List Interval) E) (gives : Outcomes) (made : IfOk result gives) where
    -- A fact that holds of the set and of these lists holds of the set and of the sets that calls
    -- gave.
    made-each : (Fact : List (List Interval) → List Interval → Type 0)
        → ((set : List Interval) → gives set → Fact (map given streams) set)
        → IfOk result (λ set. GaveRun becomes steps value (λ items. Fact (shown items) set))
    made-each Fact follows = IfOk-weaker result _ _ (λ set may. gave-each becomes steps value
        (λ items. map given streams ≡ shown items) (λ items. Fact (shown items) set)
        (λ items same. subst (λ sets. Fact sets set) same (follows set may)) came) made

    -- So does a fact that holds of them and of known sets, if those are what the value gives.
    made-given : (Fact : List (List Interval) → List Interval → Type 0)
        → ((set : List Interval) → gives set → Fact (map given streams) set)
        → (sets : List (List Interval)) → GivesSets becomes steps shown value sets
        → IfOk result (Fact sets)
    made-given Fact follows sets known = IfOk-weaker result _ _ (λ set gave.
        subst (λ each. Fact each set)
        (known gave.0 gave.1 gave.2.0 gave.2.0.seen gave.2.1 gave.2.2) gave.2.3)
        (made-each Fact follows)

    module _ (operation : List Selection → Selection)
        (by_all : GivesByAll operation n may_give streams gives) where
      -- The stream gives the runs of what the operation selects from the lists.
      these-runs : (set : List Interval) → gives set
          → AreRuns n (operation (map members (map given streams))) set
      these-runs set may = runs_by_all-these n operation may_give streams (map given streams)
          (give-these streams) set (by_all set may)

      -- So the set is built from the sets by the operation.
      known-made : IfOk result (λ set. GaveRun becomes steps value
          (λ items. IsMadeOf n operation (shown items) set))
      known-made = made-each (IsMadeOf n operation) (λ set may.
          runs-members n (operation (map members (map given streams))) set (these-runs set may))

      -- Nor does it need to name the items, if the value gives known sets.
      known-given : (sets : List (List Interval)) → GivesSets becomes steps shown value sets
          → IfOk result (λ set. IsMadeOf n operation sets set)
      known-given = made-given (IsMadeOf n operation) (λ set may.
          runs-members n (operation (map members (map given streams))) set (these-runs set may))

      -- Suppose that `Some` holds of the known sets. If the operation then selects no rank that no
      -- set has, the set has exactly what it selects.
      exactly-given : (Some : List (List Interval) → Type 0)
          → All (λ s. IsCanonicalIn n (given s)) streams
          → ((rank : ℕ) → Some (map given streams)
          → how_many (map members (map given streams)) rank ≡ 0
          → operation (map members (map given streams)) rank ≡ false)
          → (sets : List (List Interval)) → GivesSets becomes steps shown value sets → Some sets
          → IfOk result (λ set. IsSetOf set (operation (map members sets)))
      exactly-given Some canonical nothing sets known some =
          IfOk-weaker result _ _ (λ set exactly. exactly some) (made-given
          (λ each set. Some each → IsSetOf set (operation (map members each)))
          (λ set may is. set-of_runs n (operation (map members (map given streams))) set
          (λ rank past. nothing rank is (how_many-end rank streams canonical past))
          (these-runs set may)) sets known)

      -- All three facts.
      pub known-all : (Some : List (List Interval) → Type 0)
          → All (λ s. IsCanonicalIn n (given s)) streams
          → ((rank : ℕ) → Some (map given streams)
          → how_many (map members (map given streams)) rank ≡ 0
          → operation (map members (map given streams)) rank ≡ false)
          → IfOk result (λ set. GaveRun becomes steps value
          (λ items. IsMadeOf n operation (shown items) set))
          × ((sets : List (List Interval)) → GivesSets becomes steps shown value sets
          → IfOk result (λ set. IsMadeOf n operation sets set))
          × ((sets : List (List Interval)) → GivesSets becomes steps shown value sets → Some sets
          → IfOk result (λ set. IsSetOf set (operation (map members sets))))
      known-all Some canonical nothing = (
        known-made,
        known-given,
        exactly-given Some canonical nothing,
      )

    -- The set has the ranks that are in at least `least` of the sets. If `least` is not 0, it has
    -- no others, and at most as many runs as the sets together.
    pub known-at_least : (least : ℕ) → All (λ s. IsCanonicalIn n (given s)) streams
        → GivesByAll (at_least least) n may_give streams gives
        → (0 < least → GivesRunsOfAllAtMost least n may_give streams gives)
        → IfOk result (λ set.
        GaveRun becomes steps value (λ items. IsMadeOf n (at_least least) (shown items) set))
        × (0 < least → IfOk result (λ set.
        GaveRun becomes steps value (λ items. IsSetOf set (at_least least (map members (shown items))))))
        × (0 < least → IfOk result (λ set.
        GaveRun becomes steps value (λ items. HasRunsOfAllAtMost (shown items) set)))
        × ((sets : List (List Interval)) → GivesSets becomes steps shown value sets → 0 < least
        → IfOk result (λ set. IsSetOf set (at_least least (map members sets))))
    known-at_least least canonical by_all few = (
      known-made (at_least least) by_all,
      λ positive. made-each (λ sets set. IsSetOf set (at_least least (map members sets))) (λ set may.
          set-of_runs n (at_least least (map members (map given streams))) set
          (λ rank past.
          let none = how_many-end rank streams canonical past in grind (arith, nat_tests))
          (these-runs (at_least least) by_all set may)),
      λ positive. made-each HasRunsOfAllAtMost (λ set may.
          few-these n least may_give streams (map given streams) set (give-these streams)
          (few-one n least may_give streams gives (few positive) set may)),
      exactly-given (at_least least) by_all (λ sets. 0 < least) canonical
          (λ rank positive none. grind (arith, nat_tests, positive, none)),
    )
