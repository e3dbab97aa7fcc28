-- What callers of the macros need: if the streams taken give known lists, the result gives the runs
-- of what the operation selects.
use Rattle.std.proofs.Common.{◌≡◌, ℕ, List, [], ◌∷◌, ◌++◌, map, subst, sym, Vec}
use Rattle.std.specs.Prelude.{Result, Ok, Err, IfOk, IsOkAnd}
use Rattle.rsb_integer.specs.Runs.{Interval, members, AreRuns}
use Rattle.rsb_integer.specs.Selection.{Selection}
use Rattle.rsb_streams.specs.Stream.{◌⊆◌, just, Outcomes}
use Rattle.rsb_many.specs.DynSortedDisjoint.{TakesOneMore}
use Rattle.rsb_many.specs.MultiwayResults.{GivesByAll}
use Rattle.rsb_many.proofs.lemmas.calling.Results.{runs_by_all-these, GiveThese}

module _ {S : Type 0} (may_give : S → Outcomes) where
  -- If one more stream gives a known list, the streams together give one more list.
  these-append : (streams : List S) (lists : List (List Interval)) (one : S) (runs : List Interval)
      → GiveThese may_give streams lists → may_give one ⊆ just runs
      → GiveThese may_give (streams ++ one ∷ []) (lists ++ runs ∷ [])
  these-append [] [] one runs these gives = (gives, tt)
  these-append [] (first ∷ lists) one runs these gives = absurd these
  these-append (stream ∷ streams) [] one runs these gives = absurd these
  these-append (stream ∷ streams) (first ∷ lists) one runs these gives =
      (these.0, these-append streams lists one runs these.1 gives)

  -- No streams give no lists.
  pub none-known : (streams : List S) → streams ≡ [] → GiveThese may_give streams []
  none-known streams none = subst (λ each. GiveThese may_give each []) (sym none) tt

  module _ {Z E : Type 0} where
    -- If the streams taken so far give known lists, and so does one more, all of them do.
    pub more-known : (taken now : Result (Vec S Z) E) (of : Outcomes) (lists : List (List Interval))
        (runs : List Interval)
        → IfOk now (λ streams. IsOkAnd taken (λ before.
        TakesOneMore may_give of before.items streams.items))
        → of ⊆ just runs → IfOk taken (λ before. GiveThese may_give before.items lists)
        → IfOk now (λ streams. GiveThese may_give streams.items (lists ++ runs ∷ []))
    more-known (Ok before) (Ok now) of lists runs more known these =
        subst (λ streams. GiveThese may_give streams (lists ++ runs ∷ [])) (sym more.last)
        (these-append before.items lists more.taken runs these
        (λ each may. known each (more.gives each may)))
    more-known (Err refused) (Ok now) of lists runs more known these = absurd more
    more-known (Ok before) (Err refused) of lists runs more known these = tt
    more-known (Err before) (Err refused) of lists runs more known these = tt

    -- The result of an operation on the streams taken gives the runs of what it selects on the
    -- known lists.
    pub made-known : (n : ℕ) (operation : List Selection → Selection) (taken : Result (Vec S Z) E)
        (given : Outcomes) (lists : List (List Interval)) (Made : Vec S Z → Type 0)
        → IsOkAnd taken Made → IfOk taken (λ streams. GiveThese may_give streams.items lists)
        → ((streams : Vec S Z) → Made streams
        → GivesByAll operation n may_give streams.items given)
        → given ⊆ AreRuns n (operation (map members lists))
    made-known n operation (Ok streams) given lists Made made these gives = λ runs may.
        runs_by_all-these n operation may_give streams.items lists these runs
        (gives streams made runs may)
    made-known n operation (Err refused) given lists Made made these gives = absurd made
