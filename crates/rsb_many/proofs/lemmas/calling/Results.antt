-- What callers of operations on many streams need: the results for known lists.
use Rattle.std.proofs.Common.{◌≡◌, ℕ, List, [], ◌∷◌, length, map, refl, subst}
use Rattle.rsb_integer.specs.Runs.{Interval, members, AreRuns}
use Rattle.rsb_integer.specs.Selection.{Selection}
use Rattle.rsb_integer.proofs.lemmas.Runs.{runs-canonical, runs-from_canonical, runs-members}
use Rattle.rsb_streams.specs.Stream.{◌⊆◌, just, Outcomes}
use Rattle.rsb_streams.specs.laws.Stream.{settled_canonical_in}
use Rattle.rsb_streams.proofs.lemmas.calling.Results.{settled-same}
use Rattle.rsb_many.specs.Many.{may_give_at, runs_by_all, OneOfEach}

-- ---- known lists

-- A list is the runs of a set if the contrary is excluded.
pub settled_runs : (n : ℕ) (selected : Selection) (runs : List Interval)
    → ¬ (¬ (AreRuns n selected runs)) → AreRuns n selected runs
settled_runs n selected runs holds =
    let canonical = settled_canonical_in n runs
    (λ fails. holds (λ all. fails (runs-canonical n selected runs all))) in
    runs-from_canonical n selected runs canonical.apart canonical.within (λ rank below.
    settled-same (members runs rank) (selected rank)
    (λ fails. holds (λ all. fails (runs-members n selected runs all rank below))))

-- Whether each stream gives only the list at its place.
abbrev pub GiveThese : {S : Type 0} → (S → Outcomes) → List S → List (List Interval) → Type 0
GiveThese may_give [] [] = Unit {0}
GiveThese may_give [] (runs ∷ lists) = ⊥
GiveThese may_give (stream ∷ streams) [] = ⊥
GiveThese may_give (stream ∷ streams) (runs ∷ lists) =
    (may_give stream ⊆ just runs) × GiveThese may_give streams lists

-- So these lists are what the streams give.
pub these-given : {S : Type 0} (may_give : S → Outcomes) (streams : List S)
    (lists others : List (List Interval)) → GiveThese may_give streams lists
    → OneOfEach (length streams) (may_give_at may_give streams) others → others ≡ lists
these-given may_give [] [] [] these each = refl
these-given may_give [] [] (runs ∷ others) these each = absurd each
these-given may_give [] (runs ∷ lists) others these each = absurd these
these-given may_give (stream ∷ streams) [] others these each = absurd these
these-given may_give (stream ∷ streams) (runs ∷ lists) [] these each = absurd each
these-given may_give (stream ∷ streams) (runs ∷ lists) (given ∷ others) these each =
    let first = these.0 given each.0 in
    let rest = these-given may_give streams lists others these.1 each.1 in
    λ i. first i ∷ rest i

-- The result for known lists is the runs of the set that the operation makes of them.
pub runs_by_all-these : {S : Type 0} (n : ℕ) (operation : List Selection → Selection)
    (may_give : S → Outcomes) (streams : List S) (lists : List (List Interval))
    → GiveThese may_give streams lists
    → runs_by_all n operation (length streams) (may_give_at may_give streams)
    ⊆ AreRuns n (operation (map members lists))
runs_by_all-these n operation may_give streams lists these runs may =
    settled_runs n (operation (map members lists)) runs (λ fails. may (λ others each all.
    fails (subst (λ given. AreRuns n (operation (map members given)) runs)
    (these-given may_give streams lists others these each) all)))
