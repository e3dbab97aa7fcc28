-- Sets built from what any number of streams gave.
use Rattle.std.proofs.Common.{◌≡◌, ℕ, zero, suc, ◌<◌, ◌&&◌, ◌||◌, not, List, [], ◌∷◌, map, refl, ap, ◌∙◌, arith}
use Rattle.std.proofs.Math.Bool.{not-not}
use Rattle.rsb_integer.specs.Runs.{Interval, members}
use Rattle.rsb_integer.specs.Selection.{Selection, all_of, any_of, complement, Agree}
use Rattle.rsb_integer.proofs.lemmas.Runs.{runs-along, runs-members}
use Rattle.rsb_streams.specs.Stream.{◌⊆◌, joined_runs, runs_by, Outcomes}
use Rattle.rsb_streams.proofs.lemmas.calling.Nested.{neither-of}
use Rattle.rsb_streams.proofs.lemmas.calling.Operations.{members-merge}
use Rattle.rsb_many.specs.Many.{merges_all, runs_by_all, OneOfEach, SomeOfEach}

-- ---- the members of merges

-- The members of a merge of many are those of some of the lists that the streams gave.
members-merges_all : (n count : ℕ) (may_give : ℕ → Outcomes) (runs : List Interval)
    → merges_all n count may_give runs
    → SomeOfEach count may_give (λ lists. (rank : ℕ)
    → members runs rank ≡ any_of (map members lists) rank)
members-merges_all n zero may_give runs is = λ nothing. nothing [] tt (λ rank. rw is refl)
members-merges_all n (suc count) may_give runs may = λ nothing. may (λ left right at also all.
    members-merges_all n count (λ place. may_give (suc place)) right also (λ lists each same.
    nothing (left ∷ lists) (at, each) (λ rank.
    members-merge left right runs rank all.1
    ∙ ap (λ test. members left rank || test) (same rank))))

-- The runs of a joined merge are those of what lies in some of the streams.
pub joined-merges_all : (n count : ℕ) (may_give : ℕ → Outcomes)
    → joined_runs n (merges_all n count may_give) ⊆ runs_by_all n any_of count may_give
joined-merges_all n count may_give runs may = λ nothing. may (λ given at all.
    members-merges_all n count may_give given at (λ lists each same.
    nothing lists each (runs-along n (members given) (any_of (map members lists)) runs
    (λ rank below. same rank) all)))

-- ---- if streams may give more

-- If each stream may give more, lists that were one of each still are.
pub of_each-wider : (count : ℕ) (less more : ℕ → Outcomes)
    → ((place : ℕ) → place < count → less place ⊆ more place) → (lists : List (List Interval))
    → OneOfEach count less lists → OneOfEach count more lists
of_each-wider zero less more wider [] each = tt
of_each-wider zero less more wider (runs ∷ lists) each = absurd each
of_each-wider (suc count) less more wider [] each = absurd each
of_each-wider (suc count) less more wider (runs ∷ lists) each = (
  wider zero (omega arith) runs each.0,
  of_each-wider count (λ place. less (suc place)) (λ place. more (suc place))
      (λ place below. wider (suc place) (omega (arith, below))) lists each.1,
)

-- If each stream may give more, the runs of sets built from the lists may still come.
pub runs_by_all-wider : (n count : ℕ) (operation : List Selection → Selection)
    (less more : ℕ → Outcomes) → ((place : ℕ) → place < count → less place ⊆ more place)
    → runs_by_all n operation count less ⊆ runs_by_all n operation count more
runs_by_all-wider n count operation less more wider runs may = λ nothing. may (λ lists each all.
    nothing lists (of_each-wider count less more wider lists each) all)

-- ---- complements

-- If each list is that of a complement, what lies in none of them is what lies in all of the
-- streams.
none-of_complements : (n count : ℕ) (may_give gaps : ℕ → Outcomes)
    → ((place : ℕ) → place < count → gaps place ⊆ runs_by n complement (may_give place))
    → (lists : List (List Interval)) → OneOfEach count gaps lists
    → SomeOfEach count may_give (λ others.
    Agree n (complement (any_of (map members lists))) (all_of (map members others)))
none-of_complements n zero may_give gaps complements [] each = λ nothing.
    nothing [] tt (λ rank below. refl)
none-of_complements n zero may_give gaps complements (runs ∷ lists) each = absurd each
none-of_complements n (suc count) may_give gaps complements [] each = absurd each
none-of_complements n (suc count) may_give gaps complements (runs ∷ lists) each = λ nothing.
    complements zero (omega arith) runs each.0 (λ given may all.
    none-of_complements n count (λ place. may_give (suc place)) (λ place. gaps (suc place))
    (λ place below. complements (suc place) (omega (arith, below))) lists each.1
    (λ others also same. nothing (given ∷ others) (may, also) (λ rank below.
    ap (λ test. not (test || any_of (map members lists) rank))
    (runs-members n (complement (members given)) runs all rank below)
    ∙ neither-of (not (members given rank)) (any_of (map members lists) rank)
    ∙ ap (λ test. test && not (any_of (map members lists) rank)) (not-not (members given rank))
    ∙ ap (λ test. members given rank && test) (same rank below))))

-- The complement of what lies in some of the complements is what lies in all of the streams.
pub complement-of_complements : (n count : ℕ) (may_give gaps : ℕ → Outcomes)
    → ((place : ℕ) → place < count → gaps place ⊆ runs_by n complement (may_give place))
    → runs_by n complement (runs_by_all n any_of count gaps) ⊆ runs_by_all n all_of count may_give
complement-of_complements n count may_give gaps complements runs may = λ nothing.
    may (λ given at all. at (λ lists each also.
    none-of_complements n count may_give gaps complements lists each (λ others those same.
    nothing others those (runs-along n (complement (members given)) (all_of (map members others))
    runs (λ rank below.
    ap not (runs-members n (any_of (map members lists)) given also rank below) ∙ same rank below)
    all))))
