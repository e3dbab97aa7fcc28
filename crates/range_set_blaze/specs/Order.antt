-- The order of two sets, and the number of iterations that it takes to find it from their runs. It
-- is defined for every list, canonical or not, since a law of comparisons is about every value of
-- the model.
use Rattle.std.specs.Prelude.{◌≡◌, ◌⊎◌, ◌==◌, ℕ, zero, suc, Bool, true, false, cond, ◌+◌, ◌<◌, ◌≤◌, List, [], ◌∷◌, ◌++◌, length, IsTrue, IsFalse}
use Rattle.std.specs.Cmp.Lexicographic.{slice_cmp}
use Rattle.std.specs.Ordering.{nat_cmp}
use Rattle.std.specs.declared.cmp.Ordering.{Ordering}
use Rattle.std.specs.declared.cmp.Ordering.TheVariants.{Less, Equal, Greater}
use Rattle.rsb_integer.specs.Prefix.{IsPrefix}
use Rattle.rsb_integer.specs.Runs.{Interval}
use Rattle.rsb_integer.specs.Selection.{Selection, Agree, exclusive_or}

-- ---- what `==` and `cmp` return, in a type of n values. These are not abbreviations, since n may
-- be 2 ^ 128.

-- Whether the two sets agree at every rank below n.
unfoldable pub agree_below : ℕ → Selection → Selection → Bool
agree_below zero left right = true
agree_below (suc n) left right =
    cond (exclusive_or (left n) (right n)) false (agree_below n left right)

-- The selected ranks among the given number of ranks from `low` on, in ascending order.
unfoldable pub elements_from : ℕ → ℕ → Selection → List ℕ
elements_from low zero selected = []
elements_from low (suc more) selected =
    cond (selected low) (low ∷ []) [] ++ elements_from (suc low) more selected

-- The order of two sets: that of the ascending lists of their members.
abbrev pub order : ℕ → Selection → Selection → Ordering
order n left right = slice_cmp nat_cmp (elements_from 0 n left) (elements_from 0 n right)

-- ---- the same order, without lists

-- Whether the rank is the least below n at which two sets differ, and the left one has it.
pub record DiffersAt (n : ℕ) (left right : Selection) (rank : ℕ) : Type 0 where
  pub in_type : rank < n
  pub here : IsTrue (left rank)
  pub lacks : IsFalse (right rank)
  pub least : Agree rank left right

-- Whether the set has a member past the rank, below n.
pub record HasLater (n : ℕ) (selected : Selection) (rank : ℕ) : Type 0 where
  pub later : ℕ
  pub past : rank < later
  pub in_type : later < n
  pub here : IsTrue (selected later)

-- Whether the left set has the least rank at which they differ, and the right one has a later
-- member.
pub record ComesFirst (n : ℕ) (left right : Selection) : Type 0 where
  pub rank : ℕ
  pub differs : DiffersAt n left right rank
  pub later : HasLater n right rank

-- Whether the right set has the least rank at which they differ, and the left one has no later
-- member.
pub record EndsFirst (n : ℕ) (left right : Selection) : Type 0 where
  pub rank : ℕ
  pub differs : DiffersAt n right left rank
  pub last : ¬ HasLater n left rank

-- Whether the left set is less than the right one.
abbrev pub IsLess : ℕ → Selection → Selection → Type 0
IsLess n left right = ComesFirst n left right ⊎ EndsFirst n left right

-- Whether two sets have this order. They are equal if they agree at every rank. Otherwise one of
-- them has the least rank at which they differ: it is less if the other has a later member, and
-- greater if not.
abbrev pub HasOrder : ℕ → Selection → Selection → Ordering → Type 0
HasOrder n left right Less = IsLess n left right
HasOrder n left right Equal = Agree n left right
HasOrder n left right Greater = IsLess n right left

-- ---- iterations

-- Whether both lists have a run, and their first runs have the same start.
abbrev pub start_alike : List Interval → List Interval → Bool
start_alike [] others = false
start_alike (run ∷ runs) [] = false
start_alike (run ∷ runs) (other ∷ others) = run.first == other.first

-- Whether `turns` is the number of iterations that finding the order of two lists of runs takes. It
-- is one for each run of their longest common prefix, and one more, or two more if both lists go on
-- with runs of the same start.
pub record AreTurns (left right : List Interval) (turns : ℕ) : Type 0 where
  pub front : List Interval
  pub left_rest : List Interval
  pub right_rest : List Interval
  pub left_parts : left ≡ front ++ left_rest
  pub right_parts : right ≡ front ++ right_rest
  pub longest : (other : List Interval) → IsPrefix other left → IsPrefix other right
      → length other ≤ length front
  pub counted : turns ≡ length front + cond (start_alike left_rest right_rest) 2 1
