-- The ranks between two bounds are those of a run. Removal of ranks that are not members.
use Rattle.std.proofs.Common.{◌≡◌, ℕ, Bool, true, false, not, ◌&&◌, nat_le, nat_lt, ◌+◌, List, refl, arith}
use Rattle.std.proofs.lemmas.Bool.Decides.{nat_tests}
use Rattle.rsb_integer.specs.Runs.{Interval, covers, members}
use Rattle.rsb_integer.specs.Selection.{Selection, intersection, IsEmpty}
use Rattle.rsb_storage.specs.Set.{Removes}

-- The ranks from `low` on, up to the one before `past`.
abbrev between : ℕ → ℕ → Selection
between low past rank = nat_le low rank && nat_lt rank past

pub covers-between : (run : Interval) (low past : ℕ) → run.first ≡ low → run.last + 1 ≡ past
    → covers run ≡ between low past
covers-between run low past starts ends = λ i rank. same rank i
  where
    same : (rank : ℕ) → covers run rank ≡ between low past rank
    same rank = grind (arith, nat_tests, starts, ends)

-- Removing ranks of which none is a member changes nothing.
pub removes-nothing : (set : List Interval) (run : Interval)
    → IsEmpty (intersection (members set) (covers run)) → Removes set set (covers run)
removes-nothing set run none rank = keeps (members set rank) (covers run rank) (none rank)
  where
    keeps : (member covered : Bool) → (member && covered) ≡ false
        → member ≡ (member && not covered)
    keeps true true none = absurd (cc)
    keeps true false none = refl
    keeps false covered none = refl
