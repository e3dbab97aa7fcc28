-- Adding the ranks of a run, or only one rank.
use Rattle.std.proofs.Common.{◌≡◌, ℕ, Bool, true, ◌+◌, ◌&&◌, ◌||◌, nat_le, nat_lt, List, ◌∙◌, ap, arith}
use Rattle.std.proofs.lemmas.Bool.Decides.{nat_tests}
use Rattle.rsb_integer.specs.Runs.{Interval, covers, members}
use Rattle.rsb_storage.specs.Set.{HasAll}
use Rattle.rsb_storage.specs.Set.{only, Adds}

-- Adding the ranks from a rank to itself adds only that rank.
pub adds-only : (old new : List Interval) (rank : ℕ)
    → Adds old new (λ other. nat_le rank other && nat_lt other (rank + 1))
    → Adds old new (only rank)
adds-only old new rank adds other =
    let same : (nat_le rank other && nat_lt other (rank + 1))
    ≡ only rank other = grind (arith, nat_tests) in
    adds other ∙ ap (λ test. members old other || test) same

-- Adding ranks that are all members changes nothing.
pub adds-all : (set : List Interval) (run : Interval) → HasAll set (covers run)
    → Adds set set (covers run)
adds-all set run within rank = gains (members set rank) (within rank)
  where
    gains : (member : Bool) → (covers run rank ≡ true → member ≡ true)
        → member ≡ (member || covers run rank)
    gains member within = grind (arith, nat_tests)
