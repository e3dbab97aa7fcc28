-- A piece that grows by one value.
use Rattle.std.proofs.Common.{◌≡◌, ℕ, ◌+◌, ◌≤◌, ◌||◌, arith}
use Rattle.std.proofs.lemmas.Bool.Decides.{nat_tests}
use Rattle.rsb_integer.specs.Runs.{covers, from_to}
use Rattle.rsb_storage.specs.Set.{only}

-- An interval whose ends are one rank has only that rank.
pub covers-one : (first last point rank : ℕ) → first ≡ point → last ≡ point
    → covers (from_to first last) rank ≡ only point rank
covers-one first last point rank starts ends = grind (arith, nat_tests)

-- An interval that is extended to the next rank has its old ranks and that one.
pub covers-longer : (first last point rank : ℕ) → first ≤ last → last + 1 ≤ point → point ≤ last + 1
    → covers (from_to first point) rank ≡ (covers (from_to first last) rank || only point rank)
covers-longer first last point rank order past touching = grind (arith, nat_tests)
