-- Prefixes and suffixes of lists.
use Rattle.std.specs.Prelude.{◌≡◌, List, ◌++◌}

-- Whether `front` is a prefix of `whole`.
pub record IsPrefix {X : Type 0} (front whole : List X) : Type 0 where
  pub rest : List X
  pub parts : whole ≡ front ++ rest

-- Whether `rest` is a suffix of `whole`.
pub record IsSuffix {X : Type 0} (rest whole : List X) : Type 0 where
  pub passed : List X
  pub parts : whole ≡ passed ++ rest
