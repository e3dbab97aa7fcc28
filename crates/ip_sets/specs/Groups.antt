-- Groups of hexadecimal digits at the start of the bytes, and the numbers that they write.
use Rattle.std.specs.Prelude.{◌≡◌, ℕ, ◌+◌, ◌*◌, ◌^◌, ◌<◌, ◌≤◌, Bool, true, false, List, [], ◌∷◌, ◌++◌, length}
use Rattle.std.specs.Char.{digit_value}
use Rattle.std.specs.Net.Grammar.{IsGroup, IsGroups}
use Rattle.ip_sets.specs.declared.line.groups.Groups.{Groups}

-- The number that segments write after those of the number `n`, with 16 bits for each.
abbrev pub segments_after : ℕ → List ℕ → ℕ
segments_after n [] = n
segments_after n (segment ∷ segments) = segments_after (n * 2 ^ 16 + segment) segments

-- Whether the bytes begin with a hexadecimal digit that has this value, and the rest comes after
-- it.
pub record BeginsWithDigit (bytes : List ℕ) (value : ℕ) (rest : List ℕ) : Type 0 where
  pub digit : ℕ
  pub parts : bytes ≡ digit ∷ rest
  pub is_value : digit_value digit ≡ value
  pub below : value < 16

-- What comes before a group: a colon, unless it is the first.
abbrev pub lead : Bool → List ℕ
lead true = []
lead false = 58 ∷ []

-- Whether the bytes begin with a group that has this value, after a colon unless it is the first,
-- and the rest comes after the group.
pub record BeginsWithGroup (is_first : Bool) (bytes : List ℕ) (value : ℕ) (rest : List ℕ)
    : Type 0 where
  pub text : List ℕ
  pub parts : bytes ≡ lead is_first ++ (text ++ rest)
  pub group : IsGroup text value

-- Whether the bytes begin with these groups.
pub record AreGroups (bytes : List ℕ) (groups : Groups) : Type 0 where
  pub text : List ℕ
  pub segments : List ℕ
  pub parts : bytes ≡ text ++ groups.rest.now
  pub written : IsGroups false text segments
  pub counted : length segments ≡ groups.count
  pub few : groups.count ≤ 8
  pub value : groups.number ≡ segments_after 0 segments
  pub fits : groups.number < 2 ^ (16 * groups.count)
