-- Bytes that begin with a text, and those that begin with a line.
use Rattle.std.specs.Prelude.{◌≡◌, ℕ, ◌≤◌, ◌==◌, ◌++◌, All, IsFalse, List, ◌∷◌, decimal}
use Rattle.std.specs.declared.ops.RangeInclusive.{RangeInclusive}
use Rattle.ip_sets.specs.AddressRange.{IsBlockAround, Spans}

-- Whether the bytes begin with a text that writes the number, and the rest comes after that text.
pub record BeginsWith (Writes : List ℕ → ℕ → Type 0) (bytes : List ℕ) (number : ℕ) (rest : List ℕ)
    : Type 0 where
  pub text : List ℕ
  pub parts : bytes ≡ text ++ rest
  pub written : Writes text number

-- Whether the bytes begin with a whole line that the fact holds of, and the rest comes after its
-- line feed. 10 is the code of a line feed.
pub record BeginsWithLine (Fact : List ℕ → Type 0) (bytes rest : List ℕ) : Type 0 where
  pub line : List ℕ
  pub parts : bytes ≡ line ++ 10 ∷ rest
  pub one : All (λ byte. IsFalse (byte == 10)) line
  pub fact : Fact line

-- Whether the bytes begin with the length of a block around the address, and the rest comes after
-- the line feed that follows it.
pub record EndsBlock (bits address : ℕ) (bytes : List ℕ) (range : RangeInclusive ℕ)
    (rest : List ℕ) : Type 0 where
  pub length : ℕ
  pub parts : bytes ≡ decimal length ++ 10 ∷ rest
  pub within : length ≤ bits
  pub block : IsBlockAround bits length address range

-- Whether the bytes begin with the last address of a range, and the rest comes after the line feed
-- that follows it.
pub record EndsSpan (IsAddress : List ℕ → ℕ → Type 0) (first : ℕ) (bytes : List ℕ)
    (range : RangeInclusive ℕ) (rest : List ℕ) : Type 0 where
  pub text : List ℕ
  pub last : ℕ
  pub parts : bytes ≡ text ++ 10 ∷ rest
  pub written : IsAddress text last
  pub in_order : first ≤ last
  pub span : Spans range first last
