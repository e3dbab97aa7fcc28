-- What writing text does to the bytes of a writer, if they are known.
use Rattle.std.specs.Prelude.{◌≡◌, ℕ, ◌<◌, ◌⊎◌, List, [], length, MatchResult, Option, Result}
use Rattle.std.specs.Io.KnownBytes.{Appends, Keeps}
use Rattle.rsb_integer.specs.Prefix.{IsPrefix}
use Rattle.rsb_command_parser.specs.declared.fault.Fault.{Fault}
use Rattle.rsb_command_parser.specs.declared.fault.Fault.TheVariants.{Io}

-- Whether a prefix of the text was added to the known bytes, and it is shorter than the text.
pub record AppendsShortOf (old new : Option (List ℕ)) (text : List ℕ) : Type 0 where
  pub front : List ℕ
  pub is_prefix : IsPrefix front text
  pub shorter : length front < length text
  pub written : Appends old new front

-- Whether a shorter prefix of the text was added to the known bytes. If the text is empty, they may
-- also be unchanged.
abbrev pub CutsShort : Option (List ℕ) → Option (List ℕ) → List ℕ → Type 0
CutsShort old new text = AppendsShortOf old new text ⊎ ((text ≡ []) × Keeps old new)

-- Whether the text was added to the known bytes. If a write failed, only a shorter prefix was
-- added.
abbrev pub Writes : {T : Type 0} → Option (List ℕ) → Option (List ℕ) → Result T Fault → List ℕ
    → Type 0
Writes old new result text = MatchResult result
    (λ _. Appends old new text)
    (λ fault. (fault ≡ Io) × AppendsShortOf old new text)

-- Whether a prefix of the text was added to the known bytes.
pub record AppendsPrefixOf (old new : Option (List ℕ)) (text : List ℕ) : Type 0 where
  pub front : List ℕ
  pub is_prefix : IsPrefix front text
  pub written : Appends old new front
