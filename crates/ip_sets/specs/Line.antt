-- What a line of a list means.
use Rattle.std.specs.Prelude.{◌≡◌, ℕ, ◌-◌, ◌<◌, ◌==◌, ◌||◌, ◌⊎◌, not, All, Bool, IsFalse, IsTrue, List, [], ◌∷◌, length, slice_index}
use Rattle.std.specs.Char.{is_ascii_hexdigit, is_ascii_whitespace}
use Rattle.std.specs.List.{before_first}
use Rattle.std.specs.declared.ops.RangeInclusive.{RangeInclusive}
use Rattle.ip_sets.specs.declared.line.Line.{Line}
use Rattle.ip_sets.specs.declared.line.Line.TheVariants.{Nothing, V4, V6}
use Rattle.ip_sets.specs.Address.{IsV4, IsV6}
use Rattle.ip_sets.specs.AddressRange.{Spans, WritesBracketed, WritesRange}
use Rattle.ip_sets.specs.LineParts.{trimmed}

-- Whether the byte is `#` or `;`, which begins a comment.
abbrev pub begins_comment : ℕ → Bool
begins_comment byte = (byte == 35) || (byte == 59)

-- Whether no address has the byte: it is neither a hexadecimal digit, a dot nor a colon. Each byte
-- with a meaning of its own in a line is such a byte.
abbrev pub is_mark : ℕ → Bool
is_mark byte = not (is_ascii_hexdigit byte || ((byte == 46) || (byte == 58)))

-- What a line has before its comment, without the white space around it. A carriage return is white
-- space.
abbrev pub content : List ℕ → List ℕ
content line = trimmed (before_first begins_comment line)

-- Whether the bytes are a line with this meaning.
abbrev pub IsLine : List ℕ → Line → Type 0
IsLine line Nothing = content line ≡ []
IsLine line (V4 range) = WritesRange 32 IsV4 (content line) range
IsLine line (V6 range) =
    WritesRange 128 IsV6 (content line) range ⊎ WritesBracketed IsV6 (content line) range

-- Whether a line means the IPv4 addresses from the first to the last.
abbrev pub MeansV4 : List ℕ → ℕ → ℕ → Type 0
MeansV4 line first last =
    (range : RangeInclusive ℕ) → Spans range first last → IsLine line (V4 range)

-- Whether a line means the IPv6 addresses from the first to the last.
abbrev pub MeansV6 : List ℕ → ℕ → ℕ → Type 0
MeansV6 line first last =
    (range : RangeInclusive ℕ) → Spans range first last → IsLine line (V6 range)

-- ---- what does not count

-- Whether all of the bytes are white space.
abbrev pub AreBlanks : List ℕ → Type 0
AreBlanks bytes = All (λ byte. IsTrue (is_ascii_whitespace byte)) bytes

-- Whether the bytes are a comment, or none.
abbrev pub IsComment : List ℕ → Type 0
IsComment [] = Unit {0}
IsComment (byte ∷ bytes) = IsTrue (begins_comment byte)

-- Whether the text is not empty, has no comment, and neither begins nor ends with white space.
pub record IsContent (text : List ℕ) : Type 0 where
  pub some : 0 < length text
  pub no_comment : All (λ byte. IsFalse (begins_comment byte)) text
  pub no_blank_first : IsFalse (is_ascii_whitespace (slice_index text 0))
  pub no_blank_last : IsFalse (is_ascii_whitespace (slice_index text (length text - 1)))
