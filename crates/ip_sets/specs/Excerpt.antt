-- The start of a text, in printing ASCII.
use Rattle.std.specs.Prelude.{ℕ, ◌==◌, ◌&&◌, not, List, [], ◌∷◌, ◌++◌, codes, flat_map, if◌then◌else◌, length, min, nat_le, nat_lt, take}
use Rattle.std.specs.Char.Escape.{hex_digit_at}
use Rattle.ip_sets.specs.declared.list.excerpt.Excerpt.{Excerpt}

-- A byte as it is shown: as it is, if it is printing ASCII and not a backslash, which has the code
-- 92, and otherwise as `\x` and two hexadecimal digits.
abbrev pub shown_byte : ℕ → List ℕ
shown_byte byte = if nat_le 32 byte && (nat_lt byte 127 && not (byte == 92)) then (byte ∷ [])
    else (codes "\\x" ++ hex_digit_at 16 byte ∷ hex_digit_at 1 byte ∷ [])

-- Bytes as they are shown.
abbrev pub shown : List ℕ → List ℕ
shown text = flat_map shown_byte text

-- The first sixty bytes of a text as they are shown, and three dots if there are more.
abbrev pub excerpt : List ℕ → List ℕ
excerpt text = if nat_le (length text) 60 then shown text
    else (shown (take 60 text) ++ codes "...")

-- The text of an excerpt.
abbrev pub excerpt_of : Excerpt → List ℕ
excerpt_of it = excerpt (take (min it.len 61) it.start)
