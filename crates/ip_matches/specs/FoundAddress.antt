-- The first address of a text.
use Rattle.std.specs.Prelude.{ℕ, ◌⊎◌, ◌==◌, ◌||◌, not, Bool, List, [], ◌∷◌}
use Rattle.std.specs.Char.{is_ascii_alphanumeric}
use Rattle.std.specs.List.{slice_split}
use Rattle.ip_sets.specs.Address.{IsV4, IsV6}
use Rattle.ip_sets.specs.LineParts.{parts}
use Rattle.ip_matches.specs.declared.address.FoundAddress.{FoundAddress}
use Rattle.ip_matches.specs.declared.address.FoundAddress.TheVariants.{V4, V6}

-- ---- the first of some texts

module _ {X : Type 0} (Has : List ℕ → X → Type 0) where
  -- Whether the text has no value.
  abbrev pub HasNone : List ℕ → Type 0
  HasNone text = (x : X) → ¬ Has text x

  -- Whether the value is that of the first text that has one.
  abbrev pub IsFirst : List (List ℕ) → X → Type 0
  IsFirst [] x = ⊥
  IsFirst (text ∷ texts) x = Has text x ⊎ (HasNone text × IsFirst texts x)

-- ---- words

-- Whether the byte is a letter, a digit, a dot or a colon. A dot has the code 46, and a colon 58.
abbrev pub is_word_byte : ℕ → Bool
is_word_byte byte = is_ascii_alphanumeric byte || ((byte == 46) || (byte == 58))

-- The words of a text: what it has between other bytes. Some may be empty.
abbrev pub words : List ℕ → List (List ℕ)
words text = slice_split (λ byte. not (is_word_byte byte)) text

-- Whether this is the address of a word: the IPv6 address that the word is, or else the first IPv4
-- address among its parts between colons.
abbrev pub IsWordAddress : List ℕ → FoundAddress → Type 0
IsWordAddress word (V6 number) = IsV6 word number
IsWordAddress word (V4 number) = HasNone IsV6 word × IsFirst IsV4 (parts 58 word) number

-- Whether this is the address of the first word that has one.
abbrev pub IsFirstAddress : List ℕ → FoundAddress → Type 0
IsFirstAddress text address = IsFirst IsWordAddress (words text) address
