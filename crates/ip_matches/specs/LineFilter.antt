-- Which lines of a text are kept.
use Rattle.std.specs.Prelude.{ℕ, Bool, MatchBool, IsTrue, List, [], Option, Some, None, filter, slice_index_or}
use Rattle.std.specs.Char.{is_ascii_whitespace}
use Rattle.std.specs.List.{slice_split}
use Rattle.range_set_blaze.specs.Runs.{members}
use Rattle.range_set_blaze.specs.Selection.{Selection}
use Rattle.ip_sets.specs.List.{has_bytes}
use Rattle.ip_matches.specs.FoundAddress.{IsFirstAddress}
use Rattle.ip_matches.specs.declared.address.FoundAddress.{FoundAddress}
use Rattle.ip_matches.specs.declared.address.FoundAddress.TheVariants.{V4, V6}
use Rattle.ip_matches.specs.declared.filter.LineFilter.{LineFilter}

-- The fields of a line: what it has between blanks.
abbrev pub fields : List ℕ → List (List ℕ)
fields line = filter has_bytes (slice_split is_ascii_whitespace line)

-- What is searched for an address: the line, or the field with a number, counted from 0. There is
-- nothing to search if the line has fewer fields.
abbrev pub searched_text : Option ℕ → List ℕ → List ℕ
searched_text None line = line
searched_text (Some number) line = slice_index_or (fields line) number []

-- The selections are the IPv4 and the IPv6 addresses of lists.
module _ (v4 v6 : Selection) where
  -- Whether the lists have an address.
  abbrev pub has_found : FoundAddress → Bool
  has_found (V4 number) = v4 number
  has_found (V6 number) = v6 number

  -- Whether the lists have the first address of the text.
  pub record HasMatch (text : List ℕ) : Type 0 where
    pub address : FoundAddress
    pub first : IsFirstAddress text address
    pub found : IsTrue (has_found address)

  -- Whether the line is kept: one that has a match in what is searched, or, if the filter inverts, one
  -- that has none.
  abbrev pub Keeps : Option ℕ → Bool → List ℕ → Type 0
  Keeps field inverts line = MatchBool inverts (¬ HasMatch (searched_text field line))
      (HasMatch (searched_text field line))

-- Whether the filter keeps the line.
abbrev pub IsKept : {A : Type 0} → LineFilter A → List ℕ → Type 0
IsKept filter line = Keeps (members filter.lists.now.v4) (members filter.lists.now.v6) filter.field
    filter.inverts line
