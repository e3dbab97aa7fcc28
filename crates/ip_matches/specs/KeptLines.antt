-- The lines of a text that are kept, and what was written of them.
use Rattle.std.specs.Prelude.{◌≡◌, ℕ, ◌⊎◌, ◌==◌, ◌++◌, List, [], ◌∷◌, Option, flat_map, if◌then◌else◌, length}
use Rattle.std.specs.Io.KnownBytes.{Appends}
use Rattle.ip_sets.specs.LineParts.{parts}
use Rattle.ip_matches.specs.LineFilter.{IsKept}
use Rattle.ip_matches.specs.Transfer.{WritesPart}
use Rattle.ip_matches.specs.declared.fault.MatchFault.{MatchFault}
use Rattle.ip_matches.specs.declared.fault.MatchFault.TheVariants.{NoMemory, NotRead, NotWritten}
use Rattle.ip_matches.specs.declared.filter.LineFilter.{LineFilter}

-- ---- lines

-- The parts without the last one, if that is empty.
abbrev pub without_empty_last : List (List ℕ) → List (List ℕ)
without_empty_last [] = []
without_empty_last (part ∷ []) = if length part == 0 then [] else part ∷ []
without_empty_last (part ∷ next ∷ others) = part ∷ without_empty_last (next ∷ others)

-- The lines of a text, without their line feeds. The last line may have none in the text. A carriage
-- return is a byte of its line.
abbrev pub text_lines : List ℕ → List (List ℕ)
text_lines bytes = without_empty_last (parts 10 bytes)

-- The text of lines, each with a line feed.
abbrev pub lines_text : List (List ℕ) → List ℕ
lines_text lines = flat_map (λ line. line ++ 10 ∷ []) lines

-- Whether `kept` has exactly the lines that the fact holds of, in order.
abbrev pub AreKept : (List ℕ → Type 0) → List (List ℕ) → List (List ℕ) → Type 0
AreKept Fact [] kept = kept ≡ []
AreKept Fact (line ∷ lines) kept =
    (Fact line × ((others : List (List ℕ)) × (kept ≡ line ∷ others) × AreKept Fact lines others))
    ⊎ ((¬ Fact line) × AreKept Fact lines kept)

-- ---- what was written

module _ {A : Type 0} (filter : LineFilter A) (bytes : List ℕ) where
  -- Whether the count is that of the lines that are kept.
  pub record CountsKept (count : ℕ) : Type 0 where
    pub kept : List (List ℕ)
    pub are : AreKept (IsKept filter) (text_lines bytes) kept
    pub counted : count ≡ length kept

  -- Whether these are the kept ones of the first lines.
  pub record AreFirstKept (kept : List (List ℕ)) : Type 0 where
    pub before : List (List ℕ)
    pub after : List (List ℕ)
    pub split : text_lines bytes ≡ before ++ after
    pub are : AreKept (IsKept filter) before kept

  -- `old` and `new` are the bytes of the output, if they are known.
  module _ (old new : Option (List ℕ)) where
    -- Whether exactly the lines that are kept were written, and the count is theirs.
    pub record WritesKept (count : ℕ) : Type 0 where
      pub kept : List (List ℕ)
      pub are : AreKept (IsKept filter) (text_lines bytes) kept
      pub counted : count ≡ length kept
      pub written : Appends old new (lines_text kept)

    -- Whether the kept ones of the first lines were written before the fault: after a failed write,
    -- only a part of their text.
    abbrev pub StopsKeeping : MatchFault → Type 0
    StopsKeeping NoMemory =
        (kept : List (List ℕ)) × AreFirstKept kept × Appends old new (lines_text kept)
    StopsKeeping (NotRead error) =
        (kept : List (List ℕ)) × AreFirstKept kept × Appends old new (lines_text kept)
    StopsKeeping (NotWritten error) =
        (kept : List (List ℕ)) × AreFirstKept kept × WritesPart old new (lines_text kept)
