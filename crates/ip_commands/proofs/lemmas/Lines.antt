-- The lines of the ranges of a set.
use Rattle.std.proofs.Common.{◌≡◌, ◌∙◌, ℕ, ◌+◌, ◌^◌, ◌<◌, ◌≤◌, Bool, true, false, cond, List, [], ◌∷◌, ◌++◌, length, suc, refl, sym, ap, subst, arith, length-append}
use Rattle.std.specs.Range.{range_inclusive_start, range_inclusive_end, range_inclusive_exhausted}
use Rattle.std.specs.declared.ops.RangeInclusive.{RangeInclusive}
use Rattle.range_set_blaze.specs.Runs.{from_to, members, Interval}
use Rattle.rsb_integer.specs.Rank.{interval_of}
use Rattle.std.proofs.lemmas.List.{append-nil}
use Rattle.std.proofs.lemmas.List.Elements.{All-nil}
use Rattle.ip_sets.specs.Address.{v4_text, v6_text}
use Rattle.ip_sets.specs.Blocks.{IsMaximalBlock}
use Rattle.ip_sets.specs.BlocksLeft.{IsAligned, block_runs}
use Rattle.ip_sets.specs.declared.blocks.block.Block.{Block}
use Rattle.std.specs.Io.KnownBytes.{Appends}
use Rattle.std.specs.Prelude.{◌==◌, Option, codes, decimal, if◌then◌else◌}
use Rattle.ip_sets.specs.List.{has_bytes}
use Rattle.ip_commands.specs.Text.{IsSignedList, IsSignedSet, block_line, range_line}
use Rattle.ip_commands.specs.declared.request.Form.{Form}
use Rattle.ip_commands.specs.declared.request.Form.TheVariants.{Blocks, Ranges}

-- The ranks of a range that was not iterated.
abbrev span : {T : Type 0} → (T → ℕ) → RangeInclusive T → Interval
span rank range =
    from_to (rank (range_inclusive_start range)) (rank (range_inclusive_end range))

-- The line of a range of values.
abbrev pub line_of : {T : Type 0} → (ℕ → List ℕ) → (T → ℕ) → RangeInclusive T → List ℕ
line_of text rank range =
    range_line text (rank (range_inclusive_start range)) (rank (range_inclusive_end range))

module _ {T : Type 0} (text : ℕ → List ℕ) (rank : T → ℕ) where
  -- The line of a range that is not empty is that of its ranks.
  line-of-test : (range : RangeInclusive T) (is_empty : Bool)
      → range_inclusive_exhausted range ≡ is_empty
      → (interval_of rank range).first ≤ (interval_of rank range).last
      → line_of text rank range
      ≡ range_line text (interval_of rank range).first (interval_of rank range).last
  line-of-test range true is ordered =
      let bad : 1 ≤ 0 = subst (λ test. (cond test (from_to 1 0) (span rank range)).first
      ≤ (cond test (from_to 1 0) (span rank range)).last) is ordered in
      absurd (omega (arith, bad))
  line-of-test range false is ordered =
      ap (λ test. range_line text (cond test (from_to 1 0) (span rank range)).first
      (cond test (from_to 1 0) (span rank range)).last) (sym is)

  -- The line of a range has the ends of its interval.
  pub line-of-run : (range : RangeInclusive T)
      → (interval_of rank range).first ≤ (interval_of rank range).last
      → line_of text rank range
      ≡ range_line text (interval_of rank range).first (interval_of rank range).last
  line-of-run range ordered =
      line-of-test range (range_inclusive_exhausted range) refl ordered

-- ---- sets and lists

-- The empty set has no text.
no-lines : (sign : List ℕ) {T : Type 0} (text : ℕ → List ℕ) (rank : T → ℕ) (width many : ℕ)
    (form : Form) → IsSignedSet sign text rank width many form [] []
no-lines sign text rank width many Blocks = record {
  canonical = record { apart = tt; within = All-nil (λ (run : Interval). run.last < many) };
  written = record {
    blocks = [];
    aligned = All-nil (IsAligned rank width);
    fewest = record {
      ascending = tt;
      maximal = All-nil (IsMaximalBlock (members []));
      exact = λ each. refl;
    };
    whole = refl;
  };
}
no-lines sign text rank width many Ranges = record {
  canonical = record { apart = tt; within = All-nil (λ (run : Interval). run.last < many) };
  written = refl;
}

module _ (sign : List ℕ) (form : Form) (v4 v6 : List Interval) (v4_lines v6_lines : List ℕ) where
  -- Both families.
  pub both-lines : IsSignedSet sign v4_text (λ (number : ℕ). number) 32 (2 ^ 32) form v4 v4_lines
      → IsSignedSet sign v6_text (λ (number : ℕ). number) 128 (2 ^ 128) form v6 v6_lines
      → IsSignedList sign form v4 v6 (v4_lines ++ v6_lines)
  both-lines first last = record {
    v4_lines = v4_lines;
    v6_lines = v6_lines;
    v4_written = first;
    v6_written = last;
    whole = refl;
  }

  -- Only IPv4.
  pub v4-lines : IsSignedSet sign v4_text (λ (number : ℕ). number) 32 (2 ^ 32) form v4 v4_lines
      → IsSignedList sign form v4 [] v4_lines
  v4-lines first = record {
    v4_lines = v4_lines;
    v6_lines = [];
    v4_written = first;
    v6_written = no-lines sign v6_text (λ number. number) 128 (2 ^ 128) form;
    whole = sym (append-nil v4_lines);
  }

  -- Only IPv6.
  pub v6-lines : IsSignedSet sign v6_text (λ (number : ℕ). number) 128 (2 ^ 128) form v6 v6_lines
      → IsSignedList sign form [] v6 v6_lines
  v6-lines last = record {
    v4_lines = [];
    v6_lines = v6_lines;
    v4_written = no-lines sign v4_text (λ number. number) 32 (2 ^ 32) form;
    v6_written = last;
    whole = refl;
  }

-- ---- what was written

-- Whether a text of these IPv4 addresses was written, and whether it has a line.
abbrev pub WritesV4 : Bool → List ℕ → Form → List Interval → Option (List ℕ) → Option (List ℕ)
    → Type 0
WritesV4 some sign form v4 old new = (text : List ℕ)
    × IsSignedSet sign v4_text (λ (number : ℕ). number) 32 (2 ^ 32) form v4 text
    × Appends old new text × (some ≡ has_bytes text)

-- Whether a text of these IPv6 addresses was written, and whether it has a line.
abbrev pub WritesV6 : Bool → List ℕ → Form → List Interval → Option (List ℕ) → Option (List ℕ)
    → Type 0
WritesV6 some sign form v6 old new = (text : List ℕ)
    × IsSignedSet sign v6_text (λ (number : ℕ). number) 128 (2 ^ 128) form v6 text
    × Appends old new text × (some ≡ has_bytes text)

-- ---- lines have bytes

-- A text that ends with a line feed has a byte, also after a sign.
ends-line : (sign front : List ℕ) → 0 < length (sign ++ (front ++ codes "\n"))
ends-line sign front =
    let all : length (sign ++ (front ++ codes "\n")) ≡ length sign + (length front + 1) =
    length-append sign (front ++ codes "\n")
    ∙ ap (λ many. length sign + many) (length-append front (codes "\n")) in
    omega (arith, all)

-- The line of a block has a byte.
pub some-block : {T : Type 0} (sign : List ℕ) (text : ℕ → List ℕ) (rank : T → ℕ) (width : ℕ)
    (block : Block T) → 0 < length (sign ++ block_line text rank width block)
some-block sign text rank width block =
    elim (block.length == width) as (λ single. 0 < length (sign ++ (if single
    then text (rank block.first) ++ codes "\n"
    else text (rank block.first) ++ codes "/" ++ decimal block.length ++ codes "\n"))) [
      | true ↦ ends-line sign (text (rank block.first))
      | false ↦ ends-line sign (text (rank block.first) ++ codes "/" ++ decimal block.length)
    ]

-- The line of a range has a byte.
pub some-range : (sign : List ℕ) (text : ℕ → List ℕ) (first last : ℕ)
    → 0 < length (sign ++ range_line text first last)
some-range sign text first last = ends-line sign (text first ++ codes "-" ++ text last)

-- ---- counts

-- There are as many blocks as intervals of their ranks.
pub as-many : {T : Type 0} (rank : T → ℕ) (width : ℕ) (blocks : List (Block T))
    → length blocks ≡ length (block_runs rank width blocks)
as-many rank width [] = refl
as-many rank width (block ∷ blocks) = ap (λ many. suc many) (as-many rank width blocks)
