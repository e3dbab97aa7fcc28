-- The text of blocks and ranges of addresses, and of lists of them.
use Rattle.std.specs.Prelude.{◌≡◌, ℕ, List, [], ◌++◌, ◌^◌, ◌==◌, All, if◌then◌else◌, codes, decimal, flat_map}
use Rattle.range_set_blaze.specs.Runs.{Interval, IsCanonicalIn, members}
use Rattle.range_set_blaze.specs.Selection.{Selection}
use Rattle.ip_sets.specs.Address.{v4_text, v6_text}
use Rattle.ip_sets.specs.Blocks.{AreMaximalBlocks}
use Rattle.ip_sets.specs.BlocksLeft.{IsAligned, block_runs}
use Rattle.ip_sets.specs.declared.blocks.block.Block.{Block}
use Rattle.ip_commands.specs.declared.request.Families.{Families}
use Rattle.ip_commands.specs.declared.request.Families.TheVariants.{Both, V4, V6}
use Rattle.ip_commands.specs.declared.request.Form.{Form}
use Rattle.ip_commands.specs.declared.request.Form.TheVariants.{Blocks, Ranges}

-- ---- lines. `text` is the text of the address with a rank.

-- The line of a block of addresses with the given number of bits: its first address, and its length
-- if it has more than one address.
abbrev pub block_line : {T : Type 0} → (ℕ → List ℕ) → (T → ℕ) → ℕ → Block T → List ℕ
block_line text rank width block = if block.length == width
    then text (rank block.first) ++ codes "\n"
    else text (rank block.first) ++ codes "/" ++ decimal block.length ++ codes "\n"

-- The line of a range of addresses: its first and its last address.
abbrev pub range_line : (ℕ → List ℕ) → ℕ → ℕ → List ℕ
range_line text first last = text first ++ codes "-" ++ text last ++ codes "\n"

-- ---- sets of one family

-- Whether the text has a line for each of the fewest blocks that have exactly the selected
-- addresses, in ascending order. A sign comes before each line.
pub record IsSignedBlocks (sign : List ℕ) {T : Type 0} (text : ℕ → List ℕ) (rank : T → ℕ) (width : ℕ)
    (selected : Selection) (lines : List ℕ) : Type 0 where
  pub blocks : List (Block T)
  pub aligned : All (IsAligned rank width) blocks
  pub fewest : AreMaximalBlocks selected (block_runs rank width blocks)
  pub whole : lines ≡ flat_map (λ block. sign ++ block_line text rank width block) blocks

-- The same without signs.
abbrev pub IsBlocksText : {T : Type 0} → (ℕ → List ℕ) → (T → ℕ) → ℕ → Selection → List ℕ → Type 0
IsBlocksText text rank width selected lines = IsSignedBlocks [] text rank width selected lines

-- A line for each range, with a sign before it.
abbrev pub signed_ranges : List ℕ → (ℕ → List ℕ) → List Interval → List ℕ
signed_ranges sign text runs = flat_map (λ run. sign ++ range_line text run.first run.last) runs

-- The same without signs.
abbrev pub ranges_text : (ℕ → List ℕ) → List Interval → List ℕ
ranges_text text runs = signed_ranges [] text runs

-- Whether the text is that of these runs in a form, with signs.
abbrev pub IsSignedForm : List ℕ → {T : Type 0} → (ℕ → List ℕ) → (T → ℕ) → ℕ → Form
    → List Interval → List ℕ → Type 0
IsSignedForm sign text rank width Blocks runs lines =
    IsSignedBlocks sign text rank width (members runs) lines
IsSignedForm sign text rank width Ranges runs lines = lines ≡ signed_ranges sign text runs

-- Whether the text is that of a set in a form, with signs. The runs neither overlap nor touch, and
-- are within the number of addresses of the family.
pub record IsSignedSet (sign : List ℕ) {T : Type 0} (text : ℕ → List ℕ) (rank : T → ℕ)
    (width many : ℕ) (form : Form) (runs : List Interval) (lines : List ℕ) : Type 0 where
  pub canonical : IsCanonicalIn many runs
  pub written : IsSignedForm sign text rank width form runs lines

-- The same without signs.
abbrev pub IsSetText : {T : Type 0} → (ℕ → List ℕ) → (T → ℕ) → ℕ → ℕ → Form → List Interval
    → List ℕ → Type 0
IsSetText text rank width many form runs lines =
    IsSignedSet [] text rank width many form runs lines

-- ---- lists

-- The IPv4 addresses that are written.
abbrev pub kept_v4 : Families → List Interval → List Interval
kept_v4 Both runs = runs
kept_v4 V4 runs = runs
kept_v4 V6 runs = []

-- The IPv6 addresses that are written.
abbrev pub kept_v6 : Families → List Interval → List Interval
kept_v6 Both runs = runs
kept_v6 V4 runs = []
kept_v6 V6 runs = runs

-- Whether the text is that of these IPv4 addresses in a form, and then that of these IPv6
-- addresses, with signs.
pub record IsSignedList (sign : List ℕ) (form : Form) (v4 v6 : List Interval) (text : List ℕ)
    : Type 0 where
  pub v4_lines : List ℕ
  pub v6_lines : List ℕ
  pub v4_written : IsSignedSet sign v4_text (λ (number : ℕ). number) 32 (2 ^ 32) form v4 v4_lines
  pub v6_written : IsSignedSet sign v6_text (λ (number : ℕ). number) 128 (2 ^ 128) form v6 v6_lines
  pub whole : text ≡ v4_lines ++ v6_lines

-- The same without signs.
abbrev pub IsListText : Form → List Interval → List Interval → List ℕ → Type 0
IsListText form v4 v6 text = IsSignedList [] form v4 v6 text
