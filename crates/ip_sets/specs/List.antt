-- What a list of addresses selects, line by line.
use Rattle.std.specs.Prelude.{◌≡◌, ◌⊎◌, ◌↔◌, ℕ, ◌+◌, ◌≤◌, ◌++◌, All, Any, Bool, IsTrue, List, [], ◌∷◌, Option, Some, codes, decimal, drop, filter, flat_map, if◌then◌else◌, length, map, nat_eq, nat_lt}
use Rattle.std.specs.List.{starts_with}
use Rattle.std.specs.Str.Lines.{lines}
use Rattle.range_set_blaze.specs.Selection.{Selection}
use Rattle.ip_sets.specs.declared.line.Line.{Line}
use Rattle.ip_sets.specs.declared.list.bad_line.BadLine.{BadLine}
use Rattle.ip_sets.specs.Excerpt.{excerpt, excerpt_of}
use Rattle.ip_sets.specs.Line.{IsLine, MeansV4, MeansV6, content}
use Rattle.ip_sets.specs.Reason.{IsReason, reason_text}

-- ---- lines

-- Whether the line has a meaning.
abbrev pub IsGoodLine : List ℕ → Type 0
IsGoodLine line = (what : Line) × IsLine line what

-- Whether the line has no meaning.
abbrev pub IsBadLine : List ℕ → Type 0
IsBadLine line = (what : Line) → ¬ IsLine line what

-- Whether the line means a range of addresses of a family, and the number is that of one of them.
pub record HasAddress (Means : List ℕ → ℕ → ℕ → Type 0) (number : ℕ) (line : List ℕ) : Type 0 where
  pub first : ℕ
  pub last : ℕ
  pub meaning : Means line first last
  pub from_first : first ≤ number
  pub to_last : number ≤ last

-- Whether the selected numbers are those of the addresses of a family that at least one line means.
abbrev pub AreAddressesOf : (List ℕ → ℕ → ℕ → Type 0) → List (List ℕ) → Selection → Type 0
AreAddressesOf Means list selected =
    (number : ℕ) → IsTrue (selected number) ↔ Any (HasAddress Means number) list

-- Whether the new selection has the numbers of the old one, those of the addresses of a family that
-- the line means, and no others.
abbrev pub AddsAddressesOf : (List ℕ → ℕ → ℕ → Type 0) → List ℕ → Selection → Selection → Type 0
AddsAddressesOf Means line old new = (number : ℕ)
    → IsTrue (new number) ↔ (IsTrue (old number) ⊎ HasAddress Means number line)

-- ---- files

-- The byte order mark of UTF-8, which some programs write at the start of a text.
abbrev pub order_mark : List ℕ
order_mark = 239 ∷ 187 ∷ 191 ∷ []

-- Whether the bytes begin with a byte order mark.
abbrev pub has_order_mark : List ℕ → Bool
has_order_mark bytes = starts_with nat_eq bytes order_mark

-- The bytes without the byte order mark that they may begin with.
abbrev pub without_order_mark : List ℕ → List ℕ
without_order_mark bytes = if has_order_mark bytes then drop 3 bytes else bytes

-- The lines of a list. A byte order mark at its start does not count.
abbrev pub list_lines : List ℕ → List (List ℕ)
list_lines bytes = lines (without_order_mark bytes)

-- Whether each line of the bytes has a meaning, and together they mean exactly these IPv4 and IPv6
-- addresses.
pub record IsListOf (bytes : List ℕ) (v4 v6 : Selection) : Type 0 where
  pub good : All IsGoodLine (list_lines bytes)
  pub v4_addresses : AreAddressesOf MeansV4 (list_lines bytes) v4
  pub v6_addresses : AreAddressesOf MeansV6 (list_lines bytes) v6

-- Whether the line with this number has no meaning, and this is reported of it: its number, a reason
-- that holds of its content, and the start of that content.
pub record IsReportOf (bad : BadLine) (number : ℕ) (line : List ℕ) : Type 0 where
  pub is_bad : IsBadLine line
  pub counted : bad.number ≡ number
  pub reason : IsReason bad.reason (content line)
  pub text : excerpt_of bad.text ≡ excerpt (content line)

-- Whether these are the reports of the lines without a meaning, in order, if the first line has this
-- number.
abbrev pub AreReportsFrom : ℕ → List (List ℕ) → List BadLine → Type 0
AreReportsFrom number [] reports = reports ≡ []
AreReportsFrom number (line ∷ list) reports =
    (IsGoodLine line × AreReportsFrom (number + 1) list reports)
    ⊎ ((bad : BadLine) × (others : List BadLine) × (reports ≡ bad ∷ others)
    × IsReportOf bad number line × AreReportsFrom (number + 1) list others)

-- Whether these are the reports of the lines without a meaning, and the other lines together mean
-- exactly these IPv4 and IPv6 addresses. Lines are counted from 1.
pub record IsListPast (bytes : List ℕ) (reports : List BadLine) (v4 v6 : Selection) : Type 0 where
  pub reported : AreReportsFrom 1 (list_lines bytes) reports
  pub v4_addresses : AreAddressesOf MeansV4 (list_lines bytes) v4
  pub v6_addresses : AreAddressesOf MeansV6 (list_lines bytes) v6

-- Whether the report is that of the first line that has no meaning.
pub record IsFirstBadLine (bytes : List ℕ) (bad : BadLine) : Type 0 where
  pub before : List (List ℕ)
  pub line : List ℕ
  pub after : List (List ℕ)
  pub parts : list_lines bytes ≡ before ++ line ∷ after
  pub report : IsReportOf bad (length before + 1) line
  pub first : All IsGoodLine before

-- Whether the report is that of the first line that has no meaning, and the last bytes, the rest,
-- are the lines after it.
abbrev pub IsPastBadLine : List ℕ → List ℕ → BadLine → Type 0
IsPastBadLine bytes rest bad =
    (first : IsFirstBadLine bytes bad) × (first.after ≡ lines rest)

-- Whether the bytes that are left are the lines after the first bad one, of which this is the
-- report.
abbrev pub LeavesPastBadLine : List ℕ → Option (List ℕ) → BadLine → Type 0
LeavesPastBadLine bytes left bad =
    (rest : List ℕ) × (left ≡ Some rest) × IsPastBadLine bytes rest bad

-- ---- reports in words

-- A report in words: the number of the line, the reason and the text.
abbrev pub bad_line_text : BadLine → List ℕ
bad_line_text bad =
    decimal bad.number ++ codes ": " ++ reason_text bad.reason ++ codes ": " ++ excerpt_of bad.text

-- The line of a report about a list with this name.
abbrev pub report_line : List ℕ → BadLine → List ℕ
report_line name bad = name ++ (codes ":" ++ (bad_line_text bad ++ codes "\n"))

-- The lines of reports.
abbrev pub reports_text : List ℕ → List BadLine → List ℕ
reports_text name reports = flat_map (report_line name) reports

-- ---- what does not count

-- Whether the text is not empty.
abbrev pub has_bytes : List ℕ → Bool
has_bytes text = nat_lt 0 (length text)

-- What each line has besides comments and the white space around it, without the lines that have
-- nothing else.
abbrev pub contents : List ℕ → List (List ℕ)
contents bytes = filter has_bytes (map content (list_lines bytes))
