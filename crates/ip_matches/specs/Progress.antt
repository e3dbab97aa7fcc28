-- How far the work on a text has come.
use Rattle.std.specs.Prelude.{◌≡◌, ℕ, ◌++◌, List, [], ◌∷◌, Option, Some, length}
use Rattle.ip_matches.specs.KeptLines.{AreFirstKept, AreKept, lines_text, text_lines}
use Rattle.ip_matches.specs.LineFilter.{IsKept}
use Rattle.ip_matches.specs.Transfer.{HasWritten, WritesPart}
use Rattle.ip_matches.specs.declared.fault.MatchFault.{MatchFault}
use Rattle.ip_matches.specs.declared.fault.MatchFault.TheVariants.{NoMemory, NotRead, NotWritten}
use Rattle.ip_matches.specs.declared.filter.LineFilter.{LineFilter}
use Rattle.ip_matches.specs.declared.text.progress.Progress.{Progress}

module _ {A : Type 0} (filter : LineFilter A) where
  -- Whether the kept ones of these lines were written since the start, except what waits.
  pub record HasKept (before : List (List ℕ)) (start now : Option (List ℕ)) (progress : Progress)
      : Type 0 where
    pub kept : List (List ℕ)
    pub are : AreKept (IsKept filter) before kept
    pub counted : progress.count ≡ length kept
    pub written : HasWritten start now (lines_text kept) progress.page.items

  -- Whether the lines of the bytes were worked on, up to those of the last bytes, the rest.
  pub record HasKeptUpTo (bytes : List ℕ) (start : Option (List ℕ)) (rest : List ℕ)
      (now : Option (List ℕ)) (progress : Progress) : Type 0 where
    pub before : List (List ℕ)
    pub split : text_lines bytes ≡ before ++ text_lines rest
    pub so_far : HasKept before start now progress

  -- Whether the lines of the bytes were worked on, up to those of the bytes that are left.
  abbrev pub HasKeptTo : List ℕ → (start left now : Option (List ℕ)) → Progress → Type 0
  HasKeptTo bytes start left now progress =
      (rest : List ℕ) × (left ≡ Some rest) × HasKeptUpTo bytes start rest now progress

  -- Whether the fault came at this line, after the others: nothing changed, or only a part of the
  -- text of the kept lines was written.
  abbrev pub StopsAtLine : List (List ℕ) → List ℕ → (start now : Option (List ℕ)) → Progress
      → MatchFault → Type 0
  StopsAtLine before line start now progress NoMemory = HasKept before start now progress
  StopsAtLine before line start now progress (NotRead error) = HasKept before start now progress
  StopsAtLine before line start now progress (NotWritten error) =
      (kept : List (List ℕ)) × AreKept (IsKept filter) (before ++ line ∷ []) kept
      × WritesPart start now (lines_text kept)

  -- Whether the fault came at some line of the bytes, or at a read after it.
  abbrev pub StopsIn : List ℕ → (start now : Option (List ℕ)) → Progress → MatchFault → Type 0
  StopsIn bytes start now progress NoMemory =
      (rest : List ℕ) × HasKeptUpTo bytes start rest now progress
  StopsIn bytes start now progress (NotRead error) =
      (rest : List ℕ) × HasKeptUpTo bytes start rest now progress
  StopsIn bytes start now progress (NotWritten error) =
      (kept : List (List ℕ)) × AreFirstKept filter bytes kept
      × WritesPart start now (lines_text kept)
