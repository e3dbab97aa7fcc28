-- Lines that are kept or not, one after the other.
use Rattle.std.proofs.Common.{◌≡◌, ◌∙◌, ◌⊎◌, inl, inr, ℕ, ◌+◌, List, [], ◌∷◌, ◌++◌, Option, Some, Result, Ok, Err, length, refl, sym, ap, append_assoc, append-nil, subst, arith, length-append}
use Rattle.std.proofs.lemmas.Grind.{flat_map-append}
use Rattle.std.specs.Io.KnownBytes.{Appends}
use Rattle.std.specs.Prelude.{IfErr, IfOk}
use Rattle.ip_matches.specs.KeptLines.{AreFirstKept, AreKept, StopsKeeping, WritesKept, lines_text, text_lines}
use Rattle.ip_matches.specs.LineFilter.{IsKept}
use Rattle.ip_matches.specs.MatchFault.{IsReadFault, IsWriteFault}
use Rattle.ip_matches.specs.Progress.{HasKept, HasKeptTo, HasKeptUpTo, StopsAtLine, StopsIn}
use Rattle.ip_matches.specs.Transfer.{HasWritten, Writes, WritesPart}
use Rattle.ip_matches.specs.declared.fault.MatchFault.{MatchFault}
use Rattle.ip_matches.specs.declared.fault.MatchFault.TheVariants.{NoMemory, NotRead, NotWritten}
use Rattle.ip_matches.specs.declared.filter.LineFilter.{LineFilter}
use Rattle.ip_matches.specs.declared.text.progress.Progress.{Progress}
use Rattle.ip_matches.proofs.lemmas.Written.{all_last, part_last, part_on, written_none, written_on}

module _ (Fact : List ℕ → Type 0) where
  -- One more line is kept.
  pub kept_more : (before kept : List (List ℕ)) (line : List ℕ) → AreKept Fact before kept
      → Fact line → AreKept Fact (before ++ line ∷ []) (kept ++ line ∷ [])
  kept_more [] kept line are fact =
      inl (fact, ([], ap (λ lines. lines ++ line ∷ []) are, refl))
  kept_more (first ∷ before) kept line (inl are) fact = inl (
    are.0,
    (
      are.1.0 ++ line ∷ [],
      ap (λ lines. lines ++ line ∷ []) are.1.1,
      kept_more before are.1.0 line are.1.2 fact,
    ),
  )
  kept_more (first ∷ before) kept line (inr are) fact =
      inr (are.0, kept_more before kept line are.1 fact)

  -- One more line is not kept.
  pub kept_no_more : (before kept : List (List ℕ)) (line : List ℕ) → AreKept Fact before kept
      → ¬ Fact line → AreKept Fact (before ++ line ∷ []) kept
  kept_no_more [] kept line are other = inr (other, are)
  kept_no_more (first ∷ before) kept line (inl are) other =
      inl (are.0, (are.1.0, are.1.1, kept_no_more before are.1.0 line are.1.2 other))
  kept_no_more (first ∷ before) kept line (inr are) other =
      inr (are.0, kept_no_more before kept line are.1 other)

-- The text of one more line.
pub text_more : (kept : List (List ℕ)) (line : List ℕ)
    → lines_text (kept ++ line ∷ []) ≡ lines_text kept ++ (line ++ 10 ∷ [])
text_more kept line =
    flat_map-append (λ each. each ++ 10 ∷ []) kept (line ∷ [])
    ∙ ap (λ last. lines_text kept ++ last) (append-nil (line ++ 10 ∷ []))

module _ {A : Type 0} (filter : LineFilter A) where
  -- Before the first line, none is kept.
  pub has_none : (start : Option (List ℕ)) (progress : Progress) → progress.page.items ≡ []
      → progress.count ≡ 0 → HasKept filter [] start start progress
  has_none start progress empty none = record {
    kept = [];
    are = refl;
    counted = none;
    written = subst (HasWritten start start []) (sym empty) (written_none start []);
  }

  module _ (before : List (List ℕ)) (line : List ℕ) (start old : Option (List ℕ))
      (progress : Progress) (has : HasKept filter before start old progress) where
    -- One more line is not kept.
    pub has_no_more : ¬ IsKept filter line
        → HasKept filter (before ++ line ∷ []) start old progress
    has_no_more other = record {
      kept = has.kept;
      are = kept_no_more (IsKept filter) before has.kept line has.are other;
      counted = has.counted;
      written = has.written;
    }

    module _ (fact : IsKept filter line) (new : Option (List ℕ)) where
      -- One more line is kept.
      pub has_more : (after : Progress)
          → HasWritten old new (progress.page.items ++ (line ++ 10 ∷ [])) after.page.items
          → after.count ≡ progress.count + 1 → HasKept filter (before ++ line ∷ []) start new after
      has_more after sent next = record {
        kept = has.kept ++ line ∷ [];
        are = kept_more (IsKept filter) before has.kept line has.are fact;
        counted = omega (arith, next, has.counted, length-append has.kept (line ∷ []));
        written = subst (λ text. HasWritten start new text after.page.items)
            (sym (text_more has.kept line))
            (written_on start old new (lines_text has.kept) progress.page.items after.page.items
            (line ++ 10 ∷ []) has.written sent);
      }

      -- One more line is kept, but was not written.
      pub stops_writing : (after : Progress) (fault : MatchFault) → IsWriteFault fault
          → WritesPart old new (progress.page.items ++ (line ++ 10 ∷ []))
          → StopsAtLine filter before line start new after fault
      stops_writing after NoMemory is part = absurd is
      stops_writing after (NotRead error) is part = absurd is
      stops_writing after (NotWritten error) is part = (
        has.kept ++ line ∷ [],
        kept_more (IsKept filter) before has.kept line has.are fact,
        subst (WritesPart start new) (sym (text_more has.kept line))
            (part_on start old new (lines_text has.kept) progress.page.items (line ++ 10 ∷ [])
            has.written part),
      )

    -- The fault came before the line was kept.
    pub stops_before : (fault : MatchFault) → IsReadFault fault
        → StopsAtLine filter before line start old progress fault
    stops_before NoMemory is = has
    stops_before (NotRead error) is = has
    stops_before (NotWritten error) is = absurd is

  module _ (bytes : List ℕ) (start : Option (List ℕ)) (rest : List ℕ) (old : Option (List ℕ))
      (progress : Progress) (has : HasKeptUpTo filter bytes start rest old progress) where
    -- The fault came at a read.
    pub stops_reading : (fault : MatchFault) → IsReadFault fault
        → StopsIn filter bytes start old progress fault
    stops_reading NoMemory is = (rest, has)
    stops_reading (NotRead error) is = (rest, has)
    stops_reading (NotWritten error) is = absurd is

    module _ (line after : List ℕ) (first : text_lines rest ≡ line ∷ text_lines after)
        (new : Option (List ℕ)) (later : Progress) where
      -- The first line of the rest comes next.
      next_split : text_lines bytes ≡ (has.before ++ line ∷ []) ++ text_lines after
      next_split = has.split ∙ ap (λ lines. has.before ++ lines) first
          ∙ sym (append_assoc has.before (line ∷ []) (text_lines after))

      -- That line was worked on.
      pub up_to_next : HasKept filter (has.before ++ line ∷ []) start new later
          → HasKeptUpTo filter bytes start after new later
      up_to_next so_far = record {
        before = has.before ++ line ∷ [];
        split = next_split;
        so_far = so_far;
      }

      -- A fault came at that line.
      pub stops_there : (fault : MatchFault)
          → StopsAtLine filter has.before line start new later fault
          → StopsIn filter bytes start new later fault
      stops_there NoMemory so_far =
          (rest, record { before = has.before; split = has.split; so_far = so_far })
      stops_there (NotRead error) so_far =
          (rest, record { before = has.before; split = has.split; so_far = so_far })
      stops_there (NotWritten error) stops = (
        stops.0,
        record {
          before = has.before ++ line ∷ [];
          after = text_lines after;
          split = next_split;
          are = stops.1;
        },
        stops.2,
      )

  -- Before the first line of bytes that are known, none was worked on.
  pub started : (bytes : List ℕ) (left start : Option (List ℕ)) (progress : Progress)
      → left ≡ Some bytes → progress.page.items ≡ [] → progress.count ≡ 0
      → HasKeptTo filter bytes start left start progress
  started bytes left start progress known empty none = (
    bytes,
    known,
    record { before = []; split = refl; so_far = has_none start progress empty none },
  )

  module _ (bytes : List ℕ) (start mid new : Option (List ℕ)) (progress : Progress) where
    module _ (has : HasKeptTo filter bytes start (Some []) mid progress) where
      -- At the end, these are all lines.
      all_lines : text_lines bytes ≡ has.2.before
      all_lines =
          let none : has.0 ≡ [] = cc has.1 in
          has.2.split ∙ ap (λ rest. has.2.before ++ text_lines rest) none
          ∙ append-nil has.2.before

      -- What waits is written at the end.
      pub finished : (count : ℕ) → Appends mid new progress.page.items → count ≡ progress.count
          → WritesKept filter bytes start new count
      finished count written is = record {
        kept = has.2.so_far.kept;
        are = subst (λ lines. AreKept (IsKept filter) lines has.2.so_far.kept) (sym all_lines)
            has.2.so_far.are;
        counted = is ∙ has.2.so_far.counted;
        written = all_last start mid new (lines_text has.2.so_far.kept) progress.page.items
            has.2.so_far.written written;
      }

    module _ (rest : List ℕ) (has : HasKeptUpTo filter bytes start rest mid progress) where
      -- The lines that were worked on are the first ones.
      first_kept : AreFirstKept filter bytes has.so_far.kept
      first_kept = record {
        before = has.before;
        after = text_lines rest;
        split = has.split;
        are = has.so_far.are;
      }

      -- Only a part of what waits could be written.
      pub unfinished : (fault : MatchFault) → WritesPart mid new progress.page.items
          → IsWriteFault fault → StopsKeeping filter bytes start new fault
      unfinished NoMemory part is = absurd is
      unfinished (NotRead error) part is = absurd is
      unfinished (NotWritten error) part is = (
        has.so_far.kept,
        first_kept,
        part_last start mid new (lines_text has.so_far.kept) progress.page.items
            has.so_far.written part,
      )

      -- What waits is written after a fault.
      whole : Appends mid new progress.page.items
          → (kept : List (List ℕ)) × AreFirstKept filter bytes kept
          × Appends start new (lines_text kept)
      whole written = (
        has.so_far.kept,
        first_kept,
        all_last start mid new (lines_text has.so_far.kept) progress.page.items
            has.so_far.written written,
      )

    -- After a fault of a read, what waits is written.
    pub stopped : (fault : MatchFault) → IsReadFault fault
        → StopsIn filter bytes start mid progress fault → Appends mid new progress.page.items
        → StopsKeeping filter bytes start new fault
    stopped NoMemory is stops written = whole stops.0 stops.1 written
    stopped (NotRead error) is stops written = whole stops.0 stops.1 written
    stopped (NotWritten error) is stops written = absurd is

    -- After a fault of a read, only a part of what waits could be written.
    pub stopped_part : (fault other : MatchFault) → IsReadFault fault
        → StopsIn filter bytes start mid progress fault → WritesPart mid new progress.page.items
        → IsWriteFault other → StopsKeeping filter bytes start new other
    stopped_part NoMemory other is stops part write = unfinished stops.0 stops.1 other part write
    stopped_part (NotRead error) other is stops part write =
        unfinished stops.0 stops.1 other part write
    stopped_part (NotWritten error) other is stops part write = absurd is

-- What holds of the count after all was written.
pub ok_count : (result : Result ℕ MatchFault) (mid new : Option (List ℕ)) (waits : List ℕ) (n : ℕ)
    (Fact : ℕ → Type 0) → Writes mid new result waits → IfOk result (λ count. count ≡ n)
    → ((count : ℕ) → Appends mid new waits → count ≡ n → Fact count) → IfOk result Fact
ok_count (Ok count) mid new waits n Fact written is holds = holds count written is
ok_count (Err fault) mid new waits n Fact written is holds = tt

-- What holds of the fault after a part was written.
pub err_part : (result : Result ℕ MatchFault) (mid new : Option (List ℕ)) (waits : List ℕ)
    (Fact : MatchFault → Type 0) → Writes mid new result waits → IfErr result IsWriteFault
    → ((fault : MatchFault) → WritesPart mid new waits → IsWriteFault fault → Fact fault)
    → IfErr result Fact
err_part (Ok count) mid new waits Fact written is holds = tt
err_part (Err fault) mid new waits Fact part is holds = holds fault part is

-- A fault that is not of a write is of a read or an allocation.
pub not_of_write : (fault : MatchFault) → ¬ IsWriteFault fault → IsReadFault fault
not_of_write NoMemory not_write = tt
not_of_write (NotRead error) not_write = tt
not_of_write (NotWritten error) not_write = not_write tt

-- After a failed write, nothing more is written.
pub stopped_at_write : {A : Type 0} (filter : LineFilter A) (bytes : List ℕ)
    (start now : Option (List ℕ)) (progress : Progress) (fault : MatchFault) → IsWriteFault fault
    → StopsIn filter bytes start now progress fault → StopsKeeping filter bytes start now fault
stopped_at_write filter bytes start now progress NoMemory is stops = absurd is
stopped_at_write filter bytes start now progress (NotRead error) is stops = absurd is
stopped_at_write filter bytes start now progress (NotWritten error) is stops = stops
