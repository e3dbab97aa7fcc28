-- The bytes that a writer takes, one part after the other.
use Rattle.std.proofs.Common.{◌≡◌, ◌≢◌, ◌∙◌, ℕ, List, [], ◌∷◌, ◌++◌, ◌+◌, ◌-◌, take, drop, Option, Some, None, Result, Ok, Err, refl, sym, ap, append_assoc, subst}
use Rattle.std.proofs.lemmas.List.{append-nil, take-append-drop}
use Rattle.std.specs.Io.KnownBytes.{Appends, Keeps}
use Rattle.std.specs.Prelude.{MatchResult}
use Rattle.rsb_integer.specs.Runs.{Interval, from_to}
use Rattle.range_set_bytes.specs.Format.{bytes_of_runs}
use Rattle.range_set_bytes.specs.Leb128.{leb128}
use Rattle.range_set_byte_streams.specs.Transfer.{HasWritten, WritesPart}

-- If nothing changes, nothing was written.
pub Appends-nothing : (known : Option (List ℕ)) → Appends known known []
Appends-nothing None = tt
Appends-nothing (Some xs) = sym (append-nil xs)

pub Appends-kept : (old new : Option (List ℕ)) → Keeps old new → Appends old new []
Appends-kept None new kept = tt
Appends-kept (Some xs) None kept = absurd kept
Appends-kept (Some xs) (Some ys) kept = kept ∙ sym (append-nil xs)

-- If two parts were written one after the other, both together were written.
pub Appends-then : (old mid new : Option (List ℕ)) (xs ys : List ℕ)
    → Appends old mid xs → Appends mid new ys → Appends old new (xs ++ ys)
Appends-then None mid new xs ys first second = tt
Appends-then (Some before) None new xs ys first second = absurd first
Appends-then (Some before) (Some between) None xs ys first second = absurd second
Appends-then (Some before) (Some between) (Some after) xs ys first second =
    second ∙ ap (λ v. v ++ ys) first ∙ append_assoc before xs ys

-- At first, all is left.
pub written-none : (known : Option (List ℕ)) (bytes : List ℕ) → HasWritten known known bytes bytes
written-none known bytes = record {
  front = [];
  parts = refl;
  written = Appends-nothing known;
}

-- At the end, nothing is left.
pub written-all : (old new : Option (List ℕ)) (bytes : List ℕ) → HasWritten old new bytes []
    → Appends old new bytes
written-all old new bytes written =
    subst (Appends old new) (sym (written.parts ∙ append-nil written.front)) written.written

-- Of what is left, the first part was written too.
pub written-then : (old mid new : Option (List ℕ)) (whole from rest tail : List ℕ)
    → HasWritten old mid whole (from ++ tail) → HasWritten mid new from rest
    → HasWritten old new whole (rest ++ tail)
written-then old mid new whole from rest tail before after = record {
  front = before.front ++ after.front;
  parts = before.parts ∙ ap (λ v. before.front ++ (v ++ tail)) after.parts
      ∙ ap (λ v. before.front ++ v) (append_assoc after.front rest tail)
      ∙ sym (append_assoc before.front after.front (rest ++ tail));
  written = Appends-then old mid new before.front after.front before.written after.written;
}

some-more : (xs ys : List ℕ) → xs ≢ [] → xs ++ ys ≢ []
some-more [] ys some is = absurd (some refl)
some-more (x ∷ xs) ys some is = absurd cc

-- Only a part of what is left was written.
pub part-then : (old mid new : Option (List ℕ)) (whole from tail : List ℕ)
    → HasWritten old mid whole (from ++ tail) → WritesPart mid new from
    → WritesPart old new whole
part-then old mid new whole from tail before after = record {
  rest = after.rest ++ tail;
  some = some-more after.rest tail after.some;
  written = written-then old mid new whole from after.rest tail before after.written;
}

-- The first n bytes of what is left were written too.
pub written-more : (old mid new : Option (List ℕ)) (whole rest : List ℕ) (n : ℕ)
    → HasWritten old mid whole rest → Appends mid new (take n rest)
    → HasWritten old new whole (drop n rest)
written-more old mid new whole rest n before more = record {
  front = before.front ++ take n rest;
  parts = before.parts ∙ ap (λ v. before.front ++ v) (sym (take-append-drop n rest))
      ∙ sym (append_assoc before.front (take n rest) (drop n rest));
  written = Appends-then old mid new before.front (take n rest) before.written more;
}

-- More bytes wait after those that were left.
pub written-before : (old new : Option (List ℕ)) (from rest tail : List ℕ)
    → HasWritten old new from rest → HasWritten old new (from ++ tail) (rest ++ tail)
written-before old new from rest tail written =
    written-then old old new (from ++ tail) from rest tail (written-none old (from ++ tail)) written

pub part-before : (old new : Option (List ℕ)) (from tail : List ℕ) → WritesPart old new from
    → WritesPart old new (from ++ tail)
part-before old new from tail part =
    part-then old old new (from ++ tail) from tail (written-none old (from ++ tail)) part

-- The last part of what is left was written, or some of it.
pub sent-last : {R E : Type 0} (result : Result R E) (old mid new : Option (List ℕ)) (whole from waits : List ℕ)
    → HasWritten old mid whole from
    → MatchResult result (λ _. HasWritten mid new from waits) (λ _. WritesPart mid new from)
    → MatchResult result (λ _. HasWritten old new whole waits) (λ _. WritesPart old new whole)
sent-last (Ok done) old mid new whole from waits before after =
    subst (HasWritten old new whole) (append-nil waits)
    (written-then old mid new whole from waits []
    (subst (HasWritten old mid whole) (sym (append-nil from)) before) after)
sent-last (Err error) old mid new whole from waits before after =
    part-then old mid new whole from [] (subst (HasWritten old mid whole) (sym (append-nil from)) before) after

pub wrote-last : {R E : Type 0} (result : Result R E) (old mid new : Option (List ℕ)) (whole from : List ℕ)
    → HasWritten old mid whole from
    → MatchResult result (λ _. Appends mid new from) (λ _. WritesPart mid new from)
    → MatchResult result (λ _. Appends old new whole) (λ _. WritesPart old new whole)
wrote-last (Ok done) old mid new whole from before after =
    subst (Appends old new) (sym before.parts)
    (Appends-then old mid new before.front from before.written after)
wrote-last (Err error) old mid new whole from before after =
    part-then old mid new whole from [] (subst (HasWritten old mid whole) (sym (append-nil from)) before) after

-- The next run is left.
pub next-run : (page : List ℕ) (runs rest : List Interval) (run : Interval) (from first last : ℕ)
    → runs ≡ run ∷ rest → run ≡ from_to first last
    → page ++ bytes_of_runs from runs
    ≡ (page ++ leb128 (first - from)) ++ (leb128 (last - first) ++ bytes_of_runs (last + 1) rest)
next-run page runs rest run from first last split run_is =
    ap (λ (rs : List Interval). page ++ bytes_of_runs from rs) (split ∙ ap (λ (r : Interval). r ∷ rest) run_is)
    ∙ sym (append_assoc page (leb128 (first - from)) (leb128 (last - first) ++ bytes_of_runs (last + 1) rest))

module _ (old mid new : Option (List ℕ)) (whole page : List ℕ) (runs rest : List Interval) (run : Interval)
    (from start first last : ℕ) (split : runs ≡ run ∷ rest) (run_is : run ≡ from_to first last)
    (start_is : start ≡ from) (before : HasWritten old mid whole (page ++ bytes_of_runs from runs)) where
  abbrev after_gap : List ℕ
  after_gap = leb128 (last - first) ++ bytes_of_runs (last + 1) rest

  gap-left : HasWritten old mid whole ((page ++ leb128 (first - start)) ++ after_gap)
  gap-left = subst (HasWritten old mid whole)
      (next-run page runs rest run from first last split run_is
      ∙ ap (λ (k : ℕ). (page ++ leb128 (first - k)) ++ after_gap) (sym start_is)) before

  -- The gap of the next run waits too, and its length is left.
  pub run-left : (waits : List ℕ) → HasWritten mid new (page ++ leb128 (first - start)) waits
      → HasWritten old new whole ((waits ++ leb128 (last - first)) ++ bytes_of_runs (last + 1) rest)
  run-left waits gap =
      subst (HasWritten old new whole) (sym (append_assoc waits (leb128 (last - first)) (bytes_of_runs (last + 1) rest)))
      (written-then old mid new whole (page ++ leb128 (first - start)) waits after_gap gap-left gap)

  -- The gap of the next run could not be written.
  pub run-part : WritesPart mid new (page ++ leb128 (first - start)) → WritesPart old new whole
  run-part gap = part-then old mid new whole (page ++ leb128 (first - start)) after_gap gap-left gap

-- The header and the count wait, and the runs are left.
pub count-left : (old new : Option (List ℕ)) (whole from rest tail : List ℕ) → from ++ tail ≡ whole
    → HasWritten old new from rest → HasWritten old new whole (rest ++ tail)
count-left old new whole from rest tail is written =
    subst (λ (all : List ℕ). HasWritten old new all (rest ++ tail)) is (written-before old new from rest tail written)
