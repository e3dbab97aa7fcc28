-- After the last run, and the one set that bytes are those of.
use Rattle.std.proofs.Common.{◌≡◌, ℕ, true, false, ◌+◌, ◌-◌, ◌/◌, ◌<◌, ◌≤◌, ◌^◌, List, [], ◌∷◌, ◌++◌, length, take, drop, min, Option, None, Result, Ok, Err, refl, sym, ap, subst, ◌∙◌, arith, inl, inr, ◌≢◌, append_assoc}
use Rattle.std.specs.Prelude.{◌==◌, IfOk}
use Rattle.std.proofs.lemmas.Bool.{cases_lt}
use Rattle.std.proofs.lemmas.Bool.Decides.{nat_tests}
use Rattle.std.proofs.lemmas.List.{append_cancel_left, append-nil, length-append, nil_from_length, take-append-drop, take_at}
use Rattle.std.proofs.lemmas.List.Elements.{All-nil}
use Rattle.rsb_integer.specs.Runs.{Interval, from_to, IsCanonicalFrom}
use Rattle.rsb_integer.proofs.lemmas.Canonical.{canonical-lower}
use Rattle.range_set_bytes.specs.Fault.{IsFault}
use Rattle.range_set_bytes.specs.Format.{bytes_of, bytes_of_runs, header, IsWritable}
use Rattle.range_set_bytes.specs.Leb128.{leb128}
use Rattle.range_set_bytes.specs.Reading.{from_of, Continues, ExpectsNumber, ExpectsRuns}
use Rattle.range_set_bytes.specs.declared.fault.Fault.{Fault}
use Rattle.range_set_bytes.specs.declared.fault.Reason.TheVariants.{TooLong}
use Rattle.range_set_bytes.proofs.lemmas.Expecting.{expects-count, expects-first}
use Rattle.range_set_bytes.proofs.lemmas.Faults.{fault-same, take-past}
use Rattle.range_set_bytes.proofs.lemmas.Leb128.{one_number}

module _ (n : ℕ) (bytes rest : List ℕ) (runs : List Interval) (previous : Option ℕ)
    (expected : ExpectsRuns n bytes rest runs previous 0) where
  none-left : Continues n previous 0 []
  none-left = record {
    counted = refl;
    canonical = tt;
    within = All-nil (λ (run : Interval). run.last < n);
  }

  pub read-all : IsWritable n runs × (bytes_of n runs ≡ expected.read)
  read-all =
      let made = expected.may [] none-left in (
        subst (IsWritable n) (append-nil runs) made.0,
        ap (bytes_of n) (sym (append-nil runs)) ∙ made.1 ∙ append-nil expected.read,
      )

  -- If nothing is left, the bytes are those of the set.
  pub runs-done : rest ≡ [] → IsWritable n runs × (bytes ≡ bytes_of n runs)
  runs-done none = (
    read-all.0,
    expected.parts ∙ ap (λ (tail : List ℕ). expected.read ++ tail) none ∙ append-nil expected.read
        ∙ sym read-all.1,
  )

  -- Nothing may follow.
  none-follows : (all : List Interval) (tail : List ℕ) → IsWritable n all
      → bytes_of n all ≡ expected.read ++ tail → tail ≡ []
  none-follows all tail writable is =
      let more = expected.must all tail writable is in
      let none : more.0 ≡ [] = nil_from_length more.0 more.2.counted in
      more.3 ∙ ap (bytes_of_runs (from_of previous)) none

  some_length : (tail : List ℕ) → tail ≢ [] → 0 < length tail
  some_length [] some = absurd (some refl)
  some_length (byte ∷ tail) some = omega arith

  no-one : (tail : List ℕ) → tail ≢ [] → (more : List ℕ) → take 1 tail ++ more ≢ []
  no-one [] some more is = some refl
  no-one (byte ∷ tail) some more is = absurd cc

  too_long-parts : rest ≢ [] → IsFault n (expected.read ++ rest)
      (record { place = length expected.read; reason = TooLong })
  too_long-parts some =
      let read = expected.read in
      let less : length read < length (read ++ rest)
      = omega (arith, length-append read rest, some_length rest some) in
      let front : take (length read) (read ++ rest) ≡ read = take_at read rest (length read) refl in
      record {
        first = record {
          within = omega arith;
          begun = (runs, [], read-all.0, read-all.1 ∙ sym front ∙ sym (append-nil (take (length read) (read ++ rest))));
          stops = λ within begin.
              no-one rest some begin.1 (none-follows begin.0 (take 1 rest ++ begin.1) begin.2
              (begin.3 ∙ ap (λ (all : List ℕ). all ++ begin.1) (take-past read rest 1)
              ∙ append_assoc read (take 1 rest) begin.1));
          ends = λ all runs writable is. absurd (omega (arith, all, less));
        };
        reason = (less, runs, read-all.0, read-all.1 ∙ sym front);
      }

  -- If bytes are left, they are too many.
  pub too-long : rest ≢ [] → (fault : Fault)
      → record { place = length bytes - length rest; reason = TooLong } ≡ fault → IsFault n bytes fault
  too-long some fault is =
      let read = expected.read in
      let start : length bytes - length rest ≡ length read
      = rw expected.parts (omega (arith, length-append read rest)) in
      subst (λ (all : List ℕ). IsFault n all fault) (sym expected.parts)
      (subst (IsFault n (read ++ rest)) (fault-same fault (length read) TooLong
      (ap (λ (f : Fault). f.place) (sym is) ∙ start) (ap (λ (f : Fault). f.reason) (sym is)))
      (too_long-parts some))

-- ---- the code's bounds

pub count-expected : (n : ℕ) (bytes rest : List ℕ) (greatest most : ℕ) → greatest + 1 ≡ n
    → bytes ≡ header n ++ rest → most ≡ min (greatest / 2 + 1) (2 ^ 64 - 1)
    → ExpectsNumber n bytes rest 0 most
count-expected n bytes rest greatest most n_is parts most_is =
    subst (ExpectsNumber n bytes rest 0) (omega arith) (expects-count n bytes rest (omega arith) parts)

pub runs-expected : (n : ℕ) (bytes rest after : List ℕ) (greatest most count : ℕ) → greatest + 1 ≡ n
    → bytes ≡ header n ++ rest → most ≡ min (greatest / 2 + 1) (2 ^ 64 - 1) → count ≤ most
    → rest ≡ leb128 count ++ after → ExpectsRuns n bytes after [] None count
runs-expected n bytes rest after greatest most count n_is parts most_is high is =
    expects-first n bytes rest after count (omega arith) parts (omega arith) is

-- ---- sets and their bytes

-- The bytes of a set are not refused.
pub not-refused : (n : ℕ) (bytes : List ℕ) (fault : Fault) → IsFault n bytes fault
    → (runs : List Interval) → IsWritable n runs → bytes ≡ bytes_of n runs → ⊥
not-refused n bytes fault wrong runs writable is =
    let place = fault.place in
    let within = wrong.first.within in
    elim (cases_lt place (length bytes)) [
      | inl less ↦ wrong.first.stops less
          (runs, drop (place + 1) bytes, writable, sym is ∙ sym (take-append-drop (place + 1) bytes))
      | inr past ↦ wrong.first.ends (omega arith) runs writable (sym is)
    ]

-- The runs, and what follows their bytes, are determined by these bytes.
same-runs : (from : ℕ) (runs others : List Interval) (x y : List ℕ) → length runs ≡ length others
    → IsCanonicalFrom from runs → IsCanonicalFrom from others
    → bytes_of_runs from runs ++ x ≡ bytes_of_runs from others ++ y → runs ≡ others
same-runs from [] [] x y counted canonical other is = refl
same-runs from [] (run ∷ others) x y counted canonical other is = absurd (omega (arith, counted))
same-runs from (run ∷ runs) [] x y counted canonical other is = absurd (omega (arith, counted))
same-runs from (run ∷ runs) (run' ∷ others) x y counted canonical other is =
    let gaps = one_number (run.first - from) (run'.first - from)
    ((leb128 (run.last - run.first) ++ bytes_of_runs (run.last + 1) runs) ++ x)
    ((leb128 (run'.last - run'.first) ++ bytes_of_runs (run'.last + 1) others) ++ y)
    (sym (append_assoc (leb128 (run.first - from)) _ x) ∙ is
    ∙ append_assoc (leb128 (run'.first - from)) _ y) in
    let long = one_number (run.last - run.first) (run'.last - run'.first)
    (bytes_of_runs (run.last + 1) runs ++ x) (bytes_of_runs (run'.last + 1) others ++ y)
    (sym (append_assoc (leb128 (run.last - run.first)) _ x) ∙ gaps.1
    ∙ append_assoc (leb128 (run'.last - run'.first)) _ y) in
    let first : run.first ≡ run'.first = low-same from run.first run'.first canonical.starts other.starts gaps.0 in
    let last : run.last ≡ run'.last = last-same run.first run.last run'.first run'.last first canonical.in_order other.in_order long.0 in
    let one : run ≡ run' = λ i. from_to (first i) (last i) in
    let more = same-runs (run'.last + 1) runs others x y (omega (arith, counted))
    (canonical-lower (run.last + 2) (run'.last + 1) runs (omega (arith, last)) canonical.rest)
    (canonical-lower (run'.last + 2) (run'.last + 1) others (omega arith) other.rest)
    (ap (λ (k : ℕ). bytes_of_runs (k + 1) runs ++ x) (sym last) ∙ long.1) in
    λ i. one i ∷ more i
  where
    low-same : (from a b : ℕ) → from ≤ a → from ≤ b → a - from ≡ b - from → a ≡ b
    low-same from a b low high same = omega arith

    last-same : (first last first' last' : ℕ) → first ≡ first' → first ≤ last → first' ≤ last'
        → last - first ≡ last' - first' → last ≡ last'
    last-same first last first' last' same ordered other is = omega arith

-- The bytes of no set begin with those of another one.
pub same-start : (n : ℕ) (runs others : List Interval) (x y : List ℕ) → IsWritable n runs
    → IsWritable n others → bytes_of n runs ++ x ≡ bytes_of n others ++ y → runs ≡ others
unfolding bytes_of
same-start n runs others x y writable other is =
    let tails = append_cancel_left (header n) ((leb128 (length runs) ++ bytes_of_runs 0 runs) ++ x)
    ((leb128 (length others) ++ bytes_of_runs 0 others) ++ y)
    (sym (append_assoc (header n) _ x) ∙ is ∙ append_assoc (header n) _ y) in
    let counted = one_number (length runs) (length others) (bytes_of_runs 0 runs ++ x)
    (bytes_of_runs 0 others ++ y) (sym (append_assoc (leb128 (length runs)) _ x) ∙ tails
    ∙ append_assoc (leb128 (length others)) _ y) in
    same-runs 0 runs others x y counted.0 writable.canonical.apart other.canonical.apart counted.1

-- Different sets have different bytes.
pub same-bytes : (n : ℕ) (runs others : List Interval) → IsWritable n runs → IsWritable n others
    → bytes_of n runs ≡ bytes_of n others → runs ≡ others
same-bytes n runs others writable other is =
    same-start n runs others [] [] writable other (ap (λ (bytes : List ℕ). bytes ++ []) is)

-- ---- empty lists

pub empty-list : (bytes : List ℕ) → true ≡ (length bytes == 0) → bytes ≡ []
empty-list [] is = refl
empty-list (byte ∷ bytes) is = absurd (grind (arith, nat_tests))

pub some-list : (bytes : List ℕ) → false ≡ (length bytes == 0) → bytes ≢ []
some-list [] is none = absurd cc
some-list (byte ∷ bytes) is none = absurd cc

-- ---- the only set

pub only-set : {E : Type 0} (result : Result (List Interval) E) (n : ℕ) (bytes : List ℕ)
    → IfOk result (λ set. bytes ≡ bytes_of n set) → IfOk result (IsWritable n)
    → (runs : List Interval) → IsWritable n runs → bytes ≡ bytes_of n runs
    → IfOk result (λ set. set ≡ runs)
only-set (Ok set) n bytes read writable runs other is = same-bytes n set runs writable other (sym read ∙ is)
only-set (Err error) n bytes read writable runs other is = tt
