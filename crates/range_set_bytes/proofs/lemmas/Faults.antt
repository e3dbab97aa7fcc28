-- What is wrong with bytes, from what is wrong with a number in them.
use Rattle.std.proofs.Common.{◌≡◌, ℕ, zero, suc, ◌+◌, ◌-◌, ◌<◌, ◌≤◌, List, [], ◌∷◌, ◌++◌, length, take, get_or, refl, sym, ap, subst, ◌∙◌, arith, append_assoc}
use Rattle.std.proofs.lemmas.List.{get_or-append-add, get_or_append_left, length-append}
use Rattle.rsb_integer.specs.Runs.{Interval}
use Rattle.range_set_bytes.specs.BadNumber.{IsBadNumber, IsWrong}
use Rattle.range_set_bytes.specs.Fault.{Begin, HasReason, IsFault, IsFirstWrong}
use Rattle.range_set_bytes.specs.Format.{bytes_of, IsWritable}
use Rattle.range_set_bytes.specs.Leb128.{leb128}
use Rattle.range_set_bytes.specs.Reading.{EndsNumber, ExpectsNumber, reason_of}
use Rattle.range_set_bytes.specs.declared.fault.Fault.{Fault}
use Rattle.range_set_bytes.specs.declared.fault.Reason.{Reason}
use Rattle.range_set_bytes.specs.declared.numbers.BadNumber.{BadNumber}
use Rattle.range_set_bytes.specs.declared.numbers.Wrong.{Wrong}
use Rattle.range_set_bytes.specs.declared.numbers.Wrong.TheVariants.{Ended, Large, Zero}

pub take-past : (xs ys : List ℕ) (k : ℕ) → take (length xs + k) (xs ++ ys) ≡ xs ++ take k ys
take-past [] ys k = ap (λ (i : ℕ). take i ys) (omega arith)
take-past (x ∷ xs) ys k =
    let next : suc (length xs) + k ≡ suc (length xs + k) = omega arith in
    rw next (ap (λ (rest : List ℕ). x ∷ rest) (take-past xs ys k))

module _ (n : ℕ) (read rest : List ℕ) (least most : ℕ)
    (past_header : 6 ≤ length read)
    (may : (number : ℕ) → least ≤ number → number ≤ most → (runs : List Interval) × (tail : List ℕ)
    × IsWritable n runs × (bytes_of n runs ≡ read ++ (leb128 number ++ tail)))
    (must : (runs : List Interval) (tail : List ℕ) → IsWritable n runs → bytes_of n runs ≡ read ++ tail
    → (number : ℕ) × (after : List ℕ) × (least ≤ number) × (number ≤ most)
    × (tail ≡ leb128 number ++ after))
    (between : 0 < least → EndsNumber read) where
  -- What a number begins with, the bytes of some set continue with.
  begin-number : (number : ℕ) (front more : List ℕ) → least ≤ number → number ≤ most
      → leb128 number ≡ front ++ more → Begin n (read ++ front)
  begin-number number front more low high is =
      let some = may number low high in (
        some.0,
        more ++ some.1,
        some.2,
        some.3 ∙ ap (λ (bytes : List ℕ). read ++ (bytes ++ some.1)) is
            ∙ ap (λ (bytes : List ℕ). read ++ bytes) (append_assoc front more some.1)
            ∙ sym (append_assoc read front (more ++ some.1)),
      )

  first-wrong : (bad : BadNumber) → IsBadNumber least most rest bad
      → IsFirstWrong n (read ++ rest) (length read + bad.taken)
  first-wrong bad is = record {
    within = omega (arith, length-append read rest, is.within);
    begun = rw (take-past read rest bad.taken)
        (begin-number is.begun.0 (take bad.taken rest) is.begun.1 is.begun.2 is.begun.3 is.begun.4);
    stops = λ less begin.
        let more = begin.1 in
        let front : take (length read + bad.taken + 1) (read ++ rest) ≡ read ++ take (bad.taken + 1) rest
        = ap (λ (k : ℕ). take k (read ++ rest)) (omega arith) ∙ take-past read rest (bad.taken + 1) in
        let whole : bytes_of n begin.0 ≡ read ++ (take (bad.taken + 1) rest ++ more)
        = begin.3 ∙ ap (λ (bytes : List ℕ). bytes ++ more) front
        ∙ append_assoc read (take (bad.taken + 1) rest) more in
        let number = must begin.0 (take (bad.taken + 1) rest ++ more) begin.2 whole in
        is.stops (omega (arith, length-append read rest)) number.0 number.1 more number.2 number.3
        (sym number.4);
    ends = λ all runs writable whole.
        let number = must runs rest writable whole in
        is.ends (omega (arith, length-append read rest)) number.0 number.1 (sym number.4);
  }

  get-past : (k other : ℕ) → get_or (read ++ rest) (length read + k) other ≡ get_or rest k other
  get-past k other = get_or-append-add read rest k other

  has-reason : (wrong : Wrong) (taken : ℕ) → IsBadNumber least most rest (record { taken = taken; wrong = wrong })
      → IsWrong least most rest wrong taken
      → HasReason n (read ++ rest) (reason_of wrong taken) (length read + taken)
  has-reason Ended taken is wrong = omega (arith, length-append read rest, wrong)
  has-reason Large taken is wrong = (
    omega (arith, length-append read rest, wrong.0),
    omega arith,
    wrong.1,
    rw get-past wrong.2,
    subst (Begin n) (sym (ap (λ (bytes : List ℕ). bytes ++ (wrong.1 ∷ [])) (take-past read rest taken)
        ∙ append_assoc read (take taken rest) (wrong.1 ∷ [])))
        (begin-number wrong.3 (take taken rest ++ (wrong.1 ∷ [])) wrong.4 wrong.5 wrong.6
        (wrong.7 ∙ sym (append_assoc (take taken rest) (wrong.1 ∷ []) wrong.4))),
  )
  has-reason Zero zero is wrong =
      let ended = between (wrong.2 refl) in
      let some = ended.0 in
      let before : length read + 0 - 1 ≡ length read - 1 = omega arith in (
        omega (arith, length-append read rest, wrong.0),
        rw get-past wrong.1,
        rw (before, get_or_append_left read rest 128 (length read - 1) (omega arith)) ended.1,
      )
  has-reason Zero (suc taken) is wrong =
      let before : length read + suc taken - 1 ≡ length read + taken = omega arith in
      let back : suc taken - 1 ≡ taken = omega arith in (
        omega (arith, length-append read rest, wrong.0),
        rw get-past wrong.1,
        rw (before, get-past taken 0) (rw back at (wrong.3 (omega arith))),
      )

  number_fault-parts : (bad : BadNumber) → IsBadNumber least most rest bad → IsFault n (read ++ rest)
      (record { place = length read + bad.taken; reason = reason_of bad.wrong bad.taken })
  number_fault-parts bad is = record {
    first = first-wrong bad is;
    reason = has-reason bad.wrong bad.taken is is.wrong;
  }

pub fault-same : (fault : Fault) (place : ℕ) (reason : Reason) → fault.place ≡ place
    → fault.reason ≡ reason → record { place = place; reason = reason } ≡ fault
fault-same fault place reason one two = rw (← one, ← two) refl

-- If a number is expected and what comes is none, this is what is wrong with the bytes.
pub number-fault : (n : ℕ) (bytes rest : List ℕ) (least most : ℕ) (bad : BadNumber) (fault : Fault)
    → ExpectsNumber n bytes rest least most → IsBadNumber least most rest bad
    → fault.place ≡ length bytes - length rest + bad.taken
    → fault.reason ≡ reason_of bad.wrong bad.taken → IsFault n bytes fault
number-fault n bytes rest least most bad fault expected is place reason =
    let read = expected.read in
    let start : length bytes - length rest ≡ length read
    = rw expected.parts (omega (arith, length-append read rest)) in
    let same : record { place = length read + bad.taken; reason = reason_of bad.wrong bad.taken } ≡ fault
    = fault-same fault (length read + bad.taken) (reason_of bad.wrong bad.taken)
    (place ∙ ap (λ (k : ℕ). k + bad.taken) start) reason in
    subst (λ (all : List ℕ). IsFault n all fault) (sym expected.parts)
    (subst (IsFault n (read ++ rest)) same (number_fault-parts n read rest least most expected.past_header
    expected.may expected.must expected.between bad is))
