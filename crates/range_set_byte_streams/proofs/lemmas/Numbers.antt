-- Numbers that are read byte by byte, and what is wrong with bytes that do not begin with one.
use Rattle.std.proofs.Common.{◌≡◌, ◌≢◌, ◌∙◌, ℕ, suc, ◌+◌, ◌-◌, ◌*◌, ◌/◌, ◌<◌, ◌≤◌, List, [], ◌∷◌, ◌++◌, drop, length, Option, Some, refl, sym, ap, subst, append_assoc, add-one, arith, inl, inr, ◌⊎◌}
use Rattle.std.proofs.Math.Seq.{drop-append-add}
use Rattle.std.proofs.lemmas.Bool.{cases_lt}
use Rattle.std.proofs.lemmas.List.{append-nil, length-append, take-append-drop}
use Rattle.rsb_integer.specs.Runs.{Interval}
use Rattle.range_set_bytes.specs.BadNumber.{bad_at, IsBadNumber}
use Rattle.range_set_bytes.specs.Format.{bytes_of, IsWritable}
use Rattle.range_set_bytes.specs.Leb128.{leb128}
use Rattle.range_set_bytes.specs.Reading.{reason_of, ExpectsNumber}
use Rattle.range_set_bytes.specs.declared.fault.Fault.{Fault}
use Rattle.range_set_bytes.specs.declared.numbers.BadNumber.{BadNumber}
use Rattle.range_set_bytes.specs.declared.numbers.Wrong.{Wrong}
use Rattle.range_set_bytes.specs.declared.numbers.Wrong.TheVariants.{Ended}
use Rattle.range_set_bytes.proofs.lemmas.Done.{same-start}
use Rattle.range_set_bytes.proofs.lemmas.Faults.{number-fault}
use Rattle.range_set_bytes.proofs.lemmas.Leb128.{bad-ended, bad-more, leb128-byte, leb128-one}
use Rattle.range_set_byte_streams.specs.Source.{HasNumber, ReadsNumber, StopsAt, StopsAtNumber}

-- ---- numbers

-- A byte below 128 is a number.
pub number-one : (byte : ℕ) (bytes after : List ℕ) (now : Option (List ℕ)) → byte < 128
    → bytes ≡ byte ∷ after → now ≡ Some after → HasNumber bytes now byte
number-one byte bytes after now less parts left = record {
  after = after;
  parts = parts ∙ ap (λ (front : List ℕ). front ++ after) (sym (leb128-one byte less));
  left = left;
}

-- Another byte comes before the rest of its number.
pub number-more : (byte high : ℕ) (bytes after : List ℕ) (now : Option (List ℕ)) → 128 ≤ byte
    → byte < 256 → 0 < high → bytes ≡ byte ∷ after → HasNumber after now high
    → HasNumber bytes now (byte - 128 + 128 * high)
number-more byte high bytes after now top fits some parts rest = record {
  after = rest.after;
  parts = parts ∙ ap (λ (tail : List ℕ). byte ∷ tail) rest.parts
      ∙ ap (λ (front : List ℕ). front ++ rest.after) (sym (leb128-byte byte high top fits some));
  left = rest.left;
}

-- The number takes one byte more than its rest.
pub length-more : (byte high : ℕ) → 128 ≤ byte → byte < 256 → 0 < high
    → length (leb128 (byte - 128 + 128 * high)) ≡ suc (length (leb128 high))
length-more byte high top fits some = ap length (leb128-byte byte high top fits some)

pub length-one : (byte : ℕ) → byte < 128 → length (leb128 byte) ≡ 1
length-one byte less = ap length (leb128-one byte less)

-- ---- what is wrong with a number

-- The first byte is wrong, or there is none.
pub stops-here : (least most start place : ℕ) (bytes : List ℕ) (now : Option (List ℕ)) (wrong : Wrong)
    (fault : Fault) → IsBadNumber least most bytes (bad_at 0 wrong) → fault.place ≡ place
    → fault.reason ≡ reason_of wrong (place - start) → now ≡ Some bytes
    → StopsAtNumber bytes now least most start place fault
stops-here least most start place bytes now wrong fault is placed reason left = record {
  bad = bad_at 0 wrong;
  is_bad = is;
  placed = omega arith;
  reason = reason ∙ ap (reason_of wrong) (omega arith);
  left = left;
}

pub stops-ended : (least most start place : ℕ) (bytes : List ℕ) (now : Option (List ℕ))
    (fault : Fault) → least ≤ most → bytes ≡ [] → fault.place ≡ place
    → fault.reason ≡ reason_of Ended (place - start) → now ≡ Some bytes
    → StopsAtNumber bytes now least most start place fault
stops-ended least most start place bytes now fault some none placed reason left =
    stops-here least most start place bytes now Ended fault
    (subst (λ (all : List ℕ). IsBadNumber least most all (bad_at 0 Ended)) (sym none)
    (bad-ended least most some)) placed reason left

-- The rest of the number is wrong.
pub stops-more : (least most start place byte : ℕ) (bytes after : List ℕ) (now : Option (List ℕ))
    (fault : Fault) → start ≤ place → least ≤ 1 → 128 ≤ byte → byte < 256 → byte ≤ most
    → bytes ≡ byte ∷ after
    → StopsAtNumber after now 1 ((most - (byte - 128)) / 128) start (place + 1) fault
    → StopsAtNumber bytes now least most start place fault
stops-more least most start place byte bytes after now fault begun low top fits within parts stops =
    let taken = stops.bad.taken in
    let place_is = stops.placed in
    record {
      bad = record { taken = taken + 1; wrong = stops.bad.wrong };
      is_bad = subst (λ (all : List ℕ). IsBadNumber least most all (record { taken = taken + 1; wrong = stops.bad.wrong }))
          (sym parts) (bad-more least most byte after stops.bad low top fits within stops.is_bad);
      placed = omega arith;
      reason = stops.reason ∙ ap (reason_of stops.bad.wrong) (omega arith);
      left = stops.left ∙ ap (λ (n : ℕ). Some (drop n (byte ∷ after))) (sym (add-one taken))
          ∙ ap (λ (all : List ℕ). Some (drop (taken + 1) all)) (sym parts);
    }

-- ---- the first wrong byte of all

some-length : (bytes : List ℕ) → 0 < length bytes → bytes ≢ []
some-length [] some is = absurd (omega (arith, some))
some-length (byte ∷ bytes) some is = absurd cc

-- Two ways to part the same list.
parted : (a b c d : List ℕ) → a ++ b ≡ c ++ d
    → ((tail : List ℕ) × (a ≡ c ++ tail) × (tail ++ b ≡ d))
    ⊎ ((tail : List ℕ) × (tail ≢ []) × (c ≡ a ++ tail))
parted a b [] d is = inl (a, refl, is)
parted [] b (y ∷ c) d is = inr (y ∷ c, (λ none. absurd cc), refl)
parted (x ∷ a) b (y ∷ c) d is =
    let head : x ≡ y = cc is in
    let back : y ≡ x = sym head in
    let rest : a ++ b ≡ c ++ d = cc is in
    elim (parted a b c d rest) [
      | inl found ↦ inl (found.0, (λ i. head i ∷ found.1 i), found.2)
      | inr found ↦ inr (found.0, found.1, (λ i. back i ∷ found.2 i))
    ]

some-more : (front tail : List ℕ) → tail ≢ [] → front ≢ front ++ tail
some-more front [] some is = some refl
some-more front (byte ∷ tail) some is =
    absurd (omega (arith, ap length is, length-append front (byte ∷ tail)))

module _ (n : ℕ) (bytes rest : List ℕ) (least most : ℕ) (expected : ExpectsNumber n bytes rest least most)
    (bad : BadNumber) (is_bad : IsBadNumber least most rest bad) (some : least ≤ most) where
  -- No number is there.
  no-number : (number : ℕ) (after : List ℕ) → least ≤ number → number ≤ most
      → leb128 number ++ after ≢ rest
  no-number number after low high is = elim (cases_lt bad.taken (length rest)) [
    | inl less ↦
        is_bad.stops less number after (drop (bad.taken + 1) rest) low high
        (is ∙ sym (take-append-drop (bad.taken + 1) rest))
    | inr past ↦ let within = is_bad.within in is_bad.ends (omega arith) number after is
  ]

  -- If a wrong byte is where a number is to come next, the bytes do not begin with those of a set.
  pub no-set : (runs : List Interval) (more : List ℕ) → IsWritable n runs
      → bytes ≢ bytes_of n runs ++ more
  no-set runs more writable is =
      let may = expected.may least (omega arith) some in
      elim (parted (bytes_of n runs) more expected.read rest (sym is ∙ expected.parts)) [
        | inl found ↦
            let number = expected.must runs found.0 writable found.1 in
            no-number number.0 (number.1 ++ more) number.2 number.3
            (sym (append_assoc (leb128 number.0) number.1 more)
            ∙ ap (λ (tail : List ℕ). tail ++ more) (sym number.4) ∙ found.2)
        | inr found ↦
            let tail = found.0 ++ (leb128 least ++ may.1) in
            let whole : bytes_of n may.0 ≡ bytes_of n runs ++ tail
            = may.3 ∙ ap (λ (front : List ℕ). front ++ (leb128 least ++ may.1)) found.2
            ∙ append_assoc (bytes_of n runs) found.0 (leb128 least ++ may.1) in
            let same : may.0 ≡ runs = same-start n may.0 runs [] tail may.2 writable
            (append-nil (bytes_of n may.0) ∙ whole) in
            some-more (bytes_of n runs) tail (some-front found.0 (leb128 least ++ may.1) found.1)
            (ap (bytes_of n) (sym same) ∙ whole)
      ]
    where
      some-front : (front tail : List ℕ) → front ≢ [] → front ++ tail ≢ []
      some-front [] tail some is = some refl
      some-front (byte ∷ front) tail some is = absurd cc

-- What is wrong with a number that is expected is what is wrong with the bytes.
pub number-stops : (bytes : List ℕ) (old now : Option (List ℕ)) (n place least most : ℕ)
    (fault : Fault) (reads : ReadsNumber bytes old n place least most) → least ≤ most
    → StopsAtNumber reads.rest now least most place place fault → StopsAt bytes now n fault
number-stops bytes old now n place least most fault reads some stops =
    let before = reads.before in
    let placed = stops.placed in
    let taken = stops.bad.taken in
    let read = reads.expected.read in
    let long : length bytes ≡ length read + length reads.rest
    = ap length reads.expected.parts ∙ length-append read reads.rest in
    let at : fault.place ≡ length read + taken = omega arith in
    record {
      fault_is = number-fault n bytes reads.rest least most stops.bad fault reads.expected stops.is_bad
          (omega arith) (stops.reason ∙ ap (reason_of stops.bad.wrong) (omega arith));
      alone = no-set n bytes reads.rest least most reads.expected stops.bad stops.is_bad some;
      left = stops.left ∙ ap Some (sym (drop-append-add read reads.rest taken)
          ∙ ap (λ (k : ℕ). drop k (read ++ reads.rest)) (sym at)
          ∙ ap (drop fault.place) (sym reads.expected.parts));
    }
