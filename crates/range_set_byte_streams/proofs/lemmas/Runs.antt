-- Runs that are read one by one.
use Rattle.std.proofs.Common.{◌≡◌, ◌∙◌, ℕ, false, ◌&&◌, ◌||◌, nat_le, nat_lt, ◌+◌, ◌-◌, ◌*◌, ◌/◌, ◌≤◌, ◌^◌, List, [], ◌∷◌, ◌++◌, length, min, Option, Some, None, Result, Ok, Err, refl, sym, ap, subst, arith}
use Rattle.std.proofs.lemmas.Bool.Decides.{nat_tests}
use Rattle.std.proofs.lemmas.List.{length-append}
use Rattle.std.specs.Io.KnownBytes.{Consumes}
use Rattle.std.specs.Prelude.{IfOk}
use Rattle.rsb_integer.specs.Runs.{Interval, from_to, members, AreRuns, IsCanonicalIn}
use Rattle.rsb_integer.proofs.lemmas.Canonical.{canonical-front, canonical-unique}
use Rattle.rsb_integer.proofs.lemmas.Members.{members-append, members-cons}
use Rattle.rsb_integer.proofs.lemmas.Runs.{runs-canonical}
use Rattle.range_set_blaze.specs.Set.{Adds}
use Rattle.range_set_bytes.specs.Format.{bytes_of, header, IsWritable}
use Rattle.range_set_bytes.specs.Leb128.{leb128}
use Rattle.range_set_bytes.specs.Reading.{from_of, least_gap, BeginsWithRun, ExpectsRuns}
use Rattle.range_set_bytes.proofs.lemmas.Done.{count-expected, read-all, runs-expected, same-start}
use Rattle.range_set_bytes.proofs.lemmas.NextRun.{gap-expected, length-expected, others-expected}
use Rattle.range_set_bytes.proofs.lemmas.Room.{singles, singles-canonical, singles-length, singles-within}
use Rattle.range_set_byte_streams.specs.Source.{HasCount, HasNumber, IsPast, ReadsNumber, ReadsRuns}
use Rattle.range_set_byte_streams.proofs.lemmas.Source.{consumes-some, past-more}

-- ---- the count

module _ (n greatest most : ℕ) (bytes rest : List ℕ) (old : Option (List ℕ)) (n_is : greatest + 1 ≡ n)
    (most_is : most ≡ min (greatest / 2 + 1) (2 ^ 64 - 1)) (parts : bytes ≡ header n ++ rest)
    (left : old ≡ Some rest) where
  -- After the header, the count is expected.
  pub count-reads : ReadsNumber bytes old n 6 0 most
  count-reads = record {
    rest = rest;
    left = left;
    before = omega (arith, ap length parts, length-append (header n) rest);
    expected = count-expected n bytes rest greatest most n_is parts most_is;
  }

  -- After the count, that many runs are expected.
  pub count-read : (count place : ℕ) (new : Option (List ℕ)) → count ≤ most
      → HasNumber rest new count → place ≡ 6 + length (leb128 count)
      → HasCount bytes new n place count
  count-read count place new high number placed = record {
    reads = record {
      rest = number.after;
      left = number.left;
      before = omega (
        arith,
        ap length parts,
        length-append (header n) rest,
        ap length number.parts,
        length-append (leb128 count) number.after,
      );
      expected = runs-expected n bytes rest number.after greatest most count n_is parts most_is high number.parts;
    };
    begins = λ begins. (
      count,
      number.after,
      parts ∙ ap (λ (tail : List ℕ). header n ++ tail) number.parts,
      begins,
    );
  }

-- ---- one run

-- Two numbers are a run.
pub run-begins : (rest : List ℕ) (mid new : Option (List ℕ)) (gap more : ℕ)
    (first : HasNumber rest mid gap) → HasNumber first.after new more → BeginsWithRun rest
run-begins rest mid new gap more first second = (
  gap,
  more,
  second.after,
  first.parts ∙ ap (λ (tail : List ℕ). leb128 gap ++ tail) second.parts,
)

module _ (bytes : List ℕ) (old : Option (List ℕ)) (n place : ℕ) (runs : List Interval)
    (previous : Option ℕ) (after greatest from least : ℕ) (n_is : greatest + 1 ≡ n)
    (from_is : from ≡ from_of previous) (least_is : least ≡ least_gap previous)
    (reads : ReadsRuns bytes old n place runs previous (after + 1)) where
  -- First, the gap of the run is expected.
  pub gap-reads : ReadsNumber bytes old n place least (greatest - 2 * after - from)
  gap-reads = record {
    rest = reads.rest;
    left = reads.left;
    before = reads.before;
    expected = gap-expected n bytes reads.rest previous after greatest from n_is from_is least least_is
        (runs, reads.expected);
  }

  module _ (gap middle : ℕ) (mid : Option (List ℕ)) (low : least ≤ gap)
      (high : gap ≤ greatest - 2 * after - from) (first : HasNumber reads.rest mid gap)
      (middle_is : middle ≡ place + length (leb128 gap)) where
    middle-before : middle + length first.after ≡ length bytes
    middle-before =
        let before = reads.before in
        omega (arith, ap length first.parts, length-append (leb128 gap) first.after)

    -- Then its length is.
    pub length-reads : ReadsNumber bytes mid n middle 0 (greatest - 2 * after - (from + gap))
    length-reads = record {
      rest = first.after;
      left = first.left;
      before = middle-before;
      expected = length-expected n bytes reads.rest previous after greatest from n_is from_is least least_is
          gap first.after low high first.parts (runs, reads.expected);
    }

    -- Then the other runs are.
    pub others-reads : (more end : ℕ) (new : Option (List ℕ))
        → more ≤ greatest - 2 * after - (from + gap) → HasNumber first.after new more
        → end ≡ middle + length (leb128 more)
        → ReadsRuns bytes new n end (runs ++ (from_to (from + gap) (from + gap + more) ∷ []))
        (Some (from + gap + more)) after
    others-reads more end new most second end_is = record {
      rest = second.after;
      left = second.left;
      before =
          let before = middle-before in
          omega (arith, ap length second.parts, length-append (leb128 more) second.after);
      expected = others-expected n bytes reads.rest previous after greatest from n_is from_is least least_is
          gap first.after low high first.parts runs reads.expected more second.after most second.parts;
    }

-- What is past the first bytes of those that are left is past the first bytes of all.
pub reads-past : (bytes : List ℕ) (old now : Option (List ℕ)) (n place : ℕ) (runs : List Interval)
    (previous : Option ℕ) (count : ℕ) (reads : ReadsRuns bytes old n place runs previous count)
    → IsPast reads.rest now → IsPast bytes now
reads-past bytes old now n place runs previous count reads past =
    past-more bytes reads.expected.read reads.rest now reads.expected.parts past

pub number-past : (bytes : List ℕ) (old now : Option (List ℕ)) (n place least most : ℕ)
    (reads : ReadsNumber bytes old n place least most) → IsPast reads.rest now → IsPast bytes now
number-past bytes old now n place least most reads past =
    past-more bytes reads.expected.read reads.rest now reads.expected.parts past

-- ---- after the last run

-- The set is that of the bytes.
pub set-read : (bytes : List ℕ) (now : Option (List ℕ)) (n place : ℕ) (runs : List Interval)
    (previous : Option ℕ) → ReadsRuns bytes now n place runs previous 0
    → IsWritable n runs × Consumes (Some bytes) now (bytes_of n runs)
set-read bytes now n place runs previous reads =
    let all = read-all n bytes reads.rest runs previous reads.expected in (
      all.0,
      consumes-some now bytes (bytes_of n runs) reads.rest reads.left
          (reads.expected.parts ∙ ap (λ (front : List ℕ). front ++ reads.rest) (sym all.1)),
    )

-- ---- the set

-- The runs that were read are canonical, since more may follow.
pub reads-canonical : (bytes : List ℕ) (now : Option (List ℕ)) (n place : ℕ) (runs : List Interval)
    (previous : Option ℕ) (count : ℕ) → ReadsRuns bytes now n place runs previous count
    → IsCanonicalIn n runs
reads-canonical bytes now n place runs previous count reads =
    let low = from_of previous + least_gap previous in
    let made = reads.expected.may (singles low count) (record {
      counted = singles-length low count;
      canonical = singles-canonical low count;
      within = singles-within n low count reads.expected.room;
    }) in
    canonical-front n runs (singles low count) made.0.canonical

one-run : (first last rank : ℕ)
    → (nat_le first rank && nat_lt rank (last + 1)) ≡ members (from_to first last ∷ []) rank
one-run first last rank =
    tests ∙ sym (members-cons (from_to first last) [] rank)
  where
    tests : (nat_le first rank && nat_lt rank (last + 1)) ≡ ((nat_le first rank && nat_le rank last) || false)
    tests = grind (arith, nat_tests)

-- If a run past all others is added, it is the last run of the set.
pub pushed-run : (n first last : ℕ) (old new : List Interval)
    → IsCanonicalIn n (old ++ (from_to first last ∷ [])) → AreRuns n (members new) new
    → Adds old new (λ rank. nat_le first rank && nat_lt rank (last + 1))
    → new ≡ old ++ (from_to first last ∷ [])
pushed-run n first last old new canonical runs adds =
    let whole = old ++ (from_to first last ∷ []) in
    canonical-unique 0 0 new whole (runs-canonical n (members new) new runs).apart canonical.apart
    (λ rank. adds rank ∙ ap (λ test. members old rank || test) (one-run first last rank)
    ∙ sym (members-append old (from_to first last ∷ []) rank))

-- ---- all of the bytes

-- What was consumed of known bytes was consumed of whatever was left.
pub consumed-known : {E : Type 0} (result : Result (List Interval) E) (known new : Option (List ℕ)) (n : ℕ)
    → ((bytes : List ℕ) → known ≡ Some bytes
    → IfOk result (λ set. Consumes (Some bytes) new (bytes_of n set)))
    → IfOk result (λ set. Consumes known new (bytes_of n set))
consumed-known (Ok set) None new n read = tt
consumed-known (Ok set) (Some bytes) new n read = read bytes refl
consumed-known (Err error) known new n read = tt

consumed-parts : (bytes front : List ℕ) (now : Option (List ℕ)) → Consumes (Some bytes) now front
    → (rest : List ℕ) × (bytes ≡ front ++ rest)
consumed-parts bytes front None parts = absurd parts
consumed-parts bytes front (Some rest) parts = (rest, parts)

-- No other set's bytes are at the start.
pub only-start : {E : Type 0} (result : Result (List Interval) E) (new : Option (List ℕ)) (n : ℕ)
    (runs : List Interval) (more : List ℕ) → IsWritable n runs
    → IfOk result (λ set. Consumes (Some (bytes_of n runs ++ more)) new (bytes_of n set))
    → IfOk result (IsWritable n) → IfOk result (λ set. set ≡ runs)
only-start (Ok set) new n runs more writable read other =
    let parts = consumed-parts (bytes_of n runs ++ more) (bytes_of n set) new read in
    same-start n set runs parts.0 more other writable (sym parts.1)
only-start (Err error) new n runs more writable read other = tt

-- The same runs are to come.
abbrev pub recounted : (bytes : List ℕ) (now : Option (List ℕ)) (n place : ℕ) (runs others : List Interval)
    (previous : Option ℕ) (count other : ℕ) → runs ≡ others → count ≡ other
    → ReadsRuns bytes now n place runs previous count → ReadsRuns bytes now n place others previous other
recounted bytes now n place runs others previous count other same is reads = record {
  rest = reads.rest;
  left = reads.left;
  before = reads.before;
  expected = subst (λ (k : ℕ). ExpectsRuns n bytes reads.rest others previous k) is
      (subst (λ (list : List Interval). ExpectsRuns n bytes reads.rest list previous count) same reads.expected);
}
