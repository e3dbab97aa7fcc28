-- What may come next.
use Rattle.std.proofs.Common.{◌≡◌, ℕ, suc, ◌+◌, ◌-◌, ◌*◌, ◌/◌, ◌<◌, ◌≤◌, ◌^◌, List, [], ◌∷◌, ◌++◌, length, min, Option, Some, None, refl, sym, ap, subst, ◌∙◌, arith, ◌≢◌, append_assoc}
use Rattle.std.proofs.lemmas.List.{append_cancel_left, length-append}
use Rattle.std.proofs.lemmas.List.Elements.{All-cons, All-tail}
use Rattle.rsb_integer.specs.Runs.{Interval, from_to, IsCanonicalFrom}
use Rattle.range_set_bytes.specs.Format.{bytes_of, bytes_of_runs, header, IsWritable}
use Rattle.range_set_bytes.specs.Leb128.{leb128}
use Rattle.range_set_bytes.specs.Reading.{from_of, least_gap, Continues, ExpectsNumber, ExpectsRuns}
use Rattle.range_set_bytes.proofs.lemmas.Leb128.{ends_number, ends_number-after, one_number}
use Rattle.range_set_bytes.proofs.lemmas.Room.{runs-room, singles, singles-canonical, singles-length, singles-within}

-- ---- the count of runs

-- The greatest count of runs in a type of n values.
abbrev pub most_runs : ℕ → ℕ
most_runs n = min ((n - 1) / 2 + 1) (2 ^ 64 - 1)

pub expects-count : (n : ℕ) (bytes rest : List ℕ) → 0 < n → bytes ≡ header n ++ rest
    → ExpectsNumber n bytes rest 0 (most_runs n)
unfolding bytes_of
expects-count n bytes rest some parts = record {
  read = header n;
  parts = parts;
  past_header = omega arith;
  may = λ count low high.
      let counted : length (singles 0 count) ≡ count = singles-length 0 count in (
        singles 0 count,
        bytes_of_runs 0 (singles 0 count),
        record {
          canonical = record {
            apart = singles-canonical 0 count;
            within = singles-within n 0 count (λ more. omega arith);
          };
          counted = omega arith;
        },
        rw counted refl,
      );
  must = λ runs tail writable is. (
    length runs,
    bytes_of_runs 0 runs,
    omega arith,
    count-most n runs writable,
    sym (append_cancel_left (header n) _ _ is),
  );
  between = λ less. absurd (omega (arith, less));
}
  where
    count-most : (n : ℕ) (runs : List Interval) → IsWritable n runs → length runs ≤ most_runs n
    count-most n [] writable = omega arith
    count-most n (run ∷ runs) writable =
        let room = runs-room n 0 run runs writable.canonical.apart writable.canonical.within in
        let counted = writable.counted in
        omega arith

-- ---- the runs

-- After the count, that many runs are expected.
pub expects-first : (n : ℕ) (bytes rest after : List ℕ) (count : ℕ) → 0 < n → bytes ≡ header n ++ rest
    → count ≤ most_runs n → rest ≡ leb128 count ++ after → ExpectsRuns n bytes after [] None count
unfolding bytes_of
expects-first n bytes rest after count some parts most is = record {
  read = header n ++ leb128 count;
  parts = parts ∙ ap (λ (tail : List ℕ). header n ++ tail) is ∙ sym (append_assoc (header n) (leb128 count) after);
  past_header = omega (arith, length-append (header n) (leb128 count));
  may = λ more continues. (
    record { canonical = record { apart = continues.canonical; within = continues.within }; counted = omega (arith, continues.counted) },
    ap (λ (k : ℕ). header n ++ (leb128 k ++ bytes_of_runs 0 more)) continues.counted
        ∙ sym (append_assoc (header n) (leb128 count) (bytes_of_runs 0 more)),
  );
  must = λ all tail writable whole.
      let rest_is = append_cancel_left (header n) (leb128 (length all) ++ bytes_of_runs 0 all) (leb128 count ++ tail)
      (whole ∙ append_assoc (header n) (leb128 count) tail) in
      let number = one_number (length all) count (bytes_of_runs 0 all) tail rest_is in (
        all,
        refl,
        record { counted = number.0; canonical = writable.canonical.apart; within = writable.canonical.within },
        sym number.1,
      );
  room = λ more. omega arith;
  ended = λ not_none. absurd (not_none refl);
}

module _ (n : ℕ) (bytes rest : List ℕ) (runs : List Interval) (previous : Option ℕ) (count : ℕ)
    (expected : ExpectsRuns n bytes rest runs previous (suc count)) where
  abbrev from : ℕ
  from = from_of previous

  abbrev least : ℕ
  least = least_gap previous

  -- The greatest rank at which the next run may end.
  abbrev reach : ℕ
  reach = n - 1 - 2 * count

  -- The next run, and the shortest runs after it.
  abbrev next_runs : ℕ → ℕ → List Interval
  next_runs first last = from_to first last ∷ singles (last + 2) count

  next-continues : (first last : ℕ) → from + least ≤ first → first ≤ last → last ≤ reach
      → Continues n previous (suc count) (next_runs first last)
  next-continues first last low ordered high =
      let room = expected.room (omega arith) in
      record {
        counted = ap suc (singles-length (last + 2) count);
        canonical = record { starts = low; in_order = ordered; rest = singles-canonical (last + 2) count };
        within = All-cons (λ (run : Interval). run.last < n) (from_to first last) (singles (last + 2) count)
            (omega arith) (singles-within n (last + 2) count (λ some. omega arith));
      }

  -- What the bytes of a set continue with is a run within reach, and more runs.
  pub record IsNext (all : List Interval) (tail : List ℕ) : Type 0 where
    pub run : Interval
    pub others : List Interval
    pub whole : all ≡ runs ++ (run ∷ others)
    pub continues : Continues n previous (suc count) (run ∷ others)
    pub low : from + least ≤ run.first
    pub ordered : run.first ≤ run.last
    pub high : run.last ≤ reach
    pub tail_is : tail ≡ leb128 (run.first - from)
        ++ (leb128 (run.last - run.first) ++ bytes_of_runs (run.last + 1) others)

  next-from : (all : List Interval) (tail : List ℕ) (more : List Interval) → all ≡ runs ++ more
      → Continues n previous (suc count) more → tail ≡ bytes_of_runs from more → IsNext all tail
  next-from all tail [] whole continues tail_is = absurd (omega (arith, continues.counted))
  next-from all tail (run ∷ others) whole continues tail_is =
      let room = runs-room n (from + least) run others continues.canonical continues.within in
      let counted = continues.counted in
      record {
        run = run;
        others = others;
        whole = whole;
        continues = continues;
        low = continues.canonical.starts;
        ordered = continues.canonical.in_order;
        high = omega arith;
        tail_is = tail_is;
      }

  is-next : (all : List Interval) (tail : List ℕ) → IsWritable n all
      → bytes_of n all ≡ expected.read ++ tail → IsNext all tail
  is-next all tail writable is =
      let next = expected.must all tail writable is in
      next-from all tail next.0 next.1 next.2 next.3

  -- The bytes of some set continue with this run.
  pub record MayBe (first last : ℕ) : Type 0 where
    pub all : List Interval
    pub after : List ℕ
    pub writable : IsWritable n all
    pub whole : bytes_of n all ≡ expected.read ++ (leb128 (first - from) ++ (leb128 (last - first) ++ after))

  may-be : (first last : ℕ) → from + least ≤ first → first ≤ last → last ≤ reach → MayBe first last
  may-be first last low ordered high =
      let made = expected.may (next_runs first last) (next-continues first last low ordered high) in
      record {
        all = runs ++ next_runs first last;
        after = bytes_of_runs (last + 1) (singles (last + 2) count);
        writable = made.0;
        whole = made.1;
      }

  -- First comes the gap of the next run.
  pub expects-gap : ExpectsNumber n bytes rest least (reach - from)
  expects-gap = record {
    read = expected.read;
    parts = expected.parts;
    past_header = expected.past_header;
    may = λ gap low high.
        let room = expected.room (omega arith) in
        let made = may-be (from + gap) (from + gap) (omega arith) (omega arith) (omega arith) in
        let same : from + gap - from ≡ gap = omega arith in (
          made.all,
          leb128 (from + gap - (from + gap)) ++ made.after,
          made.writable,
          rw same at made.whole,
        );
    must = λ all tail writable is.
        let next = is-next all tail writable is in
        let low = next.low in
        let ordered = next.ordered in
        let high = next.high in (
          next.run.first - from,
          leb128 (next.run.last - next.run.first) ++ bytes_of_runs (next.run.last + 1) next.others,
          omega arith,
          omega arith,
          next.tail_is,
        );
    between = λ some. expected.ended (not-none previous some);
  }
    where
      not-none : (previous : Option ℕ) → 0 < least_gap previous → previous ≢ None
      not-none None some is = absurd (omega (arith, some))
      not-none (Some last) some is = absurd cc

  module _ (gap : ℕ) (middle : List ℕ) (low : least ≤ gap) (high : gap ≤ reach - from)
      (gap_is : rest ≡ leb128 gap ++ middle) where
    abbrev first : ℕ
    first = from + gap

    middle-parts : bytes ≡ (expected.read ++ leb128 gap) ++ middle
    middle-parts = expected.parts ∙ ap (λ (tail : List ℕ). expected.read ++ tail) gap_is
        ∙ sym (append_assoc expected.read (leb128 gap) middle)

    -- After the gap, the next run starts right past it.
    pub record IsPast (all : List Interval) (tail : List ℕ) : Type 0 where
      pub last : ℕ
      pub others : List Interval
      pub whole : all ≡ runs ++ (from_to first last ∷ others)
      pub continues : Continues n previous (suc count) (from_to first last ∷ others)
      pub ordered : first ≤ last
      pub within : last ≤ reach
      pub tail_is : tail ≡ leb128 (last - first) ++ bytes_of_runs (last + 1) others

    is-past : (all : List Interval) (tail : List ℕ) → IsWritable n all
        → bytes_of n all ≡ (expected.read ++ leb128 gap) ++ tail → IsPast all tail
    is-past all tail writable is =
        let next = is-next all (leb128 gap ++ tail) writable
        (is ∙ append_assoc expected.read (leb128 gap) tail) in
        let number = one_number gap (next.run.first - from) tail
        (leb128 (next.run.last - next.run.first) ++ bytes_of_runs (next.run.last + 1) next.others)
        next.tail_is in
        let starts : next.run.first ≡ first = let low_is = next.low in let gap_same = number.0 in omega arith in
        let run_is : next.run ≡ from_to first next.run.last = ap (λ (k : ℕ). from_to k next.run.last) starts in
        record {
          last = next.run.last;
          others = next.others;
          whole = subst (λ (run : Interval). all ≡ runs ++ (run ∷ next.others)) run_is next.whole;
          continues = subst (λ (run : Interval). Continues n previous (suc count) (run ∷ next.others)) run_is next.continues;
          ordered = let ordered_is = next.ordered in omega arith;
          within = next.high;
          tail_is = rw (← starts) number.1;
        }

    pub expects-length : ExpectsNumber n bytes middle 0 (reach - first)
    expects-length = record {
      read = expected.read ++ leb128 gap;
      parts = middle-parts;
      past_header = omega (arith, length-append expected.read (leb128 gap), expected.past_header);
      may = λ number least_is most_is.
          let room = expected.room (omega arith) in
          let made = may-be first (first + number) (omega arith) (omega arith) (omega arith) in
          let same : first - from ≡ gap = omega arith in
          let length_same : first + number - first ≡ number = omega arith in (
            made.all,
            made.after,
            made.writable,
            rw (same, length_same) at made.whole
                ∙ sym (append_assoc expected.read (leb128 gap) (leb128 number ++ made.after)),
          );
      must = λ all tail writable is.
          let past = is-past all tail writable is in
          let ordered = past.ordered in
          let within = past.within in (
            past.last - first,
            bytes_of_runs (past.last + 1) past.others,
            omega arith,
            omega arith,
            past.tail_is,
          );
      between = λ some. absurd (omega (arith, some));
    }

    -- After the length, the other runs are expected.
    pub expects-others : (number : ℕ) (after : List ℕ) → number ≤ reach - first
        → middle ≡ leb128 number ++ after
        → ExpectsRuns n bytes after (runs ++ (from_to first (first + number) ∷ [])) (Some (first + number)) count
    expects-others number after most number_is =
        let front = expected.read ++ leb128 gap in
        let last = first + number in
        let room = expected.room (omega arith) in
        record {
          read = front ++ leb128 number;
          parts = middle-parts ∙ ap (λ (tail : List ℕ). front ++ tail) number_is
              ∙ sym (append_assoc front (leb128 number) after);
          past_header = omega (arith, length-append expected.read (leb128 gap), length-append front (leb128 number), expected.past_header);
          may = λ more continues.
              let made = expected.may (from_to first last ∷ more) (record {
                counted = ap suc continues.counted;
                canonical = record {
                  starts = omega arith;
                  in_order = omega arith;
                  rest = subst (λ (k : ℕ). IsCanonicalFrom k more) (omega arith) continues.canonical;
                };
                within = All-cons (λ (run : Interval). run.last < n) (from_to first last) more (omega arith) continues.within;
              }) in
              let joined : (runs ++ (from_to first last ∷ [])) ++ more ≡ runs ++ (from_to first last ∷ more)
              = append_assoc runs (from_to first last ∷ []) more in
              let gap_same : first - from ≡ gap = omega arith in
              let length_same : last - first ≡ number = omega arith in (
                subst (IsWritable n) (sym joined) made.0,
                ap (bytes_of n) joined ∙ rw (gap_same, length_same) at made.1
                    ∙ sym (append_assoc expected.read (leb128 gap) (leb128 number ++ bytes_of_runs (last + 1) more))
                    ∙ sym (append_assoc front (leb128 number) (bytes_of_runs (last + 1) more)),
              );
          must = λ all tail writable is.
              let past = is-past all (leb128 number ++ tail) writable (is ∙ append_assoc front (leb128 number) tail) in
              let length_is = one_number number (past.last - first) tail (bytes_of_runs (past.last + 1) past.others) past.tail_is in
              let last_is : past.last ≡ last = let ordered = past.ordered in let same = length_is.0 in omega arith in
              let canonical = past.continues.canonical.rest in (
                past.others,
                rw (← last_is) (past.whole ∙ sym (append_assoc runs (from_to first past.last ∷ []) past.others)),
                record {
                  counted = let counted_is = past.continues.counted in omega arith;
                  canonical = subst (λ (k : ℕ). IsCanonicalFrom k past.others) (omega arith) canonical;
                  within = All-tail (λ (run : Interval). run.last < n) (from_to first past.last) past.others past.continues.within;
                },
                rw (← last_is) length_is.1,
              );
          room = λ some. omega arith;
          ended = λ _. ends_number-after front (leb128 number) (ends_number number);
        }
