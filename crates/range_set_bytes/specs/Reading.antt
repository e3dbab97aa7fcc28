-- What may come next while the bytes of a set are read.
use Rattle.std.specs.Prelude.{◌≡◌, ◌≢◌, ℕ, ◌+◌, ◌-◌, ◌*◌, ◌<◌, ◌≤◌, ◌++◌, zero, suc, List, Option, Some, None, get_or, length}
use Rattle.rsb_integer.specs.Runs.{Interval, AllEndBelow, IsCanonicalFrom}
use Rattle.range_set_bytes.specs.Format.{bytes_of, bytes_of_runs, header, IsWritable}
use Rattle.range_set_bytes.specs.Leb128.{leb128}
use Rattle.range_set_bytes.specs.declared.fault.Reason.{Reason}
use Rattle.range_set_bytes.specs.declared.fault.Reason.TheVariants.{CutShort, NotShortest, PastGreatest, Touching}
use Rattle.range_set_bytes.specs.declared.numbers.Wrong.{Wrong}
use Rattle.range_set_bytes.specs.declared.numbers.Wrong.TheVariants.{Ended, Large, Zero}

-- What is wrong with bytes, if this is wrong with a number after `taken` of its bytes.
abbrev pub reason_of : Wrong → ℕ → Reason
reason_of Ended taken = CutShort
reason_of Large taken = PastGreatest
reason_of Zero zero = Touching
reason_of Zero (suc taken) = NotShortest

-- The rank from which the gap of the next run is counted, after the last rank of the run before.
abbrev pub from_of : Option ℕ → ℕ
from_of None = 0
from_of (Some last) = last + 1

-- The least gap of the next run: only the first one may be 0.
abbrev pub least_gap : Option ℕ → ℕ
least_gap None = 0
least_gap (Some last) = 1

-- Whether the last of the bytes read so far ends a number.
abbrev pub EndsNumber : List ℕ → Type 0
EndsNumber read = (0 < length read) × (get_or read (length read - 1) 128 < 128)

-- Whether these are the given number of runs, and may follow a run that ends at `previous`.
pub record Continues (n : ℕ) (previous : Option ℕ) (count : ℕ) (more : List Interval) : Type 0
  where
    pub counted : length more ≡ count
    pub canonical : IsCanonicalFrom (from_of previous + least_gap previous) more
    pub within : AllEndBelow n more

module _ (n : ℕ) (bytes : List ℕ) where
  -- Whether `rest` is the end of the bytes, and a number from `least` to `most` is to come next: the
  -- bytes before `rest` may go on with any of these, and with nothing else.
  pub record ExpectsNumber (rest : List ℕ) (least most : ℕ) : Type 0 where
    pub read : List ℕ
    pub parts : bytes ≡ read ++ rest
    pub past_header : 6 ≤ length read
    pub may : (number : ℕ) → least ≤ number → number ≤ most → (runs : List Interval)
        × (tail : List ℕ) × IsWritable n runs
        × (bytes_of n runs ≡ read ++ (leb128 number ++ tail))
    pub must : (runs : List Interval) (tail : List ℕ) → IsWritable n runs
        → bytes_of n runs ≡ read ++ tail → (number : ℕ) × (after : List ℕ)
        × (least ≤ number) × (number ≤ most) × (tail ≡ leb128 number ++ after)
    pub between : 0 < least → EndsNumber read

  -- Whether the bytes before `rest` are read as `runs`, the last of which ends at `previous`, and
  -- `count` more runs are to come.
  pub record ExpectsRuns (rest : List ℕ) (runs : List Interval) (previous : Option ℕ) (count : ℕ)
      : Type 0 where
    pub read : List ℕ
    pub parts : bytes ≡ read ++ rest
    pub past_header : 6 ≤ length read
    pub may : (more : List Interval) → Continues n previous count more
        → IsWritable n (runs ++ more)
        × (bytes_of n (runs ++ more) ≡ read ++ bytes_of_runs (from_of previous) more)
    pub must : (all : List Interval) (tail : List ℕ) → IsWritable n all
        → bytes_of n all ≡ read ++ tail → (more : List Interval) × (all ≡ runs ++ more)
        × Continues n previous count more × (tail ≡ bytes_of_runs (from_of previous) more)
    pub room : 0 < count → from_of previous + least_gap previous + 2 * count ≤ n + 1
    pub ended : previous ≢ None → EndsNumber read

  -- Whether that many runs are expected after some runs.
  abbrev pub IsExpected : List ℕ → Option ℕ → ℕ → Type 0
  IsExpected rest previous count = (runs : List Interval) × ExpectsRuns rest runs previous count

-- Whether bytes begin with the two numbers of a run.
abbrev pub BeginsWithRun : List ℕ → Type 0
BeginsWithRun rest = (gap more : ℕ) × (after : List ℕ)
    × (rest ≡ leb128 gap ++ (leb128 more ++ after))

-- Whether bytes begin as those of a set and go on with the two numbers of a run.
abbrev pub HasRun : ℕ → List ℕ → Type 0
HasRun n bytes = (count : ℕ) × (rest : List ℕ)
    × (bytes ≡ header n ++ (leb128 count ++ rest)) × BeginsWithRun rest
