-- What reading does to the bytes of a reader, if they are known.
use Rattle.std.specs.Prelude.{◌≡◌, ◌≢◌, ℕ, ◌+◌, ◌-◌, ◌≤◌, ◌++◌, List, [], IfSome, None, Option, Some, drop, length, slice_get}
use Rattle.rsb_integer.specs.Runs.{Interval}
use Rattle.range_set_bytes.specs.BadNumber.{IsBadNumber}
use Rattle.range_set_bytes.specs.Fault.{IsFault}
use Rattle.range_set_bytes.specs.Format.{bytes_of, IsWritable}
use Rattle.range_set_bytes.specs.Leb128.{leb128}
use Rattle.range_set_bytes.specs.Reading.{BeginsWithRun, ExpectsNumber, ExpectsRuns, HasRun, reason_of}
use Rattle.range_set_bytes.specs.declared.fault.Fault.{Fault}
use Rattle.range_set_bytes.specs.declared.numbers.BadNumber.{BadNumber}

-- Whether this is the first byte, or `None` if there is none. The limit allows to consume it.
pub record Shows (known : Option (List ℕ)) (limit : Option ℕ) (next : Option ℕ) : Type 0 where
  pub byte : IfSome known (λ bytes. slice_get bytes 0 ≡ next)
  pub ready : IfSome known (λ _. IfSome next (λ _. IfSome limit (λ most. 1 ≤ most)))

module _ (bytes : List ℕ) (now : Option (List ℕ)) where
  -- Whether a reader that had these bytes is past the first of them.
  abbrev pub IsPast : Type 0
  IsPast = (count : ℕ) × (now ≡ Some (drop count bytes))

  -- Whether the bytes begin with the number, and the reader is past it.
  pub record HasNumber (number : ℕ) : Type 0 where
    pub after : List ℕ
    pub parts : bytes ≡ leb128 number ++ after
    pub left : now ≡ Some after

  -- Whether the bytes do not begin with a number from `least` to `most`, the fault is that of a
  -- number of which the bytes from `start` to `place` come before them, and the reader is at the
  -- first byte that makes it so.
  pub record StopsAtNumber (least most start place : ℕ) (fault : Fault) : Type 0 where
    pub bad : BadNumber
    pub is_bad : IsBadNumber least most bytes bad
    pub placed : fault.place ≡ place + bad.taken
    pub reason : fault.reason ≡ reason_of bad.wrong (place - start + bad.taken)
    pub left : now ≡ Some (drop bad.taken bytes)

  -- Whether the bytes do not begin with those of a set, the fault is what is wrong with them, and
  -- the reader is at the first wrong one.
  pub record StopsAt (n : ℕ) (fault : Fault) : Type 0 where
    pub alone : (runs : List Interval) (more : List ℕ) → IsWritable n runs
        → bytes ≢ bytes_of n runs ++ more
    pub fault_is : IsFault n bytes fault
    pub left : now ≡ Some (drop fault.place bytes)

  -- Whether the reader is at this position of the bytes, and a number from `least` to `most` is to
  -- come next.
  pub record ReadsNumber (n place least most : ℕ) : Type 0 where
    pub rest : List ℕ
    pub left : now ≡ Some rest
    pub before : place + length rest ≡ length bytes
    pub expected : ExpectsNumber n bytes rest least most

  -- Whether the reader is at this position of the bytes, past those of `runs`, the last of which
  -- ends at `previous`, and `count` more runs are to come.
  pub record ReadsRuns (n place : ℕ) (runs : List Interval) (previous : Option ℕ) (count : ℕ)
      : Type 0 where
    pub rest : List ℕ
    pub left : now ≡ Some rest
    pub before : place + length rest ≡ length bytes
    pub expected : ExpectsRuns n bytes rest runs previous count

  -- Whether the reader is past the header and the count, and that many runs are to come.
  pub record HasCount (n place count : ℕ) : Type 0 where
    pub reads : ReadsRuns n place [] None count
    pub begins : BeginsWithRun reads.rest → HasRun n bytes
