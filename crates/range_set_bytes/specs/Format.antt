-- The bytes of a set (docs/FORMAT.md).
use Rattle.std.specs.Prelude.{ℕ, ◌+◌, ◌-◌, ◌<◌, ◌^◌, ◌++◌, List, [], ◌∷◌, length}
use Rattle.rsb_integer.specs.Runs.{Interval, IsCanonicalIn}
use Rattle.range_set_bytes.specs.Leb128.{leb128}
use lib.Count.{count_leading_zeros}

-- The magic number: a byte that occurs in no UTF-8 text, and `RSB`.
abbrev pub magic : List ℕ
magic = 0xF5 ∷ 0x52 ∷ 0x53 ∷ 0x42 ∷ []

-- The number of binary digits of the greatest rank of a type of `n` values, which is at most
-- 2 ^ 128. `laws::bits_suffice` states that this is the least number that suffices for every rank.
abbrev pub bit_count : ℕ → ℕ
bit_count n = 128 - count_leading_zeros 128 (n - 1)

-- What the bytes of each set of a type begin with: the magic number, the version, which is 1, and
-- the number of bits.
abbrev pub header : ℕ → List ℕ
header n = magic ++ (1 ∷ bit_count n ∷ [])

-- The bytes of runs that start at the rank `from` or later. Each run is the number of ranks before
-- it, counted from the end of the one before, and its length less one.
abbrev pub bytes_of_runs : ℕ → List Interval → List ℕ
bytes_of_runs from [] = []
bytes_of_runs from (run ∷ runs) = leb128 (run.first - from)
    ++ (leb128 (run.last - run.first) ++ bytes_of_runs (run.last + 1) runs)

-- The bytes of a set of a type of `n` values, from the list of its runs.
unfoldable pub bytes_of : ℕ → List Interval → List ℕ
bytes_of n runs = header n ++ (leb128 (length runs) ++ bytes_of_runs 0 runs)

-- Whether the list is the runs of a set that has bytes. Only sets of 2 ^ 64 runs or more have none,
-- and no memory holds these.
pub record IsWritable (n : ℕ) (runs : List Interval) : Type 0 where
  pub canonical : IsCanonicalIn n runs
  pub counted : length runs < 2 ^ 64
