-- The first byte at which bytes are not those of a set, and the reason.
use Rattle.std.specs.Prelude.{◌≡◌, ◌≢◌, ℕ, ◌+◌, ◌-◌, ◌<◌, ◌≤◌, ◌++◌, List, [], ◌∷◌, get_or, length, take}
use Rattle.rsb_integer.specs.Runs.{Interval}
use Rattle.range_set_bytes.specs.Format.{bytes_of, IsWritable}
use Rattle.range_set_bytes.specs.declared.fault.Fault.{Fault}
use Rattle.range_set_bytes.specs.declared.fault.Reason.{Reason}
use Rattle.range_set_bytes.specs.declared.fault.Reason.TheVariants.{NotMagic, OtherVersion, OtherWidth, CutShort, NotShortest, Touching, PastGreatest, TooLong}

module _ (n : ℕ) where
  -- Whether the bytes of some set begin with these.
  abbrev pub Begin : List ℕ → Type 0
  Begin bytes = (runs : List Interval) × (more : List ℕ) × IsWritable n runs
      × (bytes_of n runs ≡ bytes ++ more)

  module _ (bytes : List ℕ) where
    -- Whether the byte at this place is the first wrong one. The bytes of some set begin with those
    -- before it, and those of no set begin with these and the byte itself. If the place is the end,
    -- the bytes are those of no set.
    pub record IsFirstWrong (place : ℕ) : Type 0 where
      pub within : place ≤ length bytes
      pub begun : Begin (take place bytes)
      pub stops : place < length bytes → ¬ Begin (take (place + 1) bytes)
      pub ends : place ≡ length bytes → (runs : List Interval) → IsWritable n runs
          → bytes_of n runs ≢ bytes

    -- Whether the byte at this place is wrong for the reason.
    abbrev pub HasReason : Reason → ℕ → Type 0
    HasReason NotMagic place = (place < 4) × (place < length bytes)
    HasReason OtherVersion place = (place ≡ 4) × (place < length bytes)
    HasReason OtherWidth place = (place ≡ 5) × (place < length bytes)
    -- The bytes end too early.
    HasReason CutShort place = place ≡ length bytes
    -- The byte is 0, and the top bit of the one before says that the number goes on.
    HasReason NotShortest place = (place < length bytes) × (get_or bytes place 1 ≡ 0)
        × (128 ≤ get_or bytes (place - 1) 0)
    -- The byte is 0, and the one before ended a number.
    HasReason Touching place = (place < length bytes) × (get_or bytes place 1 ≡ 0)
        × (get_or bytes (place - 1) 128 < 128)
    -- A smaller byte may come at this place.
    HasReason PastGreatest place = (place < length bytes) × (6 ≤ place) × (lower : ℕ)
        × (lower < get_or bytes place 0) × Begin (take place bytes ++ (lower ∷ []))
    -- The bytes before this one are those of a set.
    HasReason TooLong place = (place < length bytes) × (runs : List Interval) × IsWritable n runs
        × (bytes_of n runs ≡ take place bytes)

    -- Whether this is what is wrong with the bytes.
    pub record IsFault (fault : Fault) : Type 0 where
      pub first : IsFirstWrong fault.place
      pub reason : HasReason fault.reason fault.place
