-- What is wrong with bytes that are not those of a set.
use Rattle.std.specs.Prelude.{◌≡◌, ℕ, List}
use Rattle.range_set_bytes.specs.Fault.{IsFault}
use Rattle.range_set_bytes.specs.declared.fault.Fault.{Fault}
use Rattle.range_set_bytes.specs.declared.fault.Reason.{Reason}
use Rattle.range_set_bytes.specs.declared.fault.Reason.TheVariants.{NotMagic, OtherVersion, OtherWidth, CutShort, NotShortest, Touching, PastGreatest, TooLong}

-- Whether bytes are not those of a set.
abbrev pub IsBadBytes : ℕ → Type 0
IsBadBytes status = status ≡ 5

-- The number of a reason (`enum rsb_reason` of the header).
abbrev pub number_of_reason : Reason → ℕ
number_of_reason NotMagic = 1
number_of_reason OtherVersion = 2
number_of_reason OtherWidth = 3
number_of_reason CutShort = 4
number_of_reason NotShortest = 5
number_of_reason Touching = 6
number_of_reason PastGreatest = 7
number_of_reason TooLong = 8

-- Whether the byte at this place is the first wrong one, for the reason with this number.
pub record IsWrongAt (n : ℕ) (bytes : List ℕ) (place reason : ℕ) : Type 0 where
  pub fault : Fault
  pub is : IsFault n bytes fault
  pub placed : place ≡ fault.place
  pub numbered : reason ≡ number_of_reason fault.reason
