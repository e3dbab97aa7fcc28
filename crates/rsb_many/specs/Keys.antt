-- Keys: the starts and ends of ranges of inputs, and the order in which a sweep meets them.
use Rattle.std.specs.Prelude.{ℕ, Bool, true, false, not, ◌&&◌, cond, nat_lt}

-- The rank where a range of an input starts, or where it ends.
pub record Key : Type 0 where
  pub at : ℕ
  pub is_end : Bool
  pub input : ℕ

-- Whether one key comes before another: by rank, then a start before an end, then by input.
abbrev pub comes_before : Key → Key → Bool
comes_before one other =
    cond (nat_lt one.at other.at) true
    (cond (nat_lt other.at one.at) false
    (cond (not one.is_end && other.is_end) true
    (cond (one.is_end && not other.is_end) false
    (nat_lt one.input other.input))))
