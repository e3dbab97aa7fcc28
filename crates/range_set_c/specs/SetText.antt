-- The text of a set of unsigned numbers, and the sets that text lists.
use Rattle.std.specs.Prelude.{◌≡◌, ◌≢◌, ℕ, pos, ◌^◌, ◌++◌, List, [], ◌∷◌, codes, decimal}
use Rattle.std.specs.Fmt.{comma_space}
use Rattle.std.specs.Int.{FitsUnsignedBits}
use Rattle.std.specs.declared.ops.RangeInclusive.{RangeInclusive}
use Rattle.rsb_integer.specs.Rank.{intervals_of}
use Rattle.rsb_integer.specs.Runs.{Interval, members, IsCanonicalIn}
use Rattle.range_set_blaze.specs.Set.{IsSetOf}
use Rattle.range_set_blaze.specs.Text.{IsFirstUnexpected, Spells}

-- The text of a run: its first and its last value in decimal, with `..=` between them.
abbrev pub text_of_run : Interval → List ℕ
text_of_run run = decimal run.first ++ (codes "..=" ++ decimal run.last)

-- The texts of the runs. The first one comes after `lead`, the others after a comma and a space.
abbrev pub text_after : List ℕ → List Interval → List ℕ
text_after lead [] = []
text_after lead (run ∷ runs) = lead ++ (text_of_run run ++ text_after comma_space runs)

-- The text of a set, such as `1..=5, 10..=20`.
abbrev pub text_of : List Interval → List ℕ
text_of runs = text_after [] runs

module _ (bits : ℕ) (text : List ℕ) where
  -- Whether the text lists the ranges, whose ends are unsigned numbers of that many bits.
  abbrev pub Lists : List (RangeInclusive ℕ) → Type 0
  Lists ranges = Spells (λ (value : ℕ). pos value) (FitsUnsignedBits bits) text ranges

  -- Whether the text lists ranges, and the set has exactly their values. If the text is that of a
  -- set, it is the same set.
  pub record IsRead (set : List Interval) : Type 0 where
    pub ranges : List (RangeInclusive ℕ)
    pub listed : Lists ranges
    pub only : (others : List (RangeInclusive ℕ)) → Lists others
        → IsSetOf set (members (intervals_of (λ value. value) others))
    pub again : (runs : List Interval) → IsCanonicalIn (2 ^ bits) runs → text ≡ text_of runs
        → set ≡ runs

  -- Whether the text does not list ranges, and is not the text of a set.
  pub record IsUnread : Type 0 where
    pub no_list : (ranges : List (RangeInclusive ℕ)) → ¬ Lists ranges
    pub of_no_set : (runs : List Interval) → IsCanonicalIn (2 ^ bits) runs → text ≢ text_of runs

  -- Whether the byte at this place is the first that no list of ranges has there. If the place is
  -- the end of the text, the text ends too early.
  abbrev pub IsUnexpectedAt : ℕ → Type 0
  IsUnexpectedAt place =
      IsFirstUnexpected (λ (value : ℕ). pos value) (FitsUnsignedBits bits) text place
