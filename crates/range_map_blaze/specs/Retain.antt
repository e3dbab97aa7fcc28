-- What `retain` and `ranges_retain` of a map keep.
use Rattle.std.specs.Prelude.{◌≡◌, ℕ, Bool, cond, ◌<◌, ◌≤◌, Option, Some, None, IsTrue}
use Rattle.std.specs.Fn.{AlwaysReturns, Mut}
use Rattle.std.specs.Option.{is_some}
use Rattle.std.specs.declared.ops.RangeInclusive.{RangeInclusive}
use denote.Ref.{Bor}
use Rattle.rsb_integer.specs.Rank.{interval_of}
use Rattle.rsb_integer.specs.Runs.{Interval}

-- Whether each call, starting with the closure `f`, returns what `keeps` gives for the rank of the key
-- and for what contracts see of the value. This covers only keys whose rank is below n.
abbrev pub AnswersByPair : {F T V : Type 0} → (T → ℕ) → ℕ → (V → V)
    → Mut F (Bor T × (Bor V × Unit {0})) Bool → (ℕ → V → Bool) → F → Type 0
AnswersByPair rank n seen g keeps = AlwaysReturns g (λ a r.
    rank a.0.now < n → r ≡ keeps (rank a.0.now) (seen a.1.0.now))

-- Whether each call, starting with the closure `f`, returns what `keeps` gives for the interval of the
-- range and for what contracts see of the value. This covers only ranges that are non-empty and within
-- the type.
abbrev pub AnswersByPiece : {F T V : Type 0} → (T → ℕ) → ℕ → (V → V)
    → Mut F (Bor (RangeInclusive T) × (Bor V × Unit {0})) Bool → (Interval × V → Bool) → F → Type 0
AnswersByPiece rank n seen g keeps = AlwaysReturns g (λ a r.
    (interval_of rank a.0.now).first ≤ (interval_of rank a.0.now).last
    → (interval_of rank a.0.now).last < n
    → r ≡ keeps (interval_of rank a.0.now, seen a.1.0.now))

module _ {V : Type 0} where
  -- A value for which a test is true.
  abbrev pub if_kept : (V → Bool) → Option V → Option V
  if_kept test None = None
  if_kept test (Some value) = cond (test value) (Some value) None

  -- Whether the function has only values that the other one has at the same rank.
  abbrev pub IsPartOf : (ℕ → Option V) → (ℕ → Option V) → Type 0
  IsPartOf part whole = (rank : ℕ) → IsTrue (is_some (part rank)) → part rank ≡ whole rank

  -- Whether the new function has the values of the old one for which a test is true.
  abbrev pub IsKept : (ℕ → V → Bool) → (ℕ → Option V) → (ℕ → Option V) → Type 0
  IsKept keeps old new = (rank : ℕ) → new rank ≡ if_kept (keeps rank) (old rank)
