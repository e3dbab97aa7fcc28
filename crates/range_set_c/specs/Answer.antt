-- What the numbers returned by exports stand for.
use Rattle.std.specs.Prelude.{◌≡◌, ◌⊎◌, ◌<◌, ◌≤◌, ℕ, ℤ, pos, negsuc, zero, suc}
use Rattle.std.specs.declared.cmp.Ordering.{Ordering}
use Rattle.std.specs.declared.cmp.Ordering.TheVariants.{Less, Equal, Greater}

-- ---- what a call that changes or makes a set returns (`src/status.rt` has the numbers)

-- Whether the number is one that such a call returns.
abbrev pub IsStatus : ℕ → Type 0
IsStatus status = status ≤ 2

-- Whether the set was already as requested.
abbrev pub IsUnchanged : ℕ → Type 0
IsUnchanged status = status ≡ 0

-- Whether the set is only now as requested, or whether the requested set was made.
abbrev pub IsChanged : ℕ → Type 0
IsChanged status = status ≡ 1

-- Whether an allocation failed.
abbrev pub IsRefused : ℕ → Type 0
IsRefused status = status ≡ 2

-- Whether the text does not list ranges.
abbrev pub IsBadText : ℕ → Type 0
IsBadText status = status ≡ 3

-- Whether the buffer is too small for the text.
abbrev pub HasNoRoom : ℕ → Type 0
HasNoRoom status = status ≡ 4

-- Whether the set is now as requested.
abbrev pub Succeeds : ℕ → Type 0
Succeeds status = status < 2

-- ---- what a comparison of two sets returns

-- The order that a negative number, 0 or a positive number stands for.
abbrev pub order_of_number : ℤ → Ordering
order_of_number (negsuc n) = Less
order_of_number (pos zero) = Equal
order_of_number (pos (suc n)) = Greater

-- Whether the number is one that exports return for an order: -1, 0 or 1.
abbrev pub IsOrderNumber : ℤ → Type 0
IsOrderNumber told = (told ≡ negsuc 0) ⊎ (told ≡ pos 0) ⊎ (told ≡ pos 1)
