-- How many runs have room in a type.
use Rattle.std.proofs.Common.{◌≡◌, ℕ, zero, suc, ◌+◌, ◌*◌, ◌<◌, ◌≤◌, List, [], ◌∷◌, length, refl, ap, arith}
use Rattle.std.proofs.lemmas.List.Elements.{All-cons, All-head, All-nil, All-tail}
use Rattle.rsb_integer.specs.Runs.{Interval, from_to, AllEndBelow, IsCanonicalFrom}

-- The shortest runs: each is one rank, with one rank between two of them.
abbrev pub singles : ℕ → ℕ → List Interval
singles low zero = []
singles low (suc count) = from_to low low ∷ singles (low + 2) count

pub singles-length : (low count : ℕ) → length (singles low count) ≡ count
singles-length low zero = refl
singles-length low (suc count) = ap suc (singles-length (low + 2) count)

pub singles-canonical : (low count : ℕ) → IsCanonicalFrom low (singles low count)
singles-canonical low zero = tt
singles-canonical low (suc count) =
    record { starts = omega arith; in_order = omega arith; rest = singles-canonical (low + 2) count }

pub singles-within : (n low count : ℕ) → (0 < count → low + 2 * count ≤ n + 1)
    → AllEndBelow n (singles low count)
singles-within n low zero room = All-nil (λ (run : Interval). run.last < n)
singles-within n low (suc count) room =
    let all : low + 2 * suc count ≤ n + 1 = room (omega arith) in
    All-cons (λ (run : Interval). run.last < n) (from_to low low) (singles (low + 2) count) (omega arith)
    (singles-within n (low + 2) count (λ some. omega arith))

-- Each run takes two ranks at least: one of its own, and one before the next.
pub runs-room : (n low : ℕ) (run : Interval) (runs : List Interval) → IsCanonicalFrom low (run ∷ runs)
    → AllEndBelow n (run ∷ runs) → run.last + 2 * length runs < n
runs-room n low run [] canonical within =
    omega (arith, All-head (λ (run : Interval). run.last < n) run [] within)
runs-room n low run (next ∷ runs) canonical within =
    let rest = runs-room n (run.last + 2) next runs canonical.rest
    (All-tail (λ (run : Interval). run.last < n) run (next ∷ runs) within) in
    let after = canonical.rest.starts in
    let ordered = canonical.rest.in_order in
    omega arith
