-- Tests of two streams whose lists are known.
use Rattle.std.proofs.Common.{◌≡◌, ◌↔◌, ℕ, ◌<◌, Bool, true, List}
use Rattle.rsb_integer.specs.Runs.{Interval, members}
use Rattle.rsb_streams.proofs.lemmas.calling.Results.{settled-same}
use Rattle.rsb_streams.specs.Stream.{SomeOutcomes, just}

-- Whether each member of the left list is a member of the right one, or none is, as `wanted` says.
abbrev pub AllAnswer : ℕ → Bool → List Interval → List Interval → Type 0
AllAnswer n wanted left right = (rank : ℕ) → rank < n → members left rank ≡ true
    → members right rank ≡ wanted

-- If two streams may each give only one list, a test of what they may give is a test of these
-- lists.
pub known-test : (n : ℕ) (wanted : Bool) (left right : List Interval) (test : Bool)
    → SomeOutcomes (just left) (just right)
    (λ these those. (test ≡ true) ↔ AllAnswer n wanted these those)
    → (test ≡ true) ↔ AllAnswer n wanted left right
known-test n wanted left right test some = (
  (λ passes rank below here. settled-same (members right rank) wanted (λ fails.
      some (λ these those is also told. fails ((rw (is, also) at told).0 passes rank below here)))),
  (λ all. settled-same test true (λ fails.
      some (λ these those is also told. fails ((rw (is, also) at told).1 all)))),
)
