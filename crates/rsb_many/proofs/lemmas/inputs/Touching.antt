-- Inputs whose lists touch at most.
use Rattle.std.proofs.Common.{ℕ, zero, suc, ◌+◌, ◌<◌, List, [], ◌∷◌, ◌++◌, arith, All}
use Rattle.std.proofs.lemmas.List.Elements.{All-head, All-nil, All-tail, All-weaker}
use Rattle.rsb_integer.specs.Runs.{Interval, IsCanonicalIn}
use Rattle.rsb_streams.specs.Stream.{◌⊆◌, Outcomes}
use Rattle.rsb_streams.specs.Touching.{IsTouching, IsTouchingFrom, IsTouchingIn}
use Rattle.rsb_streams.specs.laws.Touching.{touching-canonical_in, touching-lower}
use Rattle.rsb_many.specs.Many.{may_give_at}

-- What follows the used ranges of a touching list is a touching list.
pub touching-after : (low : ℕ) (used runs : List Interval) → IsTouchingFrom low (used ++ runs)
    → IsTouching runs
touching-after low [] runs touching = touching-lower low 0 runs (omega arith) touching
touching-after low (run ∷ used) runs touching =
    touching-after (run.last + 1) used runs touching.rest

-- If each stream may give only touching lists, so may the stream at each place.
at-touching : {S : Type 0} (n : ℕ) (may_give : S → Outcomes) (streams : List S)
    → All (λ stream. may_give stream ⊆ IsTouchingIn n) streams → (place : ℕ)
    → may_give_at may_give streams place ⊆ IsTouchingIn n
at-touching n may_give [] all place runs is =
    rw is (record { spaced = tt; within = All-nil (λ (run : Interval). run.last < n) })
at-touching n may_give (stream ∷ streams) all zero runs may =
    All-head (λ each. may_give each ⊆ IsTouchingIn n) stream streams all runs may
at-touching n may_give (stream ∷ streams) all (suc place) runs may =
    at-touching n may_give streams
    (All-tail (λ each. may_give each ⊆ IsTouchingIn n) stream streams all) place runs may

-- If ready streams give only touching lists, so does the stream at each place.
pub places-touching : {S : Type 0} (n : ℕ) (can : S → Type 0) (may_give : S → Outcomes)
    (streams : List S)
    → ((stream : S) → can stream → may_give stream ⊆ IsTouchingIn n) → All can streams
    → (place : ℕ) → may_give_at may_give streams place ⊆ IsTouchingIn n
places-touching n can may_give streams touching all = at-touching n may_give streams
    (All-weaker can (λ stream. may_give stream ⊆ IsTouchingIn n) touching streams all)

-- The same holds if ready streams give only canonical lists.
pub canonical-touching : {S : Type 0} (n : ℕ) (can : S → Type 0) (may_give : S → Outcomes)
    (streams : List S)
    → ((stream : S) → can stream → may_give stream ⊆ IsCanonicalIn n) → All can streams
    → (place : ℕ) → may_give_at may_give streams place ⊆ IsTouchingIn n
canonical-touching n can may_give streams canonical =
    places-touching n can may_give streams (λ stream ready runs may.
    touching-canonical_in n runs (canonical stream ready runs may))
