-- What operations on streams may give, composed.
use Rattle.std.proofs.Common.{◌≡◌, ℕ, Bool, ◌||◌, List, [], ◌∷◌, refl, sym, ap, ◌∙◌, inl, inr}
use Rattle.std.proofs.Math.Bool.{or_assoc, or_comm}
use Rattle.rsb_integer.specs.Runs.{Interval, covers, members}
use Rattle.rsb_integer.specs.Selection.{union}
use Rattle.rsb_integer.proofs.lemmas.Members.{members-cons}
use Rattle.rsb_integer.proofs.lemmas.Runs.{runs-along}
use Rattle.rsb_streams.specs.Stream.{Outcomes, ◌⊆◌, IsMergeOf, joined_runs, merges, runs_by_two}

-- The first two of three operands of `||` can change places.
or-swap : (head left right : Bool) → (head || (left || right)) ≡ (left || (head || right))
or-swap head left right =
    sym (or_assoc head left right) ∙ ap (λ test. test || right) (or_comm head left)
    ∙ or_assoc left head right

-- A merge has the members of both lists.
pub members-merge : (left right runs : List Interval) (rank : ℕ) → IsMergeOf left right runs
    → members runs rank ≡ union (members left) (members right) rank
members-merge left right [] rank merged = rw (merged.0, merged.1) refl
members-merge left right (run ∷ runs) rank merged = elim merged [
  | inl from_left ↦
      let rest = from_left.0 in
      rw from_left.1 (members-cons run runs rank
      ∙ ap (λ test. covers run rank || test) (members-merge rest right runs rank from_left.2)
      ∙ sym (or_assoc (covers run rank) (members rest rank) (members right rank))
      ∙ sym (ap (λ test. test || members right rank) (members-cons run rest rank)))
  | inr from_right ↦
      let rest = from_right.0 in
      rw from_right.1 (members-cons run runs rank
      ∙ ap (λ test. covers run rank || test) (members-merge left rest runs rank from_right.2)
      ∙ or-swap (covers run rank) (members left rank) (members rest rank)
      ∙ sym (ap (λ test. members left rank || test) (members-cons run rest rank)))
]

-- The joined runs of a merge are the runs of the union.
pub union-of_merge : (n : ℕ) (P Q Merged : Outcomes) → Merged ⊆ merges n P Q
    → joined_runs n Merged ⊆ runs_by_two n union P Q
union-of_merge n P Q Merged merge runs may = λ nothing. may (λ given at all.
    merge given at (λ left right might also merged.
    nothing left right might also
    (runs-along n (members given) (union (members left) (members right)) runs
    (λ rank within. members-merge left right given rank merged.1) all)))
