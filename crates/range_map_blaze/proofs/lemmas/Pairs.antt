-- Pairs that are put one after the other.
use Rattle.std.proofs.Common.{◌≡◌, ℕ, Bool, true, false, cond, ◌+◌, List, [], ◌∷◌, ◌++◌, Option, Some, None, refl, sym, ap, ◌∙◌, inl, inr, arith}
use Rattle.rsb_integer.specs.Runs.{Interval, covers}
use Rattle.rsb_integer.proofs.lemmas.Members.{covers-cases}
use Rattle.rsb_streams.specs.Items.{GaveRun}
use Rattle.range_map_blaze.specs.Map.{last_value, or_else, value_at, IsMapFrom, IsMapIn, IsMapOf, IsPut, PutsAll}
use Rattle.range_map_blaze.proofs.lemmas.Values.{same-pieces, value-below}

module _ {V : Type 0} where
  or-none : (found : Option V) → or_else found None ≡ found
  or-none None = refl
  or-none (Some value) = refl

  or-or : (first second third : Option V)
      → or_else (or_else first second) third ≡ or_else first (or_else second third)
  or-or None second third = refl
  or-or (Some value) second third = refl

  or-test : (test : Bool) (value : V) (found : Option V)
      → cond test (Some value) found ≡ or_else (cond test (Some value) None) found
  or-test true value found = refl
  or-test false value found = refl

  -- The last piece of a longer list comes first.
  last-push : (pieces : List (Interval × V)) (piece : Interval × V) (rank : ℕ)
      → last_value (pieces ++ piece ∷ []) rank
      ≡ or_else (cond (covers piece.0 rank) (Some piece.1) None) (last_value pieces rank)
  last-push [] piece rank = sym (or-none (cond (covers piece.0 rank) (Some piece.1) None))
  last-push (first ∷ pieces) piece rank =
      ap (λ found. or_else found (cond (covers first.0 rank) (Some first.1) None))
      (last-push pieces piece rank)
      ∙ or-or (cond (covers piece.0 rank) (Some piece.1) None) (last_value pieces rank)
      (cond (covers first.0 rank) (Some first.1) None)

  -- One more piece is put after others.
  pub puts-push : (old added between new : List (Interval × V)) (piece : Interval × V)
      → PutsAll old added between → IsPut (value_at between) (covers piece.0) piece.1 (value_at new)
      → PutsAll old (added ++ piece ∷ []) new
  puts-push old added between new piece before put = record {
    puts = λ rank.
        put rank
        ∙ ap (cond (covers piece.0 rank) (Some piece.1)) (before.puts rank)
        ∙ or-test (covers piece.0 rank) piece.1 (or_else (last_value added rank) (value_at old rank))
        ∙ sym (or-or (cond (covers piece.0 rank) (Some piece.1) None) (last_value added rank)
        (value_at old rank))
        ∙ ap (λ found. or_else found (value_at old rank)) (sym (last-push added piece rank));
  }

  pub puts-none : (old : List (Interval × V)) → PutsAll old [] old
  puts-none old = record { puts = λ rank. refl }

  -- What is put into an empty map is all that it has.
  pub puts-made : (added new : List (Interval × V)) → PutsAll [] added new → IsMapOf added new
  puts-made added new put =
      record { has = λ rank. put.puts rank ∙ or-none (last_value added rank) }

  -- ---- a canonical list that is put into an empty map

  -- No two pieces of a canonical list have a rank, so the last one that has it is the first.
  last-only : (n low : ℕ) (pieces : List (Interval × V)) (rank : ℕ) → IsMapFrom n low pieces
      → last_value pieces rank ≡ value_at pieces rank
  last-only n low [] rank canonical = refl
  last-only n low (piece ∷ pieces) rank canonical =
      let rest = last-only n (piece.0.last + 1) pieces rank canonical.4 in
      elim (covers-cases piece.0 rank) [
        | inl inside ↦
            let high = inside.1 in
            let none = value-below n (piece.0.last + 1) pieces rank canonical.4 (omega (arith, high)) in
            rw (inside.2, rest, none) refl
        | inr outside ↦ rw outside.1 (or-none (last_value pieces rank) ∙ rest)
      ]

  -- A copy of all pieces is the same list.
  pub copied-same : (n : ℕ) (pieces copy : List (Interval × V)) → IsMapIn n pieces → IsMapIn n copy
      → PutsAll [] pieces copy → copy ≡ pieces
  copied-same n pieces copy canonical copied put =
      same-pieces n 0 0 copy pieces copied canonical (λ rank.
      put.puts rank ∙ or-none (last_value pieces rank) ∙ last-only n 0 pieces rank canonical)

-- A fact about all items that a value gave gives any fact that follows from it.
pub gave-weaker : {J I X : Type 0} (becomes : J → I → Type 0) (steps : I → Option X → I → Type 0)
    (value : J) (Fact Other : List X → Type 0) → ((items : List X) → Fact items → Other items)
    → GaveRun becomes steps value Fact → GaveRun becomes steps value Other
gave-weaker becomes steps value Fact Other weaker gave =
    let run = gave.2 in (gave.0, gave.1, (run.0, run.1, run.2, weaker run.0.items run.3))
