-- The pieces that start inside a run, one removed after the other.
use Rattle.std.proofs.Common.{◌≡◌, ℕ, Bool, false, not, ◌==◌, ◌&&◌, ◌+◌, ◌<◌, ◌≤◌, nat_le, nat_lt, length, List, [], ◌∷◌, ap, ◌∙◌, inl, inr, arith}
use Rattle.std.specs.List.{Contains}
use Rattle.std.proofs.lemmas.Bool.{cases_lt}
use Rattle.std.proofs.lemmas.Bool.Decides.{nat_tests}
use Rattle.rsb_integer.specs.Runs.{Interval}
use Rattle.rsb_integer.proofs.lemmas.List.{true_or_false, Contains-cases}
use Rattle.range_map_blaze.specs.Storage.{pieces_starting, without_inside, without_start, IsInside, IsLastBelow, NoneBelow}
use Rattle.range_map_blaze.proofs.lemmas.Cuts.{starting-fails, starting-passes}
use Rattle.range_map_blaze.proofs.lemmas.Starts.{starting-all, starting-starting}

module _ {V : Type 0} where
  -- If no piece starts at or below the last rank, none starts inside.
  pub inside-none : (first last : ℕ) (pieces : List (Interval × V)) → NoneBelow pieces (last + 1)
      → without_inside first last pieces ≡ pieces
  inside-none first last pieces none =
      starting-all (λ start. not (nat_lt first start && nat_le start last)) pieces
      (λ piece found. elim (cases_lt last piece.0.first) [
        | inl past ↦ grind (arith, nat_tests, past)
        | inr to ↦ absurd (none piece found (omega (arith, to)))
      ])

  -- The same holds if the last of them does not start past the first rank.
  pub inside-last : (first last : ℕ) (pieces : List (Interval × V)) (piece : Interval × V)
      → IsLastBelow pieces (last + 1) piece → piece.0.first ≤ first
      → without_inside first last pieces ≡ pieces
  inside-last first last pieces piece below starts =
      starting-all (λ start. not (nat_lt first start && nat_le start last)) pieces
      (λ other found. elim (cases_lt last other.0.first) [
        | inl past ↦ grind (arith, nat_tests, past)
        | inr to ↦
            let from = below.last other found (omega (arith, to)) in
            grind (arith, nat_tests, from, starts)
      ])

  -- A piece that starts inside may be removed first.
  pub inside-removed : (first last start : ℕ) (pieces : List (Interval × V)) → first < start
      → start ≤ last
      → without_inside first last (without_start start pieces) ≡ without_inside first last pieces
  inside-removed first last start pieces past to =
      starting-starting (λ other. not (nat_lt first other && nat_le other last))
      (λ other. not (other == start)) (λ other. not (nat_lt first other && nat_le other last)) pieces
      (λ other. grind (arith, nat_tests, past, to))

  -- A test leaves at most all pieces.
  starting-fewer : (test : ℕ → Bool) (pieces : List (Interval × V))
      → length (pieces_starting test pieces) ≤ length pieces
  starting-fewer test [] = omega arith
  starting-fewer test (piece ∷ pieces) =
      let rest = starting-fewer test pieces in
      elim (true_or_false (test piece.0.first)) [
        | inl passes ↦
            let is = ap length (starting-passes test piece pieces passes) in omega (arith, is, rest)
        | inr fails ↦
            let is = ap length (starting-fails test piece pieces fails) in omega (arith, is, rest)
      ]

  -- Without the piece that starts at a rank there are fewer.
  starting-shorter : (test : ℕ → Bool) (pieces : List (Interval × V)) (piece : Interval × V)
      → Contains pieces piece → test piece.0.first ≡ false
      → length (pieces_starting test pieces) < length pieces
  starting-shorter test [] piece found fails = let none = found.1 in absurd (omega arith)
  starting-shorter test (first ∷ pieces) piece found fails =
      let all = starting-fewer test pieces in
      elim (Contains-cases first pieces piece found) [
        | inl same ↦
            let is = ap length (starting-fails test first pieces
            (ap (λ (each : Interval × V). test each.0.first) same ∙ fails)) in
            omega (arith, is, all)
        | inr later ↦
            let rest = starting-shorter test pieces piece later fails in
            elim (true_or_false (test first.0.first)) [
              | inl passes ↦
                  let is = ap length (starting-passes test first pieces passes) in omega (arith, is, rest)
              | inr not_passes ↦
                  let is = ap length (starting-fails test first pieces not_passes) in
                  omega (arith, is, rest)
            ]
      ]

  pub inside-shorter : (pieces : List (Interval × V)) (first last start : ℕ)
      → IsInside pieces first last start → length (without_start start pieces) < length pieces
  inside-shorter pieces first last start inside =
      let starts = inside.starts in
      starting-shorter (λ other. not (other == start)) pieces inside.piece inside.among
      (grind (arith, nat_tests, starts))
