-- Checked streams that were just built.
use Rattle.std.proofs.Common.{◌≡◌, ℕ, ◌<◌, ◌≤◌, true, false, cond, nat_le, [], ◌∷◌, sym, ap, subst, arith}
use Rattle.std.proofs.lemmas.Bool.Decides.{nat_tests}
use Rattle.std.proofs.lemmas.List.Elements.{All-cons, All-nil}
use Rattle.std.specs.declared.iter.Fuse.{Fuse}
use Rattle.std.specs.Iterator.Adapters.{fuse_done, fuse_source}
use Rattle.rsb_integer.specs.Runs.{Interval, IsCanonicalIn, HasNoRanks}
use Rattle.rsb_streams.specs.Fused.{fuse_can_next, fuse_may_give}
use Rattle.rsb_streams.specs.Stream.{Outcomes, ◌⊆◌, run_if_any, outcomes_unless}

-- An empty interval gives the empty list.
pub none-if_empty : (run : Interval) → HasNoRanks run → run_if_any run ≡ []
none-if_empty run empty =
    let test : nat_le run.first run.last ≡ false = grind (arith, nat_tests) in
    ap (λ each. cond each (run ∷ []) []) test

-- A non-empty interval gives the list of only that interval.
pub one-if_some : (run : Interval) → run.first ≤ run.last → run_if_any run ≡ run ∷ []
one-if_some run ordered =
    let test : nat_le run.first run.last ≡ true = grind (arith, nat_tests) in
    ap (λ each. cond each (run ∷ []) []) test

-- A single non-empty interval within the type is canonical.
pub one-canonical : (n : ℕ) (run : Interval) → run.first ≤ run.last → run.last < n
    → IsCanonicalIn n (run ∷ [])
one-canonical n run ordered below = record {
  apart = record { starts = omega arith; in_order = ordered; rest = tt };
  within = All-cons (λ (each : Interval). each.last < n) run [] below
      (All-nil (λ (each : Interval). each.last < n));
}

-- A stream that was just put into a `Fuse`.
module _ {S : Type 0} (source : S) (s : Fuse S) (is : fuse_source s ≡ source)
    (undone : fuse_done s ≡ false) where
  -- It may be called if the stream may be called.
  pub fused-can : (can_next : S → Type 0) → can_next source → fuse_can_next can_next s
  fused-can can_next can = λ _. subst can_next (sym is) can

  -- It gives only what the stream may give.
  pub fused-may : (may_give : S → Outcomes) → fuse_may_give may_give s ⊆ may_give source
  fused-may may_give runs at =
      subst (λ each. may_give each runs) is
      (subst (λ each. outcomes_unless each (may_give (fuse_source s)) runs) undone at)
