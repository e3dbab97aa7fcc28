-- A rank lies in only one run or gap, with one first and one last value. A set has one number of
-- runs.
use Rattle.std.proofs.Common.{◌≡◌, ◌∙◌, ℕ, Bool, ◌+◌, ◌-◌, ◌<◌, IsTrue, IsFalse, length, refl, sym, ap, subst, arith}
use Rattle.rsb_integer.specs.Runs.{Interval, from_to}
use Rattle.rsb_integer.specs.Selection.{Selection, complement}
use Rattle.rsb_integer.proofs.lemmas.Members.{covers-bounds, covers-inside}
use Rattle.rsb_integer.proofs.lemmas.Runs.{runs-same}
use Rattle.range_set_blaze.specs.Set.{IsRunAround}
use Rattle.rsb_commands.specs.Interpreter.{piece, whichever, HasRuns, IsPieceAround}

-- No flag is both true and false.
not_both : (is : Bool) → IsTrue is → IsFalse is → ⊥
not_both is has lacks = absurd cc

module _ (n : ℕ) (selected : Selection) (rank : ℕ) (run other : Interval)
    (around : IsRunAround n selected rank run) (also : IsRunAround n selected rank other) where
  -- The other run around the rank starts no later.
  starts_no_later : ¬ (run.first < other.first)
  starts_no_later later =
      let bounds = covers-bounds run rank around.around in
      let other_bounds = covers-bounds other rank also.around in
      not_both (selected (other.first - 1))
      (around.maximal.whole (other.first - 1)
      (covers-inside run (other.first - 1) (omega (arith, later))
      (omega (arith, later, bounds.1, other_bounds.0))))
      (also.maximal.begins_here (omega (arith, later)))

  -- The other run around the rank ends no later.
  ends_no_later : ¬ (run.last < other.last)
  ends_no_later later =
      let bounds = covers-bounds run rank around.around in
      let other_bounds = covers-bounds other rank also.around in
      not_both (selected (run.last + 1))
      (also.maximal.whole (run.last + 1)
      (covers-inside other (run.last + 1) (omega (arith, bounds.1, other_bounds.0))
      (omega (arith, later))))
      (around.maximal.ends_here (omega (arith, later, also.maximal.in_type)))

module _ {T : Type 0} (rank : T → ℕ) (value_count : ℕ)
    (one_place : (x y : T) → rank x < value_count → rank x ≡ rank y → x ≡ y) where
  -- There is only one run or gap around a rank, with one first and one last value.
  pub one_piece : (set : Selection) (at : ℕ) (first last start end : T) (present other : Bool)
      → IsPieceAround rank value_count set at first last present
      → IsPieceAround rank value_count set at start end other
      → piece first last present ≡ piece start end other
  one_piece set at first last start end present other is also =
      let same : other ≡ present = also.found ∙ sym is.found in
      let selected = whichever present set (complement set) in
      let run = from_to (rank first) (rank last) in
      let found = from_to (rank start) (rank end) in
      let around = subst (λ which. IsRunAround value_count
      (whichever which set (complement set)) at found) same also.around in
      let ordered = is.around.maximal.in_order in
      let below = is.around.maximal.in_type in
      let no_later = starts_no_later value_count selected at run found is.around around in
      let no_earlier = starts_no_later value_count selected at found run around is.around in
      let no_further = ends_no_later value_count selected at run found is.around around in
      let no_less = ends_no_later value_count selected at found run around is.around in
      let first_same = one_place first start (omega (arith, ordered, below))
      (omega (arith, no_later, no_earlier)) in
      let last_same = one_place last end (omega (arith, below))
      (omega (arith, no_further, no_less)) in
      λ i. piece (first_same i) (last_same i) (sym same i)

  -- A set has only one number of runs.
  pub one_many : (set : Selection) (many more : ℕ) → HasRuns rank value_count set many
      → HasRuns rank value_count set more → many ≡ more
  one_many set many more is also =
      let same = runs-same value_count set set is.all also.all is.are also.are
      (λ at below. refl) in
      is.counted ∙ ap length same ∙ sym also.counted
