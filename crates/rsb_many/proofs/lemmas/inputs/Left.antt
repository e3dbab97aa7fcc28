-- How many items many inputs have left, once one of them has fewer.
use Rattle.std.proofs.Common.{◌≡◌, inl, inr, ℕ, zero, suc, pred, ◌+◌, ◌<◌, ◌≤◌, length, refl, sym, ap, subst, ◌∙◌, arith}
use Rattle.std.specs.Iterator.{Count, count_add, size, IsFinite}
use Rattle.rsb_integer.proofs.lemmas.List.{true_or_false}
use Rattle.rsb_integer.specs.declared.integer.Integer.{Ghosts as Elements}
use Rattle.rsb_streams.specs.declared.draw.Draw.{Ghosts as Stream}
use Rattle.rsb_many.specs.Inputs.{inputs_left, left_at, sum_below, Inputs}

-- Whether a count that is finite stays finite and decreases by at least `amount`.
abbrev pub LessBy : ℕ → Count → Count → Type 0
LessBy amount old new = IsFinite old → IsFinite new × (size new + amount ≤ size old)

-- The same of equal counts.
pub less-as : (amount : ℕ) (old new first second : Count) → old ≡ first → new ≡ second
    → LessBy amount first second → LessBy amount old new
less-as amount old new first second old_is new_is less =
    subst (λ each. LessBy amount each new) (sym old_is)
    (subst (λ each. LessBy amount first each) (sym new_is) less)

-- If the first of two counts decreases, so does their sum.
less-first : (amount : ℕ) (old new rest : Count) → LessBy amount old new
    → LessBy amount (count_add old rest) (count_add new rest)
less-first amount old new rest less finite = elim (true_or_false old.bounded) [
  | inl bounded ↦
      let first = less (rw bounded tt) in
      elim (true_or_false new.bounded) [
        | inl stays ↦ (rw stays (rw bounded at finite), omega (arith, first.1))
        | inr endless ↦ absurd (rw endless at first.0)
      ]
  | inr endless ↦ absurd (rw endless at finite)
]

-- If the second decreases, so does their sum.
less-second : (amount : ℕ) (first old new : Count) → LessBy amount old new
    → LessBy amount (count_add first old) (count_add first new)
less-second amount first old new less finite = elim (true_or_false first.bounded) [
  | inl bounded ↦
      let second = less (rw bounded at finite) in
      (rw bounded second.0, omega (arith, second.1))
  | inr endless ↦ absurd (rw endless at finite)
]

-- If the counts at all places are the same, so is their sum.
sum_below-same : (count : ℕ) (old new : ℕ → Count) → ((place : ℕ) → new place ≡ old place)
    → sum_below count new ≡ sum_below count old
sum_below-same zero old new same = refl
sum_below-same (suc count) old new same =
    ap (λ each. count_add each (sum_below count (λ place. new (suc place)))) (same zero)
    ∙ ap (λ each. count_add (old zero) each)
    (sum_below-same count (λ place. old (suc place)) (λ place. new (suc place))
    (λ place. same (suc place)))

-- If the count at one place decreases by an amount, and those at the others are the same, the sum
-- decreases by it.
sum_below-less : (amount count place : ℕ) (old new : ℕ → Count) → place < count
    → ((other : ℕ) → ¬ (other ≡ place) → new other ≡ old other)
    → LessBy amount (old place) (new place)
    → LessBy amount (sum_below count old) (sum_below count new)
sum_below-less amount zero place old new within same less = absurd (omega (arith, within))
sum_below-less amount (suc count) zero old new within same less =
    let olds = λ (other : ℕ). old (suc other) in
    let news = λ (other : ℕ). new (suc other) in
    subst (λ each. LessBy amount (sum_below (suc count) old) (count_add (new zero) each))
    (sym (sum_below-same count olds news
    (λ other. same (suc other) (λ zero_is. absurd (omega (arith, zero_is))))))
    (less-first amount (old zero) (new zero) (sum_below count olds) less)
sum_below-less amount (suc count) (suc place) old new within same less =
    let olds = λ (other : ℕ). old (suc other) in
    let news = λ (other : ℕ). new (suc other) in
    subst (λ each. LessBy amount (sum_below (suc count) old) (count_add each (sum_below count news)))
    (sym (same zero (λ zero_is. absurd (omega (arith, zero_is)))))
    (less-second amount (old zero) (sum_below count olds) (sum_below count news)
    (sum_below-less amount count place olds news (omega (arith, within))
    (λ other differs. same (suc other) (λ is. differs (ap pred is))) less))

-- If an input has fewer items left by an amount, and the others as many as before, that amount less
-- is left of all inputs.
pub inputs_left-less : {T N S : Type 0} (integer : Elements T N) (stream : Stream S T N)
    (amount each place : ℕ) (s t : Inputs T S) → length t.streams ≡ length s.streams → place < length s.streams
    → ((other : ℕ) → ¬ (other ≡ place)
    → left_at integer stream each t other ≡ left_at integer stream each s other)
    → LessBy amount (left_at integer stream each s place) (left_at integer stream each t place)
    → LessBy amount (inputs_left integer stream each s) (inputs_left integer stream each t)
inputs_left-less integer stream amount each place s t long within same less =
    subst (λ count. LessBy amount (inputs_left integer stream each s)
    (sum_below count (left_at integer stream each t))) (sym long)
    (sum_below-less amount (length s.streams) place (left_at integer stream each s)
    (left_at integer stream each t) within same less)
