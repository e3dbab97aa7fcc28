-- Two sets have only one order.
use Rattle.std.proofs.Common.{◌≡◌, ℕ, true, ◌≤◌, refl, sym, ◌∙◌, subst, inl, inr, arith}
use Rattle.std.proofs.lemmas.Bool.{cases_lt}
use Rattle.std.specs.declared.cmp.Ordering.{Ordering}
use Rattle.std.specs.declared.cmp.Ordering.TheVariants.{Less, Equal, Greater}
use Rattle.rsb_integer.specs.Selection.{Selection, Agree}
use Rattle.rsb_integer.proofs.lemmas.List.{not_both}
use Rattle.range_set_blaze.specs.Order.{DiffersAt, HasLater, HasOrder, IsLess}
use Rattle.range_set_blaze.specs.laws.Order.{less-not}

-- If two sets agree below a point, the least rank at which they differ is not below it.
differs-from : (n rank point : ℕ) (left right : Selection) → DiffersAt n left right rank
    → Agree point left right → point ≤ rank
differs-from n rank point left right differs all = elim (cases_lt rank point) [
  | inl less ↦
      absurd (not_both (right rank) (sym (all rank less) ∙ differs.here) differs.lacks)
  | inr most ↦ most
]

-- There is only one such rank.
differs-same : (n rank other : ℕ) (left right : Selection) → DiffersAt n left right rank
    → DiffersAt n left right other → rank ≡ other
differs-same n rank other left right differs also =
    let one = differs-from n rank other left right differs also.least in
    let two = differs-from n other rank left right also differs.least in
    omega (arith, one, two)

-- Only one of the sets has it.
differs-apart : (n rank other : ℕ) (left right : Selection) → DiffersAt n left right rank
    → ¬ DiffersAt n right left other
differs-apart n rank other left right differs also =
    let one = differs-from n rank other left right differs
    (λ point below. sym (also.least point below)) in
    let two = differs-from n other rank right left also
    (λ point below. sym (differs.least point below)) in
    let at : rank ≡ other = omega (arith, one, two) in
    not_both (left other) (subst (λ each. left each ≡ true) at differs.here) also.lacks

-- At most one of two sets is less than the other.
less-one : (n : ℕ) (left right : Selection) → IsLess n left right → ¬ IsLess n right left
less-one n left right (inl less) (inl more) =
    differs-apart n less.rank more.rank left right less.differs more.differs
less-one n left right (inl less) (inr more) =
    more.last (subst (HasLater n right)
    (differs-same n less.rank more.rank left right less.differs more.differs) less.later)
less-one n left right (inr less) (inl more) =
    less.last (subst (HasLater n left)
    (differs-same n more.rank less.rank right left more.differs less.differs) more.later)
less-one n left right (inr less) (inr more) =
    differs-apart n less.rank more.rank right left less.differs more.differs

-- So two sets have only one order.
pub order-unique : (n : ℕ) (left right : Selection) (ordering other : Ordering)
    → HasOrder n left right ordering → HasOrder n left right other → ordering ≡ other
order-unique n left right Less Less one two = refl
order-unique n left right Less Equal one two = absurd (less-not n left right one two)
order-unique n left right Less Greater one two = absurd (less-one n left right one two)
order-unique n left right Equal Less one two = absurd (less-not n left right two one)
order-unique n left right Equal Equal one two = refl
order-unique n left right Equal Greater one two =
    absurd (less-not n right left two (λ rank below. sym (one rank below)))
order-unique n left right Greater Less one two = absurd (less-one n left right two one)
order-unique n left right Greater Equal one two =
    absurd (less-not n right left one (λ rank below. sym (two rank below)))
order-unique n left right Greater Greater one two = refl
