-- The comparisons of sets satisfy their laws. This file is in `specs/` because a law must not cite
-- `proofs/`.
use Rattle.std.specs.Prelude.{◌≡◌, ◌⊎◌, ℕ, zero, suc, Bool, true, false, cond, ◌+◌, ◌<◌, List, [], ◌∷◌, Some}
use Rattle.std.specs.Cmp.{IsEquivalence, IsPartialEquivalence, IsPartialOrder, IsTotalOrder, both_ways, eq_by_cmp_equiv, on_total, partial_equiv_from_equiv, po}
use Rattle.std.specs.Cmp.Lexicographic.{slice_cmp, nat_list_cmp_total}
use Rattle.std.specs.Ordering.{is_eq, nat_cmp, eq_by_cmp}
use Rattle.std.specs.declared.cmp.Ordering.{Ordering}
use Rattle.std.specs.declared.cmp.Ordering.TheVariants.{Less, Equal, Greater}
use Rattle.std.proofs.Common.{refl, sym, ◌∙◌, subst, inl, inr, arith}
use Rattle.std.proofs.lemmas.Bool.{cases_lt}
use Rattle.std.proofs.lemmas.Bool.Decides.{nat_tests}
use Rattle.rsb_integer.specs.Runs.{Interval, members}
use Rattle.rsb_integer.specs.Selection.{Selection, Agree, exclusive_or}
use Rattle.range_set_blaze.specs.Order.{agree_below, elements_from, order, DiffersAt, HasLater, IsLess, HasOrder}

-- ---- tests

-- A test passes or fails.
true_or_false : (test : Bool) → (test ≡ true) ⊎ (test ≡ false)
true_or_false true = inl refl
true_or_false false = inr refl

-- No test both passes and fails.
not_both : (test : Bool) → test ≡ true → test ≡ false → ⊥
not_both test holds fails = absurd (cc)

-- The order of two numbers.
pub nat_cmp-less : (a b : ℕ) → a < b → nat_cmp a b ≡ Less
nat_cmp-less a b less = grind (arith, nat_tests)

pub nat_cmp-greater : (a b : ℕ) → a < b → nat_cmp b a ≡ Greater
nat_cmp-greater a b less = grind (arith, nat_tests)

pub nat_cmp-same : (a : ℕ) → nat_cmp a a ≡ Equal
nat_cmp-same a = grind (arith, nat_tests)

-- ---- `==`

-- Two tests that do not differ are the same.
exclusive-same : (a b : Bool) → exclusive_or a b ≡ false → a ≡ b
exclusive-same true true differ = refl
exclusive-same true false differ = absurd (cc)
exclusive-same false true differ = absurd (cc)
exclusive-same false false differ = refl

-- A test does not differ from itself.
exclusive-self : (a : Bool) → exclusive_or a a ≡ false
exclusive-self true = refl
exclusive-self false = refl

-- If `cond test false other` is true, the test fails and `other` is true.
cond-false : (test other : Bool) → cond test false other ≡ true → (test ≡ false) × (other ≡ true)
cond-false true other is = absurd (cc)
cond-false false other is = (refl, is)

-- Sets that agree at a rank and below it agree below the next rank.
agree-more : (n : ℕ) (left right : Selection) → Agree n left right → left n ≡ right n
    → Agree (suc n) left right
agree-more n left right below here rank within = elim (cases_lt rank n) [
  | inl less ↦ below rank less
  | inr most ↦
      let at : n ≡ rank = omega arith in
      subst (λ each. left each ≡ right each) at here
]

-- `agree_below` is true of sets that agree.
pub agree-same : (n : ℕ) (left right : Selection) → Agree n left right
    → agree_below n left right ≡ true
unfolding agree_below
agree-same zero left right all = refl
agree-same (suc n) left right all =
    rw (all n (omega arith), exclusive-self)
    (agree-same n left right (λ rank below. all rank (omega arith)))

-- `agree_below` is true only of sets that agree.
pub same-agree : (n : ℕ) (left right : Selection) → agree_below n left right ≡ true
    → Agree n left right
unfolding agree_below
same-agree zero left right is = λ rank below. absurd (omega arith)
same-agree (suc n) left right is =
    let parts = cond-false (exclusive_or (left n) (right n)) (agree_below n left right) is in
    agree-more n left right (same-agree n left right parts.1)
    (exclusive-same (left n) (right n) parts.0)

-- ---- `cmp`

-- Whether the list starts past the rank and the set has a later member, or the list is empty and
-- the set has none.
later-at : (n : ℕ) (selected : Selection) (rank : ℕ) (others : List ℕ) → Type 0
later-at n selected rank [] = ¬ HasLater n selected rank
later-at n selected rank (first ∷ others) = (rank < first) × HasLater n selected rank

-- This holds of the elements from `low` on, if no rank between `rank` and `low` is a member.
later-elements : (n low more rank : ℕ) (selected : Selection) → n ≡ low + more → rank < low
    → ((other : ℕ) → rank < other → other < low → selected other ≡ false)
    → later-at n selected rank (elements_from low more selected)
unfolding elements_from later-at
later-elements n low zero rank selected all past none = λ later.
    let beyond = later.past in
    let within = later.in_type in
    not_both (selected later.later) later.here (none later.later beyond (omega arith))
later-elements n low (suc more) rank selected all past none = elim (true_or_false (selected low)) [
  | inl here ↦ rw here (
    past,
    record {
      later = low;
      past = past;
      in_type = omega arith;
      here = here;
    },
  )
  | inr lacks ↦ rw lacks (later-elements n (suc low) more rank selected (omega arith) (omega arith)
      (λ other beyond within. elim (cases_lt other low) [
        | inl less ↦ none other beyond less
        | inr most ↦
            let at : low ≡ other = omega arith in
            subst (λ each. selected each ≡ false) at lacks
      ]))
]

-- If two sets first differ at this rank and the left one has it, they compare as the lists of their
-- elements from there on.
first-order : (n rank : ℕ) (left right : Selection) (others rest : List ℕ)
    → DiffersAt n left right rank → later-at n right rank others
    → HasOrder n left right (slice_cmp nat_cmp (rank ∷ rest) others)
unfolding later-at
first-order n rank left right [] rest differs none =
    inr (record { rank = rank; differs = differs; last = none })
first-order n rank left right (other ∷ others) rest differs some =
    let less = some.0 in
    rw (nat_cmp-less rank other less)
    (inl (record { rank = rank; differs = differs; later = some.1 }))

-- The same if the right set has the rank.
second-order : (n rank : ℕ) (left right : Selection) (others rest : List ℕ)
    → DiffersAt n right left rank → later-at n left rank others
    → HasOrder n left right (slice_cmp nat_cmp others (rank ∷ rest))
unfolding later-at
second-order n rank left right [] rest differs none =
    inr (record { rank = rank; differs = differs; last = none })
second-order n rank left right (other ∷ others) rest differs some =
    let less = some.0 in
    rw (nat_cmp-greater rank other less)
    (inl (record { rank = rank; differs = differs; later = some.1 }))

-- Sets that agree below `low` have the order of their elements from `low` on.
order-from : (n low more : ℕ) (left right : Selection) → n ≡ low + more → Agree low left right
    → HasOrder n left right
    (slice_cmp nat_cmp (elements_from low more left) (elements_from low more right))
unfolding elements_from
order-from n low zero left right all below =
    let at : low ≡ n = omega arith in
    subst (λ each. Agree each left right) at below
order-from n low (suc more) left right all below =
    let within : low < n = omega arith in
    let next : n ≡ suc low + more = omega arith in
    elim (true_or_false (left low)) [
      | inl has ↦ elim (true_or_false (right low)) [
        | inl also ↦
            rw (has, also, nat_cmp-same low) (order-from n (suc low) more left right next
            (agree-more low left right below (has ∙ sym also)))
        | inr lacks ↦
            rw (has, lacks) (first-order n low left right (elements_from (suc low) more right)
            (elements_from (suc low) more left)
            (record { in_type = within; here = has; lacks = lacks; least = below })
            (later-elements n (suc low) more low right next (omega arith)
            (λ other beyond less. absurd (omega arith))))
      ]
      | inr has_not ↦ elim (true_or_false (right low)) [
        | inl also ↦
            rw (has_not, also) (second-order n low left right (elements_from (suc low) more left)
            (elements_from (suc low) more right)
            (record {
              in_type = within;
              here = also;
              lacks = has_not;
              least = λ rank less. sym (below rank less);
            })
            (later-elements n (suc low) more low left next (omega arith)
            (λ other beyond less. absurd (omega arith))))
        | inr lacks ↦
            rw (has_not, lacks) (order-from n (suc low) more left right next
            (agree-more low left right below (has_not ∙ sym lacks)))
      ]
    ]

-- What `cmp` returns is the order of the two sets.
pub order-holds : (n : ℕ) (left right : Selection) → HasOrder n left right (order n left right)
order-holds n left right =
    order-from n 0 n left right (omega arith) (λ rank below. absurd (omega arith))

-- ---- `==` and `cmp` together

-- Sets that differ at a least rank do not agree.
differs-not : (n rank : ℕ) (left right : Selection) → DiffersAt n left right rank
    → ¬ Agree n left right
differs-not n rank left right differs all =
    not_both (right rank) (sym (all rank differs.in_type) ∙ differs.here) differs.lacks

-- A set that is less than another does not agree with it.
pub less-not : (n : ℕ) (left right : Selection) → IsLess n left right → ¬ Agree n left right
less-not n left right (inl less) all =
    differs-not n less.rank left right less.differs all
less-not n left right (inr less) all =
    differs-not n less.rank right left less.differs (λ rank below. sym (all rank below))

-- Sets that agree are equal by any order that they have.
equal-agree : (n : ℕ) (left right : Selection) (ordering : Ordering) → HasOrder n left right ordering
    → Agree n left right → is_eq ordering ≡ true
equal-agree n left right Less less all = absurd (less-not n left right less all)
equal-agree n left right Equal agree_below all = refl
equal-agree n left right Greater less all =
    absurd (less-not n right left less (λ rank below. sym (all rank below)))

-- If an order that two sets have says that they are equal, then they agree.
agree-equal : (n : ℕ) (left right : Selection) (ordering : Ordering) → HasOrder n left right ordering
    → is_eq ordering ≡ true → Agree n left right
agree-equal n left right Less less is = absurd (cc)
agree-equal n left right Equal agree_below is = agree_below
agree-equal n left right Greater less is = absurd (cc)

-- `==` is true exactly when `cmp` returns `Equal`.
pub same-order : (n : ℕ) (left right : Selection)
    → agree_below n left right ≡ eq_by_cmp (order n) left right
same-order n left right = both_ways (agree_below n left right) (is_eq (order n left right))
    (λ is. equal-agree n left right (order n left right) (order-holds n left right)
    (same-agree n left right is))
    (λ is. agree-same n left right
    (agree-equal n left right (order n left right) (order-holds n left right) is))

-- ---- the laws, of sets as lists of runs in a type of n values

module _ (n : ℕ) where
  -- What `==` returns.
  abbrev pub set_eq : List Interval → List Interval → Bool
  set_eq left right = agree_below n (members left) (members right)

  -- What `cmp` returns.
  abbrev pub set_cmp : List Interval → List Interval → Ordering
  set_cmp left right = order n (members left) (members right)

  pub sets_total : IsTotalOrder set_cmp
  sets_total = on_total (λ (set : List Interval). elements_from 0 n (members set)) nat_list_cmp_total

  pub sets_ties : (left right : List Interval) → set_eq left right ≡ eq_by_cmp set_cmp left right
  sets_ties left right = same-order n (members left) (members right)

  pub sets_equivalence : IsEquivalence set_eq
  sets_equivalence = subst IsEquivalence (λ i left right. sym (sets_ties left right) i)
      (eq_by_cmp_equiv sets_total)

  pub sets_partial_equivalence : IsPartialEquivalence set_eq
  sets_partial_equivalence = partial_equiv_from_equiv sets_equivalence

  pub sets_partial_order : IsPartialOrder set_eq (λ left right. Some (set_cmp left right))
  sets_partial_order = po sets_total sets_ties
