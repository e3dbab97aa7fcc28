-- Two streams that are drawn from alternately, while they return the same ranges.
use Rattle.rsb_integer.specs.declared.integer.Integer.{Ghosts as Elements}
use Rattle.rsb_streams.specs.declared.draw.Draw.{Ghosts as Stream}
use Rattle.std.proofs.Common.{◌≡◌, ◌↔◌, ℕ, Bool, true, false, not, List, [], ◌∷◌, ◌++◌, refl, sym, subst, append_assoc}
use Rattle.std.specs.Prelude.{Option, Some, None, IsTrue, is_some}
use Rattle.std.specs.Iterator.{MakesProgress}
use Rattle.std.specs.declared.ops.RangeInclusive.{RangeInclusive}
use Rattle.rsb_integer.specs.Rank.{interval_of}
use Rattle.rsb_integer.specs.Runs.{Interval, members, IsCanonicalIn}
use Rattle.rsb_integer.specs.Selection.{Agree}
use Rattle.rsb_integer.proofs.lemmas.Canonical.{canonical-same}
use Rattle.rsb_streams.specs.Stream.{◌⊆◌, SomeOutcomes}
use Rattle.rsb_streams.proofs.lemmas.sources.Known.{IsLawful}

-- If two lists with the same prefix are the same, so is what follows it.
same-rest : (front left right : List Interval) → front ++ left ≡ front ++ right → left ≡ right
same-rest [] left right same = same
same-rest (run ∷ front) left right same =
    let rest : front ++ left ≡ front ++ right = cc in
    same-rest front left right rest

-- Two canonical lists that are not the same have different members.
unequal-tells : (n : ℕ) (left right : List Interval) → IsCanonicalIn n left
    → IsCanonicalIn n right → ¬ (left ≡ right)
    → IsTrue false ↔ Agree n (members left) (members right)
unequal-tells n left right canonical also_canonical unequal = (
  (λ no. absurd (cc)),
  (λ same. absurd (unequal
      (canonical-same n left right canonical.apart also_canonical.apart canonical.within also_canonical.within
      same))),
)

module _ {L R T N : Type 0} (integer : Elements T N) (left : Stream L T N)
    (right : Stream R T N)
    (first : L) (second : R) where
  open integer use {rank, value_count as n}

  -- What holds before each iteration: both streams are ready, and what they gave so far is one
  -- list.
  pub record SameSoFar (s : L) (t : R) : Type 0 where
    pub left_ready : left.can_draw s
    pub right_ready : right.can_draw t
    pub given : List Interval
    pub left_given : (rest : List Interval) → left.may_give s rest
        → left.may_give first (given ++ rest)
    pub right_given : (rest : List Interval) → right.may_give t rest
        → right.may_give second (given ++ rest)

  module _ (left_laws : IsLawful integer left) (right_laws : IsLawful integer right)
      (s : L) (t : R) (so_far : SameSoFar s t) where
    -- If both return ranges with the same ranks, they still gave the same list.
    pub same-more : (range counterpart : RangeInclusive T) (next : L) (other : R)
        → left.draw_gives s (Some range) next → left.can_draw next
        → right.draw_gives t (Some counterpart) other → right.can_draw other
        → interval_of rank range ≡ interval_of rank counterpart
        → SameSoFar next other
    same-more range counterpart next other left_call left_ready right_call right_ready same =
        let run = interval_of rank range in
        record {
          left_ready = left_ready;
          right_ready = right_ready;
          given = so_far.given ++ run ∷ [];
          left_given = λ rest at. rw append_assoc (so_far.left_given (run ∷ rest)
              (left_laws.answers s next (Some range) left_call rest at));
          right_given = λ rest at. rw append_assoc (so_far.right_given (run ∷ rest)
              (subst (λ each. right.may_give t (each ∷ rest)) (sym same)
              (right_laws.answers t other (Some counterpart) right_call rest at)));
        }

    -- If both streams end, they have the same members.
    both-end : (next : L) (other : R) → left.draw_gives s None next → right.draw_gives t None other
        → SomeOutcomes (left.may_give first) (right.may_give second)
        (λ one two. IsTrue true ↔ Agree n (members one) (members two))
    both-end next other left_call right_call = λ nothing.
        nothing (so_far.given ++ []) (so_far.given ++ [])
        (so_far.left_given [] (left_laws.answers s next None left_call))
        (so_far.right_given [] (right_laws.answers t other None right_call))
        ((λ _ place below. refl), (λ _. refl))

    module _ (left_canonical : left.may_give first ⊆ IsCanonicalIn n)
        (right_canonical : right.may_give second ⊆ IsCanonicalIn n) where
      -- If what may still come is not the same, they have different members.
      rests-tell : (one two : List Interval) → left.may_give s one → right.may_give t two
          → ¬ (one ≡ two)
          → SomeOutcomes (left.may_give first) (right.may_give second)
          (λ one two. IsTrue false ↔ Agree n (members one) (members two))
      rests-tell one two at also unequal = λ nothing.
          let left_at = so_far.left_given one at in
          let right_at = so_far.right_given two also in
          nothing (so_far.given ++ one) (so_far.given ++ two) left_at right_at
          (unequal-tells n (so_far.given ++ one) (so_far.given ++ two)
          (left_canonical (so_far.given ++ one) left_at)
          (right_canonical (so_far.given ++ two) right_at)
          (λ same. unequal (same-rest so_far.given one two same)))

      -- If the left stream ends, they have the same members exactly if the right stream ends too.
      pub left-ends : (item : Option (RangeInclusive T)) (test : Bool) (next : L) (other : R)
          → left.draw_gives s None next → right.draw_gives t item other
          → MakesProgress right.can_draw right.draws_left t item other → is_some item ≡ not test
          → SomeOutcomes (left.may_give first) (right.may_give second)
          (λ one two. IsTrue test ↔ Agree n (members one) (members two))
      left-ends None true next other left_call right_call goes is =
          both-end next other left_call right_call
      left-ends None false next other left_call right_call goes is = absurd (cc)
      left-ends (Some range) true next other left_call right_call goes is = absurd (cc)
      left-ends (Some range) false next other left_call right_call goes is = λ nothing.
          (right_laws.sorted other goes.keeps).some (λ rest at.
          rests-tell [] (interval_of rank range ∷ rest)
          (left_laws.answers s next None left_call)
          (right_laws.answers t other (Some range) right_call rest at) (λ same. absurd (cc))
          nothing)

      -- If only the right stream ends, they have different members.
      pub right-ends : (range : RangeInclusive T) (next : L) (other : R)
          → left.draw_gives s (Some range) next → left.can_draw next → right.draw_gives t None other
          → SomeOutcomes (left.may_give first) (right.may_give second)
          (λ one two. IsTrue false ↔ Agree n (members one) (members two))
      right-ends range next other left_call ready right_call = λ nothing.
          (left_laws.sorted next ready).some (λ rest at.
          rests-tell (interval_of rank range ∷ rest) []
          (left_laws.answers s next (Some range) left_call rest at)
          (right_laws.answers t other None right_call) (λ same. absurd (cc))
          nothing)

      -- If the ranges that they return have different ranks, they have different members.
      pub ranges-differ : (range counterpart : RangeInclusive T) (next : L) (other : R)
          → left.draw_gives s (Some range) next → left.can_draw next
          → right.draw_gives t (Some counterpart) other → right.can_draw other
          → ¬ (interval_of rank range ≡ interval_of rank counterpart)
          → SomeOutcomes (left.may_give first) (right.may_give second)
          (λ one two. IsTrue false ↔ Agree n (members one) (members two))
      ranges-differ range counterpart next other left_call left_ready right_call right_ready differ =
          λ nothing. (left_laws.sorted next left_ready).some (λ rest at.
          (right_laws.sorted other right_ready).some (λ rest_too also.
          rests-tell (interval_of rank range ∷ rest) (interval_of rank counterpart ∷ rest_too)
          (left_laws.answers s next (Some range) left_call rest at)
          (right_laws.answers t other (Some counterpart) right_call rest_too also)
          (λ same. differ cc) nothing))
