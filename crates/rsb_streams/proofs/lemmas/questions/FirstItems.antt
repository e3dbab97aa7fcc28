-- What the first call of `next` determines.
use Rattle.rsb_integer.specs.declared.integer.Integer.{Ghosts as Elements}
use Rattle.rsb_streams.specs.declared.draw.Draw.{Ghosts as Stream}
use Rattle.std.proofs.Common.{◌≡◌, ◌↔◌, ℕ, ◌+◌, ◌<◌, ◌≤◌, Bool, true, false, not, nat_le, List, [], ◌∷◌, refl, ◌∙◌, inl, inr, arith}
use Rattle.std.proofs.lemmas.Bool.Decides.{nat_tests}
use Rattle.std.specs.Prelude.{Option, Some, None, IsTrue, is_some}
use Rattle.std.specs.Iterator.{MakesProgress}
use Rattle.std.specs.declared.ops.RangeInclusive.{RangeInclusive}
use Rattle.rsb_integer.specs.Rank.{interval_of}
use Rattle.rsb_integer.specs.Runs.{Interval, members, IsCanonicalIn}
use Rattle.rsb_integer.specs.Selection.{IsUniversal, IsEmpty}
use Rattle.rsb_integer.proofs.lemmas.List.{not_both}
use Rattle.rsb_integer.proofs.lemmas.Members.{members-below, members-head, members-tail}
use Rattle.rsb_streams.specs.laws.Stream.{canonical-sorted}
use Rattle.rsb_streams.specs.Stream.{◌⊆◌, SomeOutcome}
use Rattle.rsb_streams.proofs.lemmas.sources.Known.{IsLawful}
use Rattle.rsb_streams.proofs.lemmas.joining.Gathered.{head-sorted}

module _ {S T N : Type 0} (integer : Elements T N) (source : Stream S T N) (laws : IsLawful integer source)
    (s t : S) (ready : source.can_draw s) where
  open integer use {rank, value_count as n}

  -- The first draw returns `None` exactly if the stream has no member.
  pub tells-nothing : (item : Option (RangeInclusive T)) (test : Bool) → source.draw_gives s item t
      → MakesProgress source.can_draw source.draws_left s item t → is_some item ≡ not test
      → SomeOutcome (source.may_give s) (λ runs. IsTrue test ↔ IsEmpty (members runs))
  tells-nothing None true call goes is =
      λ nothing. nothing [] (laws.answers s t None call) ((λ _ place. refl), (λ _. refl))
  tells-nothing None false call goes is = absurd (cc)
  tells-nothing (Some range) true call goes is = absurd (cc)
  tells-nothing (Some range) false call goes is = λ nothing.
      (laws.sorted t goes.keeps).some (λ rest at.
      let run = interval_of rank range in
      let before = laws.answers s t (Some range) call rest at in
      let sorted = (laws.sorted s ready).all (run ∷ rest) before in
      nothing (run ∷ rest) before (
        (λ no. absurd (cc)),
        (λ none. absurd (not_both (members (run ∷ rest) run.first)
            (members-head run rest run.first (omega arith) sorted.in_order) (none run.first))),
      ))

  -- If the first draw returns `None`, the stream does not have every rank.
  pub none-lacks : source.draw_gives s None t → 0 < n
      → SomeOutcome (source.may_give s) (λ runs. IsTrue false ↔ IsUniversal n (members runs))
  none-lacks call some = λ nothing. nothing [] (laws.answers s t None call) (
    (λ no. absurd (cc)),
    (λ all. let every : false ≡ true = all 0 some in absurd (cc)),
  )

  -- What holds of each canonical list that begins with the first range holds of what the stream
  -- gives.
  pub first-tells : (range : RangeInclusive T) (Fact : List Interval → Type 0)
      → source.draw_gives s (Some range) t
      → MakesProgress source.can_draw source.draws_left s (Some range) t
      → source.may_give s ⊆ IsCanonicalIn n
      → ((rest : List Interval) → IsCanonicalIn n (interval_of rank range ∷ rest)
      → Fact (interval_of rank range ∷ rest))
      → SomeOutcome (source.may_give s) Fact
  first-tells range Fact call goes canonical fact = λ nothing.
      (laws.sorted t goes.keeps).some (λ rest at.
      let before = laws.answers s t (Some range) call rest at in
      nothing (interval_of rank range ∷ rest) before
      (fact rest (canonical (interval_of rank range ∷ rest) before)))

  -- The first range is in order and within the type.
  pub first-range : (range : RangeInclusive T) → source.draw_gives s (Some range) t
      → MakesProgress source.can_draw source.draws_left s (Some range) t
      → ((interval_of rank range).first ≤ (interval_of rank range).last)
      × ((interval_of rank range).last < n)
  first-range range call goes =
      let facts = head-sorted n 0 (interval_of rank range) (source.may_give t)
      (laws.sorted t goes.keeps).some
      (λ rest at. (laws.sorted s ready).all (interval_of rank range ∷ rest)
      (laws.answers s t (Some range) call rest at)) in
      (facts.in_order, facts.in_type)

-- ---- a canonical list that has every rank

-- If the first range starts past the least rank, the list does not have every rank.
pub late-lacks : (n : ℕ) (run : Interval) (rest : List Interval) → IsCanonicalIn n (run ∷ rest)
    → 0 < run.first → IsTrue false ↔ IsUniversal n (members (run ∷ rest))
late-lacks n run rest canonical late = (
  (λ no. absurd (cc)),
  (λ all.
      let ordered = canonical.apart.in_order in
      let below = (canonical-sorted n 0 (run ∷ rest) canonical.apart canonical.within).in_type in
      absurd (not_both (members (run ∷ rest) 0) (all 0 (omega arith))
      (members-tail run rest 0 (inl late)
      ∙ members-below (run.last + 2) rest 0 canonical.apart.rest (omega arith)))),
)

-- If the first range starts at the least rank, the list has every rank exactly if it ends at the
-- greatest.
pub first-whole : (n : ℕ) (run : Interval) (rest : List Interval) (test : Bool)
    → IsCanonicalIn n (run ∷ rest) → run.first ≡ 0 → nat_le n (run.last + 1) ≡ test
    → IsTrue test ↔ IsUniversal n (members (run ∷ rest))
first-whole n run rest true canonical least is = (
  (λ _ place within.
      let most : n ≤ run.last + 1 = grind (arith, nat_tests) in
      members-head run rest place (omega arith) (omega arith)),
  (λ _. refl),
)
first-whole n run rest false canonical least is = (
  (λ no. absurd (cc)),
  (λ all.
      let less : run.last + 1 < n = grind (arith, nat_tests) in
      absurd (not_both (members (run ∷ rest) (run.last + 1)) (all (run.last + 1) less)
      (members-tail run rest (run.last + 1) (inr (omega arith))
      ∙ members-below (run.last + 2) rest (run.last + 1) canonical.apart.rest (omega arith)))),
)

-- Adding one to both numbers does not change whether the first is at most the second.
pub same-test : (a b n m : ℕ) → a + 1 ≡ n → m ≡ b + 1 → nat_le n m ≡ nat_le a b
same-test a b n m first second = grind (arith, nat_tests)
