-- Values and ranges that an iterator gives by reference, and the same by value.
use denote.Ref.{Bor}
use Rattle.std.proofs.Common.{◌≡◌, ◌||◌, ℕ, List, [], ◌∷◌, refl, sym, ap, subst, ◌∙◌}
use Rattle.std.specs.Iterator.{Yields}
use Rattle.std.specs.Iterator.Adapters.{copied_source, copied_steps}
use Rattle.std.specs.Option.{option_copied}
use Rattle.std.specs.Prelude.{Option, None, Some}
use Rattle.std.specs.declared.iter.Copied.{Copied}
use Rattle.std.specs.declared.ops.RangeInclusive.{RangeInclusive}
use Rattle.rsb_integer.specs.Rank.{interval_of, intervals_of}
use Rattle.rsb_integer.specs.Runs.{Interval, members}
use Rattle.rsb_integer.proofs.lemmas.Members.{members-cons}
use Rattle.rsb_streams.specs.Items.{GaveAll}
use Rattle.range_set_blaze.specs.Algebra.{IsSetOfItems}
use Rattle.range_set_blaze.specs.Lent.{lent_steps, pointed_to}
use Rattle.rsb_storage.specs.Set.{IsSetOf}
use Rattle.range_set_blaze.specs.declared.set.collect.by_reference.LentRanges.{LentRanges}

module _ {T : Type 0} where
  -- A value that was copied is one that a reference points to.
  copied-some : (lent : Option (Bor T)) (value : T) → Some value ≡ option_copied lent
      → (reference : Bor T) × (lent ≡ Some reference) × (reference.now ≡ value)
  copied-some None value is = absurd (cc)
  copied-some (Some reference) value is = (reference, refl, cc)

  -- If no value was copied, there is no reference.
  copied-none : (lent : Option (Bor T)) → None ≡ option_copied lent → lent ≡ None
  copied-none None is = refl
  copied-none (Some reference) is = absurd (cc)

module _ {T I : Type 0} (steps : I → Option (Bor T) → I → Type 0) where
  -- If calls gave copies, calls of the iterator inside gave references to these values.
  copied-yields : (values : List T) (s t : Copied I) → Yields (copied_steps steps) s values t
      → (lent : List (Bor T)) × Yields steps (copied_source s) lent (copied_source t)
      × (pointed_to lent ≡ values)
  copied-yields [] s t is = ([], ap copied_source is, refl)
  copied-yields (value ∷ values) s t calls =
      let call = calls.1 in
      let item = copied-some call.0 value call.2 in
      let rest = copied-yields values calls.0 t calls.2 in
      let same = item.2 in
      let others = rest.2 in (
        item.0 ∷ rest.0,
        (
          copied_source calls.0,
          subst (λ lent. steps (copied_source s) lent (copied_source calls.0)) item.1 call.1,
          rest.1,
        ),
        cc,
      )

  -- So what holds of the copies holds of the values that the references point to.
  pub copied-gave : {J : Type 0} (becomes : J → I → Type 0) (value : J) (iter : I) (copied : Copied I)
      (Fact : List T → Type 0) → becomes value iter → copied_source copied ≡ iter
      → GaveAll (λ s other. other ≡ s) (copied_steps steps) copied Fact
      → GaveAll becomes steps value (λ lent. Fact (pointed_to lent))
  copied-gave becomes value iter copied Fact is holds gave =
      let all = copied-yields gave.1 gave.0 gave.3.1.0 gave.3.1.1 in
      let last = gave.3.1.2 in (
        copied_source gave.0,
        all.0,
        rw (ap copied_source gave.2 ∙ holds) is,
        (
          copied_source gave.3.0,
          (
            copied_source gave.3.1.0,
            all.1,
            subst (λ lent. steps (copied_source gave.3.1.0) lent (copied_source gave.3.0))
                (copied-none last.0 last.2) last.1,
          ),
        ),
        subst Fact (sym all.2) gave.4,
      )

module _ {T I : Type 0} (rank : T → ℕ) (steps : I → Option (Bor (RangeInclusive T)) → I → Type 0)
  where
    -- If calls gave ranges, calls of the iterator inside gave references to ranges with the same
    -- members.
    lent-yields : (ranges : List (RangeInclusive T)) (s t : LentRanges I)
        → Yields (lent_steps rank steps) s ranges t
        → (lent : List (Bor (RangeInclusive T))) × Yields steps s.ranges lent t.ranges
        × ((point : ℕ) → members (intervals_of rank ranges) point
        ≡ members (intervals_of rank (pointed_to lent)) point)
    lent-yields [] s t is = ([], ap (λ (each : LentRanges I). each.ranges) is, λ point. refl)
    lent-yields (range ∷ ranges) s t calls =
        let call = calls.1 in
        let rest = lent-yields ranges calls.0 t calls.2 in (
          call.0 ∷ rest.0,
          (calls.0.ranges, call.1, rest.1),
          λ point.
              let same = call.2 point in
              let others = rest.2 point in
              members-cons (interval_of rank range) (intervals_of rank ranges) point
              ∙ (λ i. same i || others i)
              ∙ sym (members-cons (interval_of rank call.0.now)
              (intervals_of rank (pointed_to rest.0)) point),
        )

    -- So a set of the members of these ranges is the set of the members of those.
    pub lent-gave : {J : Type 0} (becomes : J → I → Type 0) (value : J) (iter : I)
        (lending : LentRanges I) (set : List Interval) → becomes value iter → lending.ranges ≡ iter
        → GaveAll (λ s other. other ≡ s) (lent_steps rank steps) lending
        (λ ranges. IsSetOf set (members (intervals_of rank ranges)))
        → GaveAll becomes steps value (λ lent. IsSetOfItems rank (pointed_to lent) set)
    lent-gave becomes value iter lending set is holds gave =
        let all = lent-yields gave.1 gave.0 gave.3.1.0 gave.3.1.1 in (
          gave.0.ranges,
          all.0,
          rw (ap (λ (each : LentRanges I). each.ranges) gave.2 ∙ holds) is,
          (gave.3.0.ranges, (gave.3.1.0.ranges, all.1, gave.3.1.2)),
          record { has = λ point. gave.4 point ∙ all.2 point },
        )
