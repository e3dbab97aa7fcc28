-- What the calls of the stream of weekends return.
use Rattle.std.proofs.Common.{ℕ, ℤ, pos, zero, suc, ◌≡◌, ◌⊎◌, ◌+◌, ◌*◌, ◌≤◌, List, [], ◌∷◌, false, refl, sym, ap, subst, ◌∙◌, inl, inr, lit≤, arith}
use Rattle.std.specs.Prelude.{Option, Some, None}
use Rattle.std.specs.Int.{w32}
use Rattle.std.specs.Iterator.{Yields}
use Rattle.std.specs.declared.ops.RangeInclusive.{RangeInclusive}
use Rattle.range_set_blaze.specs.Rank.{interval_of, intervals_of, signed_rank}
use Rattle.range_set_blaze.specs.Calls.{gives_by}
use Rattle.range_set_blaze.specs.Stream.{◌⊆◌, just}
use Rattle.rsb_user_types.specs.Weekends.{rank_of_day, weekend_after, weekends, weekends_after}
use Rattle.rsb_user_types.specs.contracts.ordinal_weekends.OrdinalWeekendsIterator.TheImpl.{next_gives-value}
use Rattle.rsb_user_types.specs.declared.ordinal_weekends.OrdinalWeekends.{OrdinalWeekends}

-- Whether a call on the first stream returns this item and leaves the second stream.
abbrev next : OrdinalWeekends → Option (RangeInclusive ℤ) → OrdinalWeekends → Type 0
next = next_gives-value.it

-- Whether a call on the stream may return `None`, or no call on it may return a range.
abbrev IsAtEnd : OrdinalWeekends → Type 0
IsAtEnd t = ((u : OrdinalWeekends) × next t None u)
    ⊎ ((range : RangeInclusive ℤ) (u : OrdinalWeekends) → ¬ (next t (Some range) u))

-- The stream is not at its end while a weekend is left.
goes-on : (t : OrdinalWeekends) → t.end ≤ 365 → ¬ (IsAtEnd t)
goes-on t left (inl done) = absurd (omega (arith, left, done.1))
goes-on t left (inr never) = never
    (record { start = pos t.start; end = pos t.end; exhausted = false })
    (record { start = t.end + 6; end = t.end + 7 }) (left, refl, refl, refl)

-- The calls starting at a Saturday return the weekends that are left.
gives-after : (more weeks : ℕ) (ranges : List (RangeInclusive ℤ)) (s t : OrdinalWeekends)
    → weeks + more ≡ 53 → s.start ≡ 7 * weeks → s.end ≡ 7 * weeks + 1 → Yields next s ranges t
    → IsAtEnd t → intervals_of (signed_rank w32) ranges ≡ weekends_after weeks more
gives-after zero weeks [] s t year start end calls done = refl
gives-after zero weeks (range ∷ ranges) s t year start end calls done =
    absurd (omega (arith, year, end, calls.1.0))
gives-after (suc more) weeks [] s t year start end calls done =
    absurd (goes-on s (omega (arith, year, end)) (subst IsAtEnd (sym calls) done))
gives-after (suc more) weeks (range ∷ ranges) s t year start end calls done =
    let first : interval_of (signed_rank w32) range ≡ weekend_after weeks = calls.1.1
    ∙ (λ i. record { first = rank_of_day (start i); last = rank_of_day (end i) }) in
    let rest = gives-after more (weeks + 1) ranges calls.0 t (omega (arith, year))
    (omega (arith, end, calls.1.2)) (omega (arith, end, calls.1.3)) calls.2 done in
    ap (λ run. run ∷ intervals_of (signed_rank w32) ranges) first
    ∙ ap (λ runs. weekend_after weeks ∷ runs) rest

-- The calls starting at the first day return all weekends.
given : (ranges : List (RangeInclusive ℤ)) (t : OrdinalWeekends)
    → Yields next (record { start = 1; end = 1 }) ranges t → IsAtEnd t
    → intervals_of (signed_rank w32) ranges ≡ weekends
unfolding weekends
given [] t calls done = absurd (goes-on (record { start = 1; end = 1 }) (lit≤ tt)
    (subst IsAtEnd (sym calls) done))
given (range ∷ ranges) t calls done =
    ap (λ run. run ∷ intervals_of (signed_rank w32) ranges) calls.1.1
    ∙ ap (λ runs. record { first = rank_of_day 1; last = rank_of_day 1 } ∷ runs)
    (gives-after 52 1 ranges calls.0 t refl calls.1.2 calls.1.3 calls.2 done)

-- The stream may give only the weekends.
pub gives-weekends : gives_by (signed_rank w32) next (record { start = 1; end = 1 }) ⊆ just weekends
gives-weekends runs gives = gives.2 ∙ given gives.0 gives.1 gives.3 gives.4
