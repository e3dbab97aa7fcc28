-- If `next` of a std adapter over a stream returns a range, the call fits what the adapter may
-- give. That is, the range might come before whatever may come after the call.
use Rattle.std.proofs.Common.{◌≡◌, ℕ, zero, suc, ◌+◌, Bool, true, false, List, [], ◌∷◌, ◌++◌, take, drop, length, refl, sym, ap, ◌∙◌, subst, inl, inr, arith}
use Rattle.std.proofs.lemmas.List.{length-map}
use Rattle.std.proofs.Math.Seq.{drop-append_seam}
use Rattle.std.specs.Fn.{CalledAt}
use Rattle.std.specs.List.{FoldsTo}
use Rattle.std.specs.Prelude.{Option, Some, None, MatchBool, MatchOption}
use Rattle.std.specs.Iterator.{Yields, YieldsThen}
use Rattle.std.specs.Iterator.Adapters.{filter_source, filter_steps, fuse_done, fuse_source, fuse_steps, skip_count, skip_source, skip_steps, skip_while_callee, skip_while_done_skipping, skip_while_source, skip_while_steps, take_count, take_source, take_steps, take_while_callee, take_while_done, take_while_source, take_while_steps}
use Rattle.std.specs.declared.iter.Filter.{Filter}
use Rattle.std.specs.declared.iter.Fuse.{Fuse}
use Rattle.std.specs.declared.iter.Skip.{Skip}
use Rattle.std.specs.declared.iter.SkipWhile.{SkipWhile}
use Rattle.std.specs.declared.iter.Take.{Take}
use Rattle.std.specs.declared.iter.TakeWhile.{TakeWhile}
use Rattle.std.specs.declared.ops.RangeInclusive.{RangeInclusive}
use Rattle.rsb_integer.specs.Prefix.{IsPrefix, IsSuffix}
use Rattle.rsb_integer.specs.Rank.{interval_of, intervals_of}
use Rattle.rsb_integer.specs.Runs.{Interval}
use Rattle.rsb_streams.specs.Adapters.{IsSkipped, filter_may_give, skip_may_give, skip_while_may_give, take_may_give, take_while_may_give}
use Rattle.rsb_streams.specs.Fused.{fuse_may_give}
use Rattle.rsb_streams.specs.Stream.{Outcomes, Answers, outcomes_unless}
use Rattle.rsb_streams.specs.laws.Sublists.{sublist-after}
use denote.Param.Members.{Mut}
use denote.Ref.{Bor}

module _ {S T : Type 0} (rank : T → ℕ) (P : S → Outcomes)
    (steps : S → Option (RangeInclusive T) → S → Type 0)
    (gives : (s t : S) (range : RangeInclusive T) → steps s (Some range) t
    → Answers rank P s (Some range) t) where
  -- What the calls returned, followed by what may still come after them, is one of the lists that
  -- might come from the state before the calls.
  pub passed : (ranges : List (RangeInclusive T)) (s t : S) (rest : List Interval)
      → Yields steps s ranges t → P t rest → P s (intervals_of rank ranges ++ rest)
  passed [] s t rest all may = subst (λ each. P each rest) (sym all) may
  passed (range ∷ ranges) s t rest all may =
      gives s all.0 range all.1 (intervals_of rank ranges ++ rest)
      (passed ranges all.0 t rest all.2 may)

  -- The same holds of ranges that were passed over, followed by one more and what may still come.
  passed-then : (ranges : List (RangeInclusive T)) (s t : S) (range : RangeInclusive T)
      (rest : List Interval) → YieldsThen steps s ranges (Some range) t → P t rest
      → P s (intervals_of rank ranges ++ interval_of rank range ∷ rest)
  passed-then ranges s t range rest call may =
      passed ranges s call.0 (interval_of rank range ∷ rest) call.1
      (gives call.0 t range call.2 rest may)

  module _ {F : Type 0} (call : Mut F (Bor (RangeInclusive T) × Unit {0}) Bool) where
    -- A call to `Filter` that returns a range fits what it may give.
    pub filter-gives : (s t : Filter S F) (range : RangeInclusive T)
        → filter_steps steps call s (Some range) t
        → Answers rank (filter_may_give P) s (Some range) t
    filter-gives s t range call rest may = λ nothing. may (λ given at sub.
        let before = intervals_of rank call.0 in
        let run = interval_of rank range in
        nothing (before ++ run ∷ given)
        (passed-then call.0 (filter_source s) (filter_source t) range given call.2 at)
        (sublist-after before (run ∷ rest) (run ∷ given) (inr (rest, refl, sub))))

    -- What follows if a `TakeWhile` returns a range: it is not done, before or after the call, and
    -- its stream gave the range.
    pub record TakesRange (s : TakeWhile S F) (range : RangeInclusive T) (t : TakeWhile S F) : Type
        0 where
      pub before : take_while_done s ≡ false
      pub after : take_while_done t ≡ false
      pub source : steps (take_while_source s) (Some range) (take_while_source t)

    -- By cases on what the closure returned.
    takes-passed : (s t : TakeWhile S F) (range each : RangeInclusive T) (passes : Bool)
        → take_while_done s ≡ false
        → steps (take_while_source s) (Some each) (take_while_source t)
        → MatchBool passes ((Some range ≡ Some each) × (take_while_done t ≡ false))
        ((Some range ≡ None) × (take_while_done t ≡ true))
        → TakesRange s range t
    takes-passed s t range each true before step answer = record {
      before = before;
      after = answer.1;
      source = subst (λ item. steps (take_while_source s) item (take_while_source t))
          (sym answer.0) step;
    }
    takes-passed s t range each false before step answer = let no = answer.0 in absurd (cc)

    -- By cases on what the stream returned, and on whether the `TakeWhile` was done.
    takes-asked : (s t : TakeWhile S F) (range : RangeInclusive T)
        (asked : Option (RangeInclusive T)) → take_while_done s ≡ false
        → steps (take_while_source s) asked (take_while_source t)
        → MatchOption asked ((Some range ≡ None) × (take_while_done t ≡ false)) (λ each.
        (passes : Bool) × CalledAt call (take_while_callee s) each passes (take_while_callee t)
        × MatchBool passes ((Some range ≡ Some each) × (take_while_done t ≡ false))
        ((Some range ≡ None) × (take_while_done t ≡ true)))
        → TakesRange s range t
    takes-asked s t range None before step answer = let no = answer.0 in absurd (cc)
    takes-asked s t range (Some each) before step answer =
        takes-passed s t range each answer.0 before step answer.2

    takes-by : (s t : TakeWhile S F) (range : RangeInclusive T) (done : Bool)
        → take_while_done s ≡ done
        → MatchBool done ((Some range ≡ None) × (t ≡ s))
        ((asked : Option (RangeInclusive T)) × steps (take_while_source s) asked (take_while_source t)
        × MatchOption asked ((Some range ≡ None) × (take_while_done t ≡ false)) (λ each.
        (passes : Bool) × CalledAt call (take_while_callee s) each passes (take_while_callee t)
        × MatchBool passes ((Some range ≡ Some each) × (take_while_done t ≡ false))
        ((Some range ≡ None) × (take_while_done t ≡ true))))
        → TakesRange s range t
    takes-by s t range true is answer = let no = answer.0 in absurd (cc)
    takes-by s t range false is answer = takes-asked s t range answer.0 is answer.1 answer.2

    -- A call to `TakeWhile` that returns a range fits what it may give.
    pub take_while-gives : (s t : TakeWhile S F) (range : RangeInclusive T)
        → take_while_steps steps call s (Some range) t
        → Answers rank (take_while_may_give P) s (Some range) t
    take_while-gives s t range call rest may = λ nothing.
        let takes = takes-by s t range (take_while_done s) refl call in
        let run = interval_of rank range in
        may (λ given at part.
        let front : IsPrefix rest given =
        subst (λ done. MatchBool done (rest ≡ []) (IsPrefix rest given)) takes.after part in
        let longer : IsPrefix (run ∷ rest) (run ∷ given) = record {
          rest = front.rest;
          parts = ap (λ runs. run ∷ runs) front.parts;
        } in
        nothing (run ∷ given)
        (gives (take_while_source s) (take_while_source t) range takes.source given at)
        (subst (λ done. MatchBool done (run ∷ rest ≡ []) (IsPrefix (run ∷ rest) (run ∷ given)))
        (sym takes.before) longer))

    -- What follows if a `SkipWhile` returns a range: it passed over some ranges before that one, or
    -- none if it had already stopped skipping, and it skips no more.
    pub record SkipsTo (s : SkipWhile S F) (range : RangeInclusive T) (t : SkipWhile S F) : Type
        0 where
      pub passed : List (RangeInclusive T)
      pub after : skip_while_done_skipping t ≡ true
      pub source : YieldsThen steps (skip_while_source s) passed (Some range) (skip_while_source t)
      pub none : skip_while_done_skipping s ≡ true → passed ≡ []

    skips-by : (s t : SkipWhile S F) (range : RangeInclusive T) (started : Bool)
        → skip_while_done_skipping s ≡ started
        → MatchBool started (steps (skip_while_source s) (Some range) (skip_while_source t)
        × (skip_while_done_skipping t ≡ true) × (skip_while_callee t ≡ skip_while_callee s))
        ((xs : List (RangeInclusive T)) × (f : F)
        × YieldsThen steps (skip_while_source s) xs (Some range) (skip_while_source t)
        × FoldsTo (λ p x q. CalledAt call p x true q) (skip_while_callee s) xs f
        × ((skip_while_done_skipping t ≡ true) × CalledAt call f range false (skip_while_callee t)))
        → SkipsTo s range t
    skips-by s t range true is call = record {
      passed = [];
      after = call.1;
      source = (skip_while_source s, refl, call.0);
      none = λ started. refl;
    }
    skips-by s t range false is call = record {
      passed = call.0;
      after = call.4.0;
      source = call.2;
      none = λ started. absurd (cc);
    }

    -- A call to `SkipWhile` that returns a range fits what it may give. By cases on whether it had
    -- stopped skipping before the call.
    skip_while-by : (started after : Bool) (ranges : List (RangeInclusive T)) (s t : S)
        (range : RangeInclusive T) (rest given : List Interval) → after ≡ true
        → (started ≡ true → ranges ≡ [])
        → MatchBool after (rest ≡ given) (IsSuffix rest given)
        → MatchBool started
        (interval_of rank range ∷ rest ≡ intervals_of rank ranges ++ interval_of rank range ∷ given)
        (IsSuffix (interval_of rank range ∷ rest)
        (intervals_of rank ranges ++ interval_of rank range ∷ given))
    skip_while-by started false ranges s t range rest given end none part = absurd (cc)
    skip_while-by true true ranges s t range rest given end none part =
        rw (none refl) (ap (λ runs. interval_of rank range ∷ runs) part)
    skip_while-by false true ranges s t range rest given end none part = record {
      passed = intervals_of rank ranges;
      parts = ap (λ runs. intervals_of rank ranges ++ interval_of rank range ∷ runs) (sym part);
    }

    pub skip_while-gives : (s t : SkipWhile S F) (range : RangeInclusive T)
        → skip_while_steps steps call s (Some range) t
        → Answers rank (skip_while_may_give P) s (Some range) t
    skip_while-gives s t range call rest may = λ nothing.
        let skips = skips-by s t range (skip_while_done_skipping s) refl call in
        may (λ given at part.
        nothing (intervals_of rank skips.passed ++ interval_of rank range ∷ given)
        (passed-then skips.passed (skip_while_source s) (skip_while_source t) range given
        skips.source at)
        (skip_while-by (skip_while_done_skipping s) (skip_while_done_skipping t) skips.passed
        (skip_while_source s) (skip_while_source t) range rest given skips.after skips.none part))

  -- If `rest` has the first `count` intervals of a list, then `run` followed by `rest` has the
  -- first `count + 1` intervals of the list with `run` in front.
  take-one_more : (run : Interval) (count more : ℕ) (rest given : List Interval)
      → count + 1 ≡ more → rest ≡ take count given → run ∷ rest ≡ take more (run ∷ given)
  take-one_more run count zero rest given is part = absurd (omega (arith, is))
  take-one_more run count (suc more) rest given is part =
      let same : count ≡ more = omega (arith, is) in
      rw (sym same) (ap (λ runs. run ∷ runs) part)

  -- A call to `Take` that returns a range fits what it may give.
  pub take-gives : (s t : Take S) (range : RangeInclusive T) → take_steps steps s (Some range) t
      → Answers rank (take_may_give P) s (Some range) t
  take-gives s t range call rest may = λ nothing. may (λ given at part.
      let run = interval_of rank range in
      nothing (run ∷ given) (gives (take_source s) (take_source t) range call.0 given at)
      (take-one_more run (take_count t) (take_count s) rest given call.1 part))

  -- If nothing more is to be skipped, everything is left.
  skipped-none : (s : S) (count : ℕ) (rest given : List Interval) → count ≡ 0
      → IsSkipped steps s count rest given → rest ≡ given
  skipped-none s zero rest given none part = elim part [
    | inl left ↦ left
    | inr ended ↦ absurd (omega (arith, ended.0))
  ]
  skipped-none s (suc count) rest given none part = absurd (omega (arith, none))

  -- Dropping as many ranges as were passed leaves the rest.
  drop-passed : (ranges : List (RangeInclusive T)) (count : ℕ) (runs : List Interval)
      → length ranges ≡ count → drop count (intervals_of rank ranges ++ runs) ≡ runs
  drop-passed ranges count runs is =
      subst (λ each. drop each (intervals_of rank ranges ++ runs) ≡ runs)
      (length-map ranges (interval_of rank) ∙ is) (drop-append_seam (intervals_of rank ranges) runs)

  -- A call to `Skip` that returns a range fits what it may give.
  pub skip-gives : (s t : Skip S) (range : RangeInclusive T) → skip_steps steps s (Some range) t
      → Answers rank (skip_may_give steps P) s (Some range) t
  skip-gives s t range call rest may = λ nothing. may (λ given at part.
      let run = interval_of rank range in
      let passed = call.1.0 in
      let left = skipped-none (skip_source t) (skip_count t) rest given call.0 part in
      let dropped = drop-passed passed (skip_count s) (run ∷ given) call.1.2 in
      nothing (intervals_of rank passed ++ run ∷ given)
      (passed-then passed (skip_source s) (skip_source t) range given call.1.1 at)
      (inl (ap (λ runs. run ∷ runs) left ∙ sym dropped)))

  -- A call to `Fuse` that returns a range fits what it may give. By cases on whether it had ended.
  fuse-by : (done after : Bool) (s t : S) (range : RangeInclusive T) (rest : List Interval)
      → MatchBool done (Some range ≡ None) (steps s (Some range) t) → after ≡ false
      → outcomes_unless after (P t) rest
      → outcomes_unless done (P s) (interval_of rank range ∷ rest)
  fuse-by true after s t range rest call undone may = absurd (cc)
  fuse-by false true s t range rest call undone may = absurd (cc)
  fuse-by false false s t range rest call undone may = gives s t range call rest may

  pub fuse-gives : (s t : Fuse S) (range : RangeInclusive T) → fuse_steps steps s (Some range) t
      → Answers rank (fuse_may_give P) s (Some range) t
  fuse-gives s t range call rest may =
      fuse-by (fuse_done s) (fuse_done t) (fuse_source s) (fuse_source t) range rest call.0 call.1
      may
