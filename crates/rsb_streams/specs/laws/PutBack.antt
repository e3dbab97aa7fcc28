-- The laws of a stream to which one range may be put back.
use Rattle.std.proofs.Common.{◌≡◌, List, [], ◌∷◌, refl, ap, subst}
use Rattle.std.specs.Prelude.{Option, Some, None, MatchOption}
use Rattle.std.specs.declared.ops.RangeInclusive.{RangeInclusive}
use Rattle.rsb_integer.specs.Rank.{interval_of}
use Rattle.rsb_integer.specs.Runs.{Interval}
use Rattle.rsb_integer.specs.declared.integer.Integer.{Ghosts as Elements}
use Rattle.rsb_streams.specs.Fused.{fused_stream, Fused}
use Rattle.rsb_streams.specs.laws.Fused.{fused-answered, fused-keeps}
use Rattle.rsb_streams.specs.PutBack.{fused_of, put_back}
use Rattle.rsb_streams.specs.Rows.{IsAnswered, IsSorted}
use Rattle.rsb_streams.specs.Stream.{after, HasOutcome, HasSortedStarts}
use Rattle.rsb_streams.specs.declared.draw.Draw.{Ghosts as Stream}

module _ {T N I : Type 0} (integer : Elements T N) (stream : Stream I T N) where
  open integer use {rank, value_count as n}

  module _ (answers : IsAnswered integer stream) where
    -- A call fits what may be given. By cases on whether a range was held.
    answers-by : (held : Option (RangeInclusive T)) (s t : Fused I)
        (item : Option (RangeInclusive T))
        → MatchOption held ((fused_stream stream).draw_gives s item t)
        (λ range. (item ≡ Some range) × (t ≡ s))
        → MatchOption item (after rank held ((fused_stream stream).may_give s) [])
        (λ range. (rest : List Interval) → (fused_stream stream).may_give t rest
        → after rank held ((fused_stream stream).may_give s) (interval_of rank range ∷ rest))
    answers-by None s t None call = fused-answered integer stream answers s t None call
    answers-by None s t (Some range) call =
        fused-answered integer stream answers s t (Some range) call
    answers-by (Some held) s t None call = let no = call.0 in absurd (cc)
    answers-by (Some held) s t (Some range) call = λ rest may.
        let is = call.0 in
        let same : range ≡ held = cc in
        record {
          rest = rest;
          given = subst (λ state. (fused_stream stream).may_give state rest) call.1 may;
          is = ap (λ each. interval_of rank each ∷ rest) same;
        }

    -- A call fits what may be given.
    pub put_back-answered : IsAnswered integer (put_back integer stream)
    put_back-answered s t None call =
        answers-by s.held (fused_of s) (fused_of t) None call.call
    put_back-answered s t (Some range) call = λ rest may.
        answers-by s.held (fused_of s) (fused_of t) (Some range) call.call rest
        (subst (λ held. after rank held ((fused_stream stream).may_give (fused_of t)) rest)
        call.room may)

  module _ (sorted : IsSorted integer stream) where
    -- Something may be given, whether a range is held or not.
    some-by : (held : Option (RangeInclusive T)) (s : Fused I)
        → HasOutcome ((fused_stream stream).may_give s)
        → HasOutcome (after rank held ((fused_stream stream).may_give s))
    some-by None s some = some
    some-by (Some range) s some =
        λ never. some (λ runs may. never (interval_of rank range ∷ runs)
        (record { rest = runs; given = may; is = refl }))

    -- The stream is sorted by start.
    pub put_back-sorted : IsSorted integer (put_back integer stream)
    put_back-sorted s ready =
        let kept = fused-keeps stream (HasSortedStarts n) tt sorted (fused_of s) ready.callable in
        record {
          some = some-by s.held (fused_of s) kept.some;
          all = ready.sorted;
          ends = kept.ends;
        }
