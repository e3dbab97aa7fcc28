-- The results of operations on any number of streams, built from a merge that has drawn the first
-- range of each.
use Rattle.std.proofs.Common.{◌≡◌, ◌⊎◌, inl, inr, ℕ, zero, suc, ◌+◌, ◌<◌, Bool, true, false, List, [], ◌∷◌, ◌++◌, length, refl, sym, subst, arith}
use Rattle.std.specs.Iterator.{Yields, YieldsThen}
use Rattle.std.specs.Prelude.{Option, None}
use Rattle.std.specs.declared.ops.RangeInclusive.{RangeInclusive}
use Rattle.rsb_integer.specs.Rank.{interval_of, intervals_of}
use Rattle.rsb_integer.specs.Runs.{Interval}
use Rattle.rsb_integer.specs.Selection.{all_of, any_of, complement}
use Rattle.rsb_integer.specs.declared.integer.Integer.{Ghosts as Elements}
use Rattle.rsb_streams.specs.Lookahead.{with_held_ranges, if_same, AreWithin, Input, Sameness}
use Rattle.rsb_streams.specs.NotIter.{not_iter, PassesOver}
use Rattle.rsb_streams.specs.PutBack.{held_list, IsFresh}
use Rattle.rsb_streams.specs.Results.{MakesComplementUndrawn}
use Rattle.rsb_streams.specs.Stream.{◌⊆◌, joined_runs, runs_by, Outcomes}
use Rattle.rsb_streams.specs.UnionIter.{joined_inputs, unless_ended}
use Rattle.rsb_streams.specs.declared.draw.Draw.{Ghosts as Stream}
use Rattle.rsb_streams.specs.declared.not_iter.NotIter.{NotIter}
use Rattle.rsb_streams.specs.declared.union_iter.UnionIter.{UnionIter}
use Rattle.rsb_streams.proofs.lemmas.calling.Results.{runs_by-within}
use Rattle.rsb_streams.proofs.lemmas.lookahead.EachCall.{from-one, uses-ended, uses-nothing, uses-then}
use Rattle.rsb_many.specs.KMerge.{kmerge, MakesKMerge}
use Rattle.rsb_many.specs.Many.{may_give_at, runs_by_all, AreWithinSome, HoldOneAtMost, IsBegun, UsesWithin}
use Rattle.rsb_many.specs.MultiwayBegun.{AreComplements}
use Rattle.rsb_many.specs.MultiwayUnion.{multiway_union, multiway_union_inputs}
use Rattle.rsb_many.specs.declared.kmerge.KMerge.{KMerge}
use Rattle.rsb_many.specs.declared.operation_results.multiway_union.MultiwayUnion.{MultiwayUnion}
use Rattle.rsb_many.proofs.lemmas.merging.Sets.{complement-of_complements, joined-merges_all}

-- ---- a union that was just built

-- If at most one range of an input is drawn, this is still so with an empty list held before it.
begun-by : {Same Other : Type 0} (at : Same ⊎ Other) (may_give : Outcomes)
    (front : List Interval) (done : Bool) (input : Input) → front ≡ [] → done ≡ false
    → IsBegun may_give input
    → IsBegun may_give (with_held_ranges (if_same at front) (unless_ended done input))
begun-by at may_give front true input none undone begun = absurd (cc)
begun-by (inl same) may_give front false input none undone begun =
    rw none (record { gives = begun.gives; one = begun.one })
begun-by (inr other) may_give front false input none undone begun =
    record { gives = begun.gives; one = begun.one }

-- A union that was just built draws nothing more from the inputs of its stream.
pub joins-begun : {Place S T N : Type 0} (same : Sameness Place) (integer : Elements T N)
    (inputs : S → Place → Input) (may_give : Place → Outcomes) (below : S) (s : UnionIter T S)
    → IsFresh below s.iter → ((place : Place) → IsBegun (may_give place) (inputs below place))
    → (from place : Place)
    → IsBegun (may_give place) (joined_inputs same integer inputs from s place)
joins-begun same integer inputs may_give below s fresh begun from place =
    begun-by (same place from) (may_give place) (held_list integer.rank s.iter.held) s.iter.done
    (inputs s.iter.iter place) (rw fresh.room refl) fresh.undone
    (subst (λ each. IsBegun (may_give place) (inputs each place)) (sym fresh.source) (begun place))

module _ {T N I A : Type 0} (integer : Elements T N) (stream : Stream I T N) (streams : List I)
    (merge : KMerge T I A N) (made : MakesKMerge integer stream (kmerge integer stream) streams merge)
  where
    open integer use {value_count as n}

    -- The joined merge gives only runs of what lies in some of the streams.
    pub joins-gives : joined_runs n ((kmerge integer stream).may_give merge)
        ⊆ runs_by_all n any_of (length streams) (may_give_at stream.may_give streams)
    joins-gives runs may = joined-merges_all n (length streams)
        (may_give_at stream.may_give streams) runs
        (λ nothing. may (λ given at all. nothing given (made.gives given at) all))

-- ---- complements

module _ {T N I : Type 0} (integer : Elements T N) (stream : Stream I T N) where
  open integer use {value_count as n}

  -- The lists still match if one more stream and its complement are added at their ends.
  pub AreComplements-more : (streams : List I) (gaps : List (NotIter T I)) (of : I)
      (gap : NotIter T I) → AreComplements integer stream streams gaps
      → MakesComplementUndrawn integer stream (not_iter integer stream) of gap
      → AreComplements integer stream (streams ++ of ∷ []) (gaps ++ gap ∷ [])
  AreComplements-more [] [] of gap are made = (made, tt)
  AreComplements-more [] (other ∷ gaps) of gap are made = absurd are
  AreComplements-more (first ∷ streams) [] of gap are made = absurd are
  AreComplements-more (first ∷ streams) (other ∷ gaps) of gap are made =
      (are.0, AreComplements-more streams gaps of gap are.1 made)

  -- The complement of a stream, as a stream.
  abbrev gaps_of : Stream (NotIter T I) T N
  gaps_of = not_iter integer stream

  -- There are as many complements as streams.
  complements-long : (streams : List I) (gaps : List (NotIter T I))
      → AreComplements integer stream streams gaps → length gaps ≡ length streams
  complements-long [] [] all = refl
  complements-long [] (gap ∷ gaps) all = absurd all
  complements-long (of ∷ streams) [] all = absurd all
  complements-long (of ∷ streams) (gap ∷ gaps) all =
      let rest = complements-long streams gaps all.1 in omega (arith, rest)

  -- Each complement gives only runs of what its stream leaves out.
  complements-at : (streams : List I) (gaps : List (NotIter T I))
      → AreComplements integer stream streams gaps → (place : ℕ) → place < length gaps
      → may_give_at gaps_of.may_give gaps place
      ⊆ runs_by n complement (may_give_at stream.may_give streams place)
  complements-at [] [] all place less = absurd (omega (arith, less))
  complements-at [] (gap ∷ gaps) all place less = absurd all
  complements-at (of ∷ streams) [] all place less = absurd all
  complements-at (of ∷ streams) (gap ∷ gaps) all zero less = all.0.made.gives
  complements-at (of ∷ streams) (gap ∷ gaps) all (suc place) less =
      complements-at streams gaps all.1 place (omega (arith, less))

  -- What the union of the complements leaves out is what lies in all of the streams.
  pub complements-give : (streams : List I) (gaps : List (NotIter T I)) (Outside : Outcomes)
      → AreComplements integer stream streams gaps
      → Outside ⊆ runs_by_all n any_of (length gaps) (may_give_at gaps_of.may_give gaps)
      → runs_by n complement Outside
      ⊆ runs_by_all n all_of (length streams) (may_give_at stream.may_give streams)
  complements-give streams gaps Outside all outside runs may =
      subst (λ count. runs_by_all n all_of count (may_give_at stream.may_give streams) runs)
      (complements-long streams gaps all)
      (complement-of_complements n (length gaps) (may_give_at stream.may_give streams)
      (may_give_at gaps_of.may_give gaps) (complements-at streams gaps all) runs
      (runs_by-within n complement
      (runs_by_all n any_of (length gaps) (may_give_at gaps_of.may_give gaps)) Outside outside runs
      may))

-- ---- draws of a complement of a union

-- Ranges that lie within the first returned range lie within some returned range.
one-within : (answer : Interval) (answers used : List Interval) → AreWithin answer used
    → AreWithinSome (answer ∷ answers) used
one-within answer answers [] within = tt
one-within answer answers (run ∷ used) within =
    (inl (within.0, within.1), one-within answer answers used within.2)

-- Ranges that lie within some returned range still do if there is one more returned range.
more-within : (answer : Interval) (answers used : List Interval) → AreWithinSome answers used
    → AreWithinSome (answer ∷ answers) used
more-within answer answers [] within = tt
more-within answer answers (run ∷ used) within =
    (inr within.0, more-within answer answers used within.1)

-- If the ranges of two lists lie within some returned ranges, so do those of both together.
both-within : (answers used others : List Interval) → AreWithinSome answers used
    → AreWithinSome answers others → AreWithinSome answers (used ++ others)
both-within answers [] others first second = second
both-within answers (run ∷ used) others first second =
    (first.0, both-within answers used others first.1 second)

module _ {T N I A : Type 0} (integer : Elements T N) (stream : Stream I T N) where
  open integer use {rank}

  -- The inputs of the union, if the range that it holds came from the given place.
  abbrev inputs : ℕ → MultiwayUnion T I A N → ℕ → Input
  inputs = multiway_union_inputs integer stream

  -- Whether the ranges that each input used lie within the returned ranges, and at most one range
  -- of each is held.
  abbrev UseWithin : List (RangeInclusive T) → ℕ → (s t : MultiwayUnion T I A N) → Type 0
  UseWithin answers from s t = (now_from : ℕ) × ((place : ℕ)
      → UsesWithin (intervals_of rank answers) (inputs from s place) (inputs now_from t place))

  -- Draws of the union use only ranges of each input that lie within the returned ranges.
  draws-use : (ranges : List (RangeInclusive T)) (s t : MultiwayUnion T I A N)
      → Yields (multiway_union integer stream).draw_gives s ranges t → (from : ℕ)
      → HoldOneAtMost (inputs from s) → UseWithin ranges from s t
  draws-use [] s t all from one = (
    from,
    λ place. subst (λ each. UsesWithin [] (inputs from s place) (inputs from each place)) all
        (record {
          used = [];
          uses = uses-nothing (inputs from s place);
          within = tt;
          one = one place;
        }),
  )
  draws-use (range ∷ ranges) s t all from one =
      let u = all.0 in
      let looks = all.1.asks from in
      let answer = interval_of rank range in
      let rest = draws-use ranges u t all.2 looks.0 (λ place.
      from-one (answer.last + 2) (inputs looks.0 u place).held (looks.1 place).ahead) in (
        rest.0,
        λ place. record {
          used = (looks.1 place).used ++ (rest.1 place).used;
          uses = uses-then (inputs from s place) (inputs looks.0 u place)
              (inputs rest.0 t place) (looks.1 place).used (rest.1 place).used
              (looks.1 place).uses (rest.1 place).uses;
          within = both-within (intervals_of rank (range ∷ ranges)) (looks.1 place).used
              (rest.1 place).used
              (one-within answer (intervals_of rank ranges) (looks.1 place).used
              (looks.1 place).within)
              (more-within answer (intervals_of rank ranges) (rest.1 place).used
              (rest.1 place).within);
          one = (rest.1 place).one;
        },
      )

  -- If one more draw returns `None`, it uses nothing more.
  draws-end : (ranges : List (RangeInclusive T)) (s t : MultiwayUnion T I A N)
      → YieldsThen (multiway_union integer stream).draw_gives s ranges None t → (from : ℕ)
      → HoldOneAtMost (inputs from s) → UseWithin ranges from s t
  draws-end ranges s t all from one =
      let u = all.0 in
      let first = draws-use ranges s u all.1 from one in
      let ends = all.2.asks first.0 in (
        first.0,
        λ place. record {
          used = (first.1 place).used ++ [];
          uses = uses-then (inputs from s place) (inputs first.0 u place) (inputs first.0 t place)
              (first.1 place).used [] (first.1 place).uses
              (uses-ended (inputs first.0 u place) (inputs first.0 t place) (ends place));
          within = both-within (intervals_of rank ranges) (first.1 place).used []
              (first.1 place).within tt;
          one = rw (ends place).over.held (omega arith);
        },
      )

  -- The same holds for the draws of the union that one draw of its complement makes.
  pub passes-use : (s t : NotIter T (MultiwayUnion T I A N)) (item : Option (RangeInclusive T))
      (passes : PassesOver integer (multiway_union integer stream) s item t) (from : ℕ)
      → HoldOneAtMost (inputs from s.iter) → UseWithin passes.used from s.iter t.iter
  passes-use s t item passes from one = elim passes.draws [
    | inl draws ↦ draws-use passes.used s.iter t.iter draws from one
    | inr draws ↦ draws-end passes.used s.iter t.iter draws.0 from one
  ]
