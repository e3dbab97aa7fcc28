-- One draw of a merge of any number of streams.
use Rattle.std.proofs.Common.{◌≡◌, inl, inr, ℕ, ◌+◌, ◌<◌, ◌≤◌, true, false, cond, nat_lt, List, [], ◌∷◌, length, refl, sym, ap, subst, ◌∙◌, arith, None, Option, Some, IsFalse}
use Rattle.std.proofs.lemmas.Bool.{ltb-false}
use Rattle.std.specs.Iterator.{size, IsFinite, MakesProgress}
use Rattle.std.specs.Prelude.{IfSome}
use Rattle.std.specs.declared.ops.RangeInclusive.{RangeInclusive}
use Rattle.rsb_integer.specs.Rank.{interval_of}
use Rattle.rsb_integer.specs.Runs.{Interval}
use Rattle.rsb_integer.specs.declared.integer.Integer.{Ghosts as Elements}
use Rattle.rsb_integer.proofs.lemmas.List.{true_or_false}
use Rattle.rsb_streams.specs.Lookahead.{GivesFrom, Spares, TakesOne}
use Rattle.rsb_streams.specs.declared.draw.Draw.{Ghosts as Stream}
use Rattle.rsb_streams.proofs.lemmas.lookahead.EachCall.{uses-then}
use Rattle.rsb_streams.proofs.lemmas.sources.Known.{IsLawful}
use Rattle.rsb_many.specs.Drawn.{has_begun, inputs_of, HasNoHead, IsBegunOf, Refills, TakesHead}
use Rattle.rsb_many.specs.Heads.{closing_bound, head_of, key_of, run_of_head}
use Rattle.rsb_many.specs.Inputs.{input_at, inputs_left, inputs_merge, Inputs}
use Rattle.rsb_many.specs.KMerge.{comparison_bound, kmerge, kmerge_inputs, BeginsKMerge, KMergeReady}
use Rattle.rsb_many.specs.laws.KMerge.{inputs-finite}
use Rattle.rsb_many.specs.Keys.{comes_before}
use Rattle.rsb_many.specs.Many.{gives_of, may_give_at, merges_all}
use Rattle.rsb_many.specs.declared.drawn.Drawn.{Drawn}
use Rattle.rsb_many.specs.declared.heads.Head.{Head}
use Rattle.rsb_many.specs.declared.kmerge.KMerge.{KMerge}
use Rattle.rsb_many.proofs.lemmas.inputs.HeadLeaves.{few-compared, none-ends, none-long, none-might, none-nothing, none-ready, taken-ready}
use Rattle.rsb_many.proofs.lemmas.inputs.Leaves.{taken-fewer, taken-gives, taken-less, taken-long, taken-others_spared, taken-starts}
use Rattle.rsb_many.proofs.lemmas.inputs.OneInput.{gives_of-uses}
use Rattle.rsb_many.proofs.lemmas.inputs.Places.{at-place}
use Rattle.rsb_many.proofs.lemmas.merging.Lists.{merges_all-empty, merges_all-head, merges_all-nothing, merges_all-wider}

module _ {T N I A : Type 0} (integer : Elements T N) (stream : Stream I T N)
    (laws : IsLawful integer stream) (s t : KMerge T I A N) (m : Drawn T I A N)
    (ready : KMergeReady integer stream s) (filled : Refills integer stream s.inputs m) where
  open integer use {rank, value_count as n}

  -- The inputs before the draw.
  abbrev before : Inputs T I
  before = inputs_of s.inputs

  -- The inputs once the range that was due is drawn.
  abbrev middle : Inputs T I
  middle = inputs_of m

  -- The inputs after the draw.
  abbrev now : Inputs T I
  now = inputs_of t.inputs

  -- The draw made few comparisons.
  few-made : (made : ℕ) → made ≤ m.heads.comparisons + closing_bound m.heads
      → made ≤ s.inputs.heads.comparisons + comparison_bound (length s.inputs.streams.items)
  few-made made most = few-compared (length s.inputs.streams.items) (length m.heads.heads)
      s.inputs.heads.comparisons (m.heads.comparisons + closing_bound m.heads) made
      (omega (arith, filled.ready.room.few, filled.count)) filled.compared (omega (arith, most))

  -- ---- a head leaves
  module _ (head : Head T) (takes : TakesHead integer stream m head t.inputs) where
    -- The range of the head.
    abbrev run : Interval
    run = run_of_head rank head

    -- The start of the head's range was not reported.
    unstarted : head.started ≡ false
    unstarted = sym (ap has_begun takes.taken.was) ∙ filled.begun head.input
        ∙ ready.unstarted head.input

    -- Nor was that of a head that is left.
    others-unstarted : (place : ℕ) → has_begun (head_of t.inputs.heads.heads place) ≡ false
    others-unstarted = at-place (λ place. has_begun (head_of t.inputs.heads.heads place) ≡ false)
        head.input (ap has_begun takes.taken.leaves.here)
        (λ place differs. ap has_begun (takes.taken.leaves.others place differs)
        ∙ filled.begun place ∙ ready.unstarted place)

    -- A head that does not come before another starts no earlier.
    starts-later : (each : Head T) → each.started ≡ false → head.started ≡ false
        → IsFalse (comes_before (key_of rank each) (key_of rank head))
        → run.first ≤ rank each.start
    starts-later each first second later = elim (true_or_false (nat_lt (rank each.start) run.first)) [
      | inl less ↦
          let at : (key_of rank each).at ≡ rank each.start = rw first refl in
          let to : (key_of rank head).at ≡ run.first = rw second refl in
          let earlier : nat_lt (key_of rank each).at (key_of rank head).at ≡ true =
          subst (λ (place : ℕ). nat_lt place (key_of rank head).at ≡ true) (sym at)
          (subst (λ (place : ℕ). nat_lt (rank each.start) place ≡ true) (sym to) less) in
          let comes : comes_before (key_of rank each) (key_of rank head) ≡ true = rw earlier refl in
          absurd (cc)
      | inr most ↦ let bound = ltb-false (rank each.start) run.first most in omega (arith, bound)
    ]

    -- The same for each option of a head.
    later-by : (found : Option (Head T)) (place : ℕ) → has_begun found ≡ false
        → IfSome found (λ each. (each.input ≡ place)
        × IsFalse (comes_before (key_of rank each) (key_of rank head)))
        → IfSome found (λ each. run.first ≤ rank each.start)
    later-by None place not later = tt
    later-by (Some each) place not later = starts-later each not unstarted later.1

    -- No head that is left starts earlier.
    least : (place : ℕ) → IfSome (head_of t.inputs.heads.heads place)
        (λ each. run.first ≤ rank each.start)
    least place = later-by (head_of t.inputs.heads.heads place) place (others-unstarted place)
        (takes.taken.least place)

    -- The head's input gives the range.
    gives-here : GivesFrom (input_at integer stream before head.input) run
        (input_at integer stream now head.input)
    gives-here =
        let gives = taken-gives filled takes in
        record {
          uses = uses-then (input_at integer stream before head.input)
              (input_at integer stream middle head.input) (input_at integer stream now head.input)
              [] (run ∷ []) (filled.uses head.input) gives.uses;
          room = gives.room;
        }

    -- The other inputs are as `Spares` states.
    spares-others : (other : ℕ) → ¬ (other ≡ head.input)
        → Spares (input_at integer stream before other) run (input_at integer stream now other)
    spares-others other differs =
        let spares = taken-others_spared filled takes least other differs in
        record {
          uses = uses-then (input_at integer stream before other)
              (input_at integer stream middle other) (input_at integer stream now other) [] []
              (filled.uses other) spares.uses;
          later = spares.later;
        }

    -- So the draw takes one range.
    pub takes-one : TakesOne (kmerge_inputs integer stream s) run (kmerge_inputs integer stream t)
    takes-one = record { place = head.input; here = gives-here; elsewhere = spares-others }

    -- The number of streams is unchanged.
    long : length t.inputs.streams.items ≡ length s.inputs.streams.items
    long = taken-long filled takes ∙ filled.count

    -- The head belongs to one of the inputs.
    here-less : head.input < length s.inputs.streams.items
    here-less =
        let less = taken-less filled takes in
        omega (arith, less, filled.count)

    -- The range, followed by what the merge may give after the draw, is what it might give before.
    pub head-answers : (rest : List Interval) → inputs_merge integer stream now rest
        → inputs_merge integer stream before (run ∷ rest)
    head-answers rest may = merges_all-head n (length before.streams) head.input
        (λ place. gives_of (input_at integer stream before place))
        (λ place. gives_of (input_at integer stream now place)) run here-less
        (gives_of-uses gives-here.uses)
        (λ other less differs. gives_of-uses (spares-others other differs).uses)
        (λ place less. ready.drawn.inputs.sorted place)
        (λ place less. taken-starts filled takes least place)
        rest (rw long at may)

    -- The merge is ready again.
    pub head-ready : KMergeReady integer stream t
    head-ready = record {
      drawn = taken-ready filled takes;
      unstarted = others-unstarted;
    }

    -- At least one range fewer is left.
    pub head-less : IsFinite (inputs_left integer stream 1 before)
        → IsFinite (inputs_left integer stream 1 now)
        × (size (inputs_left integer stream 1 now) < size (inputs_left integer stream 1 before))
    head-less finite =
        let refilled = filled.left 1 finite in
        let taken = taken-fewer filled takes 1 refilled.0 in
        let one = ap (λ each. cond {A = ℕ} each 1 1) unstarted in
        (taken.0, omega (arith, refilled.1, taken.1, one))

    -- This is a draw of the merge that returns the range.
    pub head-known : (range : RangeInclusive T) → interval_of rank range ≡ run
        → t.inputs.heads.comparisons ≤ m.heads.comparisons + closing_bound m.heads
        → m.heads.comparisons ≤ t.inputs.heads.comparisons
        → (kmerge {A = A} integer stream).draw_gives s (Some range) t
    head-known range is compared counted = record {
      answers = λ rest may. subst (λ each. inputs_merge integer stream before (each ∷ rest)) (sym is)
          (head-answers rest may);
      rests = tt;
      asks = record {
        takes = subst (λ each. TakesOne (kmerge_inputs integer stream s) each
            (kmerge_inputs integer stream t)) (sym is) takes-one;
        count = long;
        compared = few-made t.inputs.heads.comparisons compared;
        counted = omega (arith, filled.counted, counted);
      };
    }

    -- The draw makes progress.
    pub head-goes : (range : RangeInclusive T)
        → MakesProgress (KMergeReady {A = A} integer stream)
        (λ each. inputs_left integer stream 1 (inputs_of each.inputs)) s (Some range) t
    head-goes range = record {
      on = λ finite. let less = head-less finite in (head-ready, less.0, less.1);
      keeps = head-ready;
      rests = λ finite. tt;
    }

  -- ---- there is no head
  module _ (none : HasNoHead m t.inputs) where
    -- The merge is ready again.
    none-again : KMergeReady integer stream t
    none-again = record {
      drawn = none-ready filled none;
      unstarted = λ place. ap has_begun (none.new.none place);
    }

    -- This is a draw of the merge that returns `None`.
    pub none-known : t.inputs.heads.comparisons ≤ m.heads.comparisons + closing_bound m.heads
        → m.heads.comparisons ≤ t.inputs.heads.comparisons
        → (kmerge {A = A} integer stream).draw_gives s None t
    none-known compared counted = record {
      answers = merges_all-empty n (length before.streams)
          (λ place. gives_of (input_at integer stream before place))
          (λ place less. none-might filled none place);
      rests = (
        none-again,
        merges_all-nothing n (length now.streams)
            (λ place. gives_of (input_at integer stream now place))
            (λ place less. none-nothing filled none
            place),
      );
      asks = record {
        takes = none-ends filled none;
        count = none-long filled none ∙ filled.count;
        compared = few-made t.inputs.heads.comparisons compared;
        counted = omega (arith, filled.counted, counted);
      };
    }

    -- The draw makes progress.
    pub none-goes : MakesProgress {A = RangeInclusive T} (KMergeReady {A = A} integer stream)
        (λ each. inputs_left integer stream 1 (inputs_of each.inputs)) s None t
    none-goes = record {
      on = λ finite. tt;
      keeps = tt;
      rests = λ finite. inputs-finite integer stream laws.sorted 1 now none-again.drawn.inputs;
    }

-- ---- a merge that was just built
module _ {T N I A : Type 0} (integer : Elements T N) (stream : Stream I T N) (streams : List I)
    (s : KMerge T I A N) (begun : IsBegunOf integer stream streams s.inputs) where
  -- It merges the streams.
  pub begun-made : BeginsKMerge integer stream (kmerge integer stream) streams s
  begun-made = record {
    made = record {
      ready = record { drawn = begun.ready; unstarted = begun.unstarted };
      gives = λ runs may. merges_all-wider integer.value_count (length streams)
          (may_give_at stream.may_give streams)
          (λ place. gives_of (kmerge_inputs integer stream s place))
          (λ place less. (begun.begun place).gives) runs
          (subst (λ count. merges_all integer.value_count count
          (λ place. gives_of (kmerge_inputs integer stream s place)) runs) begun.count may);
    };
    begun = begun.begun;
    count = begun.count;
  }
