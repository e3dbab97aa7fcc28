-- One call of an iterator over blocks: the span from which it takes a block, and what it leaves.
use Rattle.std.proofs.Common.{◌≡◌, ℕ, ◌+◌, ◌-◌, ◌*◌, ◌^◌, ◌<◌, ◌≤◌, List, [], ◌∷◌, ◌++◌, refl, sym, ap, ◌∙◌, subst, arith, All}
use Rattle.std.proofs.lemmas.List.Elements.{All-cons, All-head, All-nil, All-tail}
use Rattle.std.proofs.lemmas.Nat.{pow_pos, row_fits}
use Rattle.std.specs.Prelude.{Option, Some, None}
use Rattle.std.specs.Iterator.{Count, IsFinite, MakesProgress, Yields, size}
use Rattle.std.specs.Range.{range_inclusive_start, range_inclusive_end}
use Rattle.std.specs.declared.ops.RangeInclusive.{RangeInclusive}
use Rattle.rsb_integer.proofs.lemmas.Canonical.{canonical-lower}
use Rattle.rsb_streams.specs.laws.Stream.{settled_le, settled_lt}
use Rattle.range_set_blaze.specs.Rank.{interval_of}
use Rattle.range_set_blaze.specs.Runs.{length_of, members, Interval, IsCanonicalFrom, IsCanonicalIn}
use Rattle.range_set_blaze.specs.Stream.{◌⊆◌, HasOutcome, Outcomes}
use Rattle.range_set_blaze.proofs.RangeLemmas.{interval_of-some}
use Rattle.ip_sets.specs.Blocks.{AreMaximalBlocks, IsMaximalBlock}
use Rattle.ip_sets.specs.BlocksLeft.{block_run, block_runs, blocks_left, blocks_may_give, runs_left, span_length, span_list, span_run, BlocksReady, GivesBlock, GivesBlocks, IsAligned, IsRest, IsSplit, TakesNone, TakesSpan}
use Rattle.ip_sets.specs.declared.blocks.Blocks.{Blocks}
use Rattle.ip_sets.specs.declared.blocks.block.Block.{Block}
use Rattle.ip_sets.specs.declared.blocks.span.Span.{Span}
use Rattle.ip_sets.proofs.lemmas.aligned.Biggest.{biggest-block, biggest-maximal, past-part, past-whole}
use Rattle.ip_sets.proofs.lemmas.aligned.OneMore.{IsPast, no-blocks, one-more}

module _ {T I : Type 0} (rank : T → ℕ) (n : ℕ) (can_draw : I → Type 0) (may_give : I → Outcomes)
    (left : I → Count) where
  -- Whether the iterator may be called.
  abbrev Ready : Blocks T I → Type 0
  Ready = BlocksReady rank n can_draw may_give

  -- Whether the span comes first of what is left.
  abbrev Takes : Blocks T I → Span T → Blocks T I → Type 0
  Takes = TakesSpan rank n can_draw may_give left

  -- ---- the next span

  module _ (s t : Blocks T I) (ready : Ready s) (callable : can_draw t.ranges)
      (some : HasOutcome (may_give t.ranges)) where
    -- If a run comes first of what is left, it is non-empty.
    first-ordered : (run : Interval) → ((given : List Interval) → may_give t.ranges given
        → runs_left rank may_give s (run ∷ given)) → run.first ≤ run.last
    first-ordered run comes = settled_le run.first run.last (λ fails. some (λ given may.
        fails (ready.canonical (run ∷ given) (comes given may)).apart.in_order))

    -- It is in the type, too.
    first-in_type : (run : Interval) → ((given : List Interval) → may_give t.ranges given
        → runs_left rank may_give s (run ∷ given)) → run.last < n
    first-in_type run comes = settled_lt run.last n (λ fails. some (λ given may.
        fails (All-head (λ (each : Interval). each.last < n) run given
        (ready.canonical (run ∷ given) (comes given may)).within)))

    -- The span that is held comes first.
    pub takes-held : (span : Span T) → s.rest ≡ Some span → t.ranges ≡ s.ranges → Takes s span t
    takes-held span held same =
        let comes : (given : List Interval) → may_give t.ranges given
        → runs_left rank may_give s (span_run rank span ∷ given) = λ given may. (
          given,
          subst (λ each. may_give each given) same may,
          subst (λ each. span_run rank span ∷ given ≡ span_list rank each ++ given) (sym held) refl,
        ) in
        let length = ap (span_length rank) held in
        let count = ap (λ each. size (left each) * n) same in
        record {
          callable = callable;
          comes = comes;
          in_order = first-ordered (span_run rank span) comes;
          in_type = first-in_type (span_run rank span) comes;
          ends = λ finite. (
            subst (λ each. IsFinite (left each)) (sym same) finite,
            omega (arith, length, count),
          );
        }

    -- If no span is held, the next range of the stream comes first.
    pub takes-drawn : (range : RangeInclusive T) (span : Span T) → s.rest ≡ None
        → ((given : List Interval) → may_give t.ranges given
        → may_give s.ranges (interval_of rank range ∷ given))
        → (IsFinite (left s.ranges) → can_draw t.ranges × IsFinite (left t.ranges)
        × (size (left t.ranges) < size (left s.ranges)))
        → span.first ≡ range_inclusive_start range → span.last ≡ range_inclusive_end range
        → Takes s span t
    takes-drawn range span none answers goes start end =
        let run = interval_of rank range in
        let drawn : (given : List Interval) → may_give t.ranges given
        → runs_left rank may_give s (run ∷ given) = λ given may. (
          run ∷ given,
          answers given may,
          subst (λ each. run ∷ given ≡ span_list rank each ++ (run ∷ given)) (sym none) refl,
        ) in
        let ordered = first-ordered run drawn in
        let first = ap rank (sym start) in
        let last = ap rank (sym end) in
        let same : run ≡ span_run rank span = interval_of-some rank range ordered
        ∙ (λ i. record { first = first i; last = last i }) in
        let comes : (given : List Interval) → may_give t.ranges given
        → runs_left rank may_give s (span_run rank span ∷ given) = λ given may.
        subst (λ each. runs_left rank may_give s (each ∷ given)) same (drawn given may) in
        let in_type = first-in_type (span_run rank span) comes in
        record {
          callable = callable;
          comes = comes;
          in_order = first-ordered (span_run rank span) comes;
          in_type = in_type;
          ends = λ finite.
              let all = goes finite in
              let fits = row_fits (size (left t.ranges)) n (size (left s.ranges)) n all.2
              (omega arith) in
              (all.1, omega (arith, fits, in_type));
        }

  -- If no span is held and the stream has ended, nothing is left.
  pub takes-none : (s t : Blocks T I) → s.rest ≡ None → may_give s.ranges []
      → (IsFinite (left s.ranges) → IsFinite (left t.ranges))
      → TakesNone rank n can_draw may_give left s t
  takes-none s t none may ends = record {
    nothing = (
      [],
      may,
      subst (λ each. [] ≡ span_list rank each ++ []) (sym none) refl,
    );
    ends = ends;
  }

  -- ---- one block of the span

  module _ (width : ℕ) (s t : Blocks T I) (span : Span T) (block : Block T)
      (rest : Option (Span T)) (ready : Ready s) (takes : Takes s span t)
      (split : IsSplit rank width span block rest) where
    -- The ranks of the span.
    abbrev run : Interval
    run = span_run rank span

    -- The ranks of the block.
    abbrev own : Interval
    own = block_run rank width block

    -- The block starts with the span.
    own-starts : own.first ≡ run.first
    own-starts = split.starts

    -- The block has `2 ^ free` ranks.
    own-ends : own.last + 1 ≡ run.first + 2 ^ (width - block.length)
    own-ends =
        let some = pow_pos (width - block.length) in
        let starts = split.starts in
        omega (arith, some, starts)

    -- What is left is canonical, with the span first.
    span-canonical : (given : List Interval) → may_give t.ranges given
        → IsCanonicalIn n (run ∷ given)
    span-canonical given may = ready.canonical (run ∷ given) (takes.comes given may)

    -- The block is maximal.
    own-maximal : (given : List Interval) → may_give t.ranges given
        → IsMaximalBlock (members (run ∷ given)) own
    own-maximal given may =
        biggest-maximal run given takes.in_order (span-canonical given may).apart.rest
        (width - block.length) split.biggest own own-starts own-ends

    -- Past the block, the rest of the span is left, and what the stream may give.
    own-past : (more : Option (Span T)) → IsRest rank run (2 ^ (width - block.length)) more
        → (given : List Interval) → may_give t.ranges given
        → IsPast (members (run ∷ given)) own (members (span_list rank more ++ given))
    own-past None is given may =
        let ends = own-ends in
        past-whole run given takes.in_order (span-canonical given may).apart.rest
        (width - block.length) split.biggest own own-starts own-ends
        (omega (arith, is, ends))
    own-past (Some more) is given may =
        let ends = own-ends in
        past-part run given takes.in_order (span-canonical given may).apart.rest
        (width - block.length) split.biggest own own-starts own-ends
        (span_run rank more) (omega (arith, is.0, ends)) is.1

    -- So the maximal blocks of what is left past it, after the block, are those of what was left.
    own-answers : (given blocks : List Interval) → may_give t.ranges given
        → AreMaximalBlocks (members (span_list rank rest ++ given)) blocks
        → AreMaximalBlocks (members (run ∷ given)) (own ∷ blocks)
    own-answers given blocks may are =
        one-more (members (run ∷ given)) (members (span_list rank rest ++ given)) own
        (own-maximal given may) (own-past rest split.left given may) blocks are

    -- What is left past the block is canonical.
    rest-canonical : (more : Option (Span T)) → IsRest rank run (2 ^ (width - block.length)) more
        → (given : List Interval) → IsCanonicalIn n (run ∷ given)
        → IsCanonicalIn n (span_list rank more ++ given)
    rest-canonical None is given canonical = record {
      apart = canonical-lower (run.last + 2) 0 given (omega arith) canonical.apart.rest;
      within = All-tail (λ (each : Interval). each.last < n) run given canonical.within;
    }
    rest-canonical (Some more) is given canonical =
        let in_type = takes.in_type in
        record {
          apart = record {
            starts = omega arith;
            in_order = is.2;
            rest = subst (λ last. IsCanonicalFrom (last + 2) given) (sym is.1) canonical.apart.rest;
          };
          within = All-cons (λ (each : Interval). each.last < n) (span_run rank more) given
              (omega (arith, in_type, is.1))
              (All-tail (λ (each : Interval). each.last < n) run given canonical.within);
        }

    -- Fewer ranks are left past the block.
    rest-shorter : (more : Option (Span T)) → IsRest rank run (2 ^ (width - block.length)) more
        → span_length rank more < length_of run
    rest-shorter None is = let ordered = takes.in_order in omega (arith, ordered)
    rest-shorter (Some more) is =
        let some = pow_pos (width - block.length) in
        omega (arith, some, is.0, is.1, is.2)

    module _ (u : Blocks T I) (same : u.ranges ≡ t.ranges) (leaves : u.rest ≡ rest) where
      -- What is left past the block, as what the stream may give after the span.
      left-after : (runs : List Interval) → runs_left rank may_give u runs
          → (given : List Interval) × may_give t.ranges given
          × (runs ≡ span_list rank rest ++ given)
      left-after runs at = (
        at.0,
        subst (λ each. may_give each at.0) same at.1,
        subst (λ each. runs ≡ span_list rank each ++ at.0) leaves at.2,
      )

      -- The iterator may be called again.
      pub split-ready : Ready u
      split-ready = record {
        callable = subst can_draw (sym same) takes.callable;
        canonical = λ runs at.
            let after = left-after runs at in
            subst (IsCanonicalIn n) (sym after.2)
            (rest-canonical rest split.left after.0 (span-canonical after.0 after.1));
      }

      -- The call returned the block that may come first.
      pub split-gives : GivesBlock rank width may_give s (Some block) u
      split-gives = record {
        aligned = (
          split.prefix,
          biggest-block run own (width - block.length) split.biggest own-starts own-ends,
        );
        answers = λ blocks at.
            let after = left-after at.0 at.1 in (
              run ∷ after.0,
              takes.comes after.0 after.1,
              own-answers after.0 blocks after.1
                  (subst (λ runs. AreMaximalBlocks (members runs) blocks) after.2 at.2),
            );
      }

      -- The call made progress.
      pub split-goes : MakesProgress Ready (blocks_left rank n left) s (Some block) u
      split-goes =
          let count = ap (λ each. size (left each) * n) same in
          let length = ap (span_length rank) leaves in
          let shorter = rest-shorter rest split.left in
          record {
            on = λ finite.
                let ends = takes.ends finite in (
                  split-ready,
                  subst (λ each. IsFinite (left each)) (sym same) ends.0,
                  omega (arith, count, length, shorter, ends.1),
                );
            keeps = split-ready;
            rests = λ finite. tt;
          }

  -- ---- the end

  module _ (width : ℕ) (s t : Blocks T I) (takes : TakesNone rank n can_draw may_give left s t)
    where
      -- If nothing is left, no block may come.
      pub none-gives : GivesBlock rank width may_give s None t
      none-gives = record { aligned = tt; answers = ([], takes.nothing, no-blocks) }

      -- The call made progress.
      pub none-goes : MakesProgress {A = Block T} Ready (blocks_left rank n left) s None t
      none-goes = record { on = λ finite. tt; keeps = tt; rests = takes.ends }

-- ---- all calls

-- What calls gave until `None` is a list that may come.
pub all-given : {T I : Type 0} (rank : T → ℕ) (width : ℕ) (may_give : I → Outcomes)
    (items : List (Block T)) (s t u : Blocks T I)
    → Yields (GivesBlock rank width may_give) s items t → GivesBlock rank width may_give t None u
    → blocks_may_give rank may_give s (block_runs rank width items)
all-given rank width may_give [] s t u calls end =
    subst (λ each. blocks_may_give rank may_give each []) (sym calls) end.answers
all-given rank width may_give (block ∷ items) s t u calls end =
    calls.1.answers (block_runs rank width items)
    (all-given rank width may_give items calls.0 t u calls.2 end)

-- Each block that calls gave is aligned.
pub all-aligned : {T I : Type 0} (rank : T → ℕ) (width : ℕ) (may_give : I → Outcomes)
    (items : List (Block T)) (s t : Blocks T I)
    → Yields (GivesBlock rank width may_give) s items t → All (IsAligned rank width) items
all-aligned rank width may_give [] s t calls = All-nil (IsAligned rank width)
all-aligned rank width may_give (block ∷ items) s t calls =
    All-cons (IsAligned rank width) block items calls.1.aligned
    (all-aligned rank width may_give items calls.0 t calls.2)

-- An iterator from which nothing was drawn gives the blocks of what its stream may give.
pub fresh-gives : {T I : Type 0} (rank : T → ℕ) (may_give : I → Outcomes) (ranges : I)
    (s : Blocks T I) → s.ranges ≡ ranges → s.rest ≡ None
    → GivesBlocks (may_give ranges) (blocks_may_give rank may_give s)
fresh-gives rank may_give ranges s same none blocks at =
    let runs = at.1 in
    let is = subst (λ each. at.0 ≡ span_list rank each ++ runs.0) none runs.2 in (
      runs.0,
      subst (λ each. may_give each runs.0) same runs.1,
      subst (λ each. AreMaximalBlocks (members each) blocks) is at.2,
    )

-- If the stream is ready and canonical, so is such an iterator.
pub fresh-ready : {T I : Type 0} (rank : T → ℕ) (n : ℕ) (can_draw : I → Type 0)
    (may_give : I → Outcomes) (ranges : I) (s : Blocks T I) → s.ranges ≡ ranges → s.rest ≡ None
    → can_draw ranges → may_give ranges ⊆ IsCanonicalIn n → BlocksReady rank n can_draw may_give s
fresh-ready rank n can_draw may_give ranges s same none can canonical = record {
  callable = subst can_draw (sym same) can;
  canonical = λ runs at.
      let is = subst (λ each. runs ≡ span_list rank each ++ at.0) none at.2 in
      subst (IsCanonicalIn n) (sym is)
      (canonical at.0 (subst (λ each. may_give each at.0) same at.1));
}
