use Rattle.std.proofs.Common.{refl}
use Rattle.std.proofs.lemmas.Bool.{true≢false}
use Rattle.rsb_storage.specs.Storage.{run_of}
use Rattle.range_set_blaze.proofs.lemmas.fitting.FirstFits.{fit-before, fit-from, fit-lacks, none-anywhere, none-lacks, none-lower}
use Rattle.range_set_blaze.proofs.set.RangeSetBlaze.first_gap_from.Goals as goal

-- If every gap is shorter, no block fits.
pub returns-in_err-gap-clause-nowhere : goal.returns-in_err-gap-clause-nowhere
returns-in_err-gap-clause-nowhere g c = λ none start from some block.
    none-anywhere _ c.args.self.now (g.T.Integer.rank c.args.value) _ start from some block
    (rw (c.known.ensures.same, c.self.view_is) at c.in_err-gap.ensures)

-- No block fits below the first gap that is long enough.
pub returns-clause-lowest : goal.returns-clause-lowest
returns-clause-lowest g c = λ start from less some block.
    none-lower _ c.args.self.now (g.T.Integer.rank c.args.value) _ start from some block
    (run_of g.T.Integer.rank c.in_ok-gap.gap)
    (rw (c.known.ensures.same, c.self.view_is) at c.in_ok-gap.ensures).first
    (rw c.new.ensures.start at less)

-- That gap starts at the value or past it.
pub returns-clause-from : goal.returns-clause-from
returns-clause-from g c =
    rw c.new.ensures.start
    (fit-from _ c.args.self.now (g.T.Integer.rank c.args.value) _
    (run_of g.T.Integer.rank c.in_ok-gap.gap)
    (rw (c.known.ensures.same, c.self.view_is) at c.in_ok-gap.ensures))

-- If a gap of one value is long enough, only members lie between the value and the gap.
pub returns-clause-before : goal.returns-clause-before
returns-clause-before g c = λ any rank from before.
    fit-before _ c.args.self.now (g.T.Integer.rank c.args.value) _
    (run_of g.T.Integer.rank c.in_ok-gap.gap)
    (rw (c.known.ensures.same, c.self.view_is) at c.in_ok-gap.ensures) any rank from
    (rw c.new.ensures.start at before)

-- If there is no gap, all values from the given one on are members.
pub returns-in_err-gap-clause-full : goal.returns-in_err-gap-clause-full
returns-in_err-gap-clause-full g c = λ any. (
  (λ none. none-lacks _ c.args.self.now (g.T.Integer.rank c.args.value) _ any
      (rw (c.known.ensures.same, c.self.view_is) at c.in_err-gap.ensures)),
  (λ all. rw c.from_residual.ensures refl),
)

-- If there is one, its first value is not.
pub returns-clause-full : goal.returns-clause-full
returns-clause-full g c = λ any. (
  (λ none. absurd (true≢false none)),
  (λ all. absurd (fit-lacks _ c.args.self.now (g.T.Integer.rank c.args.value) _
      (run_of g.T.Integer.rank c.in_ok-gap.gap)
      (rw (c.known.ensures.same, c.self.view_is) at c.in_ok-gap.ensures) all)),
)
