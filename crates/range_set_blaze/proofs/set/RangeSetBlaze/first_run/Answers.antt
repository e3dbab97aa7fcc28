use Rattle.std.proofs.Common.{refl}
use Rattle.std.proofs.lemmas.Bool.{true≢false}
use Rattle.rsb_storage.specs.Storage.{run_of}
use Rattle.range_set_blaze.proofs.lemmas.fitting.FirstFits.{fit-after, fit-some, none-runs}
use Rattle.range_set_blaze.proofs.set.RangeSetBlaze.first_run.Goals as goal

-- If a run of one value is long enough, no member lies before the first run.
pub returns-clause-before : goal.returns-clause-before
returns-clause-before g c = λ any rank before.
    rw (← c.self.view_is) (fit-after _ c.self.inside.runs _ (run_of g.T.Integer.rank c.in_ok-run.run')
    c.in_ok-run.ensures any rank (rw c.new.ensures.start at before))

-- If there is no run, the set is empty.
pub returns-in_err-run-clause-empty : goal.returns-in_err-run-clause-empty
returns-in_err-run-clause-empty g c = λ any. (
  (λ none. rw (← c.self.view_is) (none-runs _ c.self.inside.runs _ c.self.invariant.canonical any
      c.in_err-run.ensures)),
  (λ all. rw c.from_residual.ensures refl),
)

-- If there is one, it has a member.
pub returns-clause-empty : goal.returns-clause-empty
returns-clause-empty g c = λ any. (
  (λ none. absurd (true≢false none)),
  (λ all. absurd (fit-some _ c.self.inside.runs _ (run_of g.T.Integer.rank c.in_ok-run.run')
      c.in_ok-run.ensures (rw (← c.self.view_is) at all))),
)
