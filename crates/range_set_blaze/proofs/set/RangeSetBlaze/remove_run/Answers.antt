use Rattle.std.proofs.Common.{refl, subst, sym}
use Rattle.std.proofs.lemmas.Bool.{true≢false}
use Rattle.rsb_integer.specs.Runs.{covers}
use Rattle.rsb_storage.specs.Set.{Removes}
use Rattle.rsb_storage.specs.Storage.{run_of}
use Rattle.range_set_blaze.proofs.lemmas.removal.Between.{removes-nothing}
use Rattle.range_set_blaze.proofs.lemmas.removal.Meeting.{some-common}
use Rattle.range_set_blaze.proofs.lemmas.runs.Counts.{run_count-without}
use Rattle.range_set_blaze.proofs.set.RangeSetBlaze.remove_run.Goals as goal

-- The values of one run are removed from the runs of the set.
pub returns-clause-run_count : goal.returns-clause-run_count
returns-clause-run_count g c =
    let rank = g.T.Integer.rank in
    let kept = rw c.in-Some.is at c.in_ok-length.ensures.found.kept in
    let removed = (rw c.in-Some.is at c.in_ok-length.ensures.found.removed) refl in
    rw (← c.self.view_is) (run_count-without g.T.Integer.value_count
    c.self.inside.runs c.remove_window.new.runs
    c.self.invariant.canonical kept.canonical (run_of rank c.args.run) c.requires.order
    c.requires.value removed)

-- If some value of the run was a member, all are removed.
pub returns-clause-members : goal.returns-clause-members
returns-clause-members g c =
    let removed = (rw c.in-Some.is at c.in_ok-length.ensures.found.removed) refl in
    rw (← c.self.view_is) removed

-- Otherwise the runs are unchanged.
pub returns-in_default-clause-members : goal.returns-in_default-clause-members
returns-in_default-clause-members g c =
    let run = run_of g.T.Integer.rank c.args.run in
    let same = (rw c.in_default.is at c.in_ok-length.ensures.found.unchanged) refl in
    let none = (rw c.in_default.is at c.in_ok-length.ensures.found.none) refl in
    rw (← c.self.view_is) (subst (λ new. Removes c.self.inside.runs new (covers run)) (sym same)
    (removes-nothing c.self.inside.runs run none))

pub returns-in_default-clause-removed : goal.returns-in_default-clause-removed
returns-in_default-clause-removed g c =
    let none = (rw c.in_default.is at c.in_ok-length.ensures.found.none) refl in
    rw (← c.self.view_is) (
      (λ is. absurd (true≢false (sym is))),
      (λ some. absurd (some-common _ (run_of g.T.Integer.rank c.args.run) none some)),
    )
