use Rattle.std.proofs.Common.{refl, subst, sym}
use Rattle.std.proofs.lemmas.Bool.{true≢false}
use Rattle.rsb_integer.specs.Runs.{covers, members}
use Rattle.rsb_integer.proofs.lemmas.List.{not_both}
use Rattle.rsb_storage.specs.Set.{Adds}
use Rattle.rsb_storage.specs.Storage.{run_of}
use Rattle.range_set_blaze.proofs.lemmas.insertion.Bounds.{adds-all}
use Rattle.range_set_blaze.proofs.lemmas.runs.Counts.{run_count-added}
use Rattle.range_set_blaze.proofs.set.RangeSetBlaze.insert_run.Goals as goal

-- One run is added to the runs of the set.
pub returns-clause-run_count : goal.returns-clause-run_count
returns-clause-run_count g c =
    let rank = g.T.Integer.rank in
    let inserted = rw c.in-Some.is at c.in_ok-length.ensures.inserted in
    rw (← c.self.view_is) (run_count-added g.T.Integer.value_count
    c.self.inside.runs c.add_run.new.runs
    c.self.invariant.canonical inserted.kept.canonical (run_of rank c.args.run) c.requires.order
    c.requires.value inserted.adds)

-- If some value of the run was not a member, all are added.
pub returns-clause-members : goal.returns-clause-members
returns-clause-members g c =
    let inserted = rw c.in-Some.is at c.in_ok-length.ensures.inserted in
    rw (← c.self.view_is) inserted.adds

-- Otherwise the runs are unchanged.
pub returns-in_default-clause-members : goal.returns-in_default-clause-members
returns-in_default-clause-members g c =
    let run = run_of g.T.Integer.rank c.args.run in
    let same = (rw c.in_default.is at c.in_ok-length.ensures.unchanged) refl in
    let within = (rw c.in_default.is at c.in_ok-length.ensures.within) refl in
    rw (← c.self.view_is) (subst (λ new. Adds c.self.inside.runs new (covers run)) (sym same)
    (adds-all c.self.inside.runs run within))

pub returns-in_default-clause-added : goal.returns-in_default-clause-added
returns-in_default-clause-added g c =
    let within = (rw c.in_default.is at c.in_ok-length.ensures.within) refl in
    rw (← c.self.view_is) (
      (λ is. absurd (true≢false (sym is))),
      (λ lacks. absurd (not_both (members c.self.inside.runs lacks.0) (within lacks.0 lacks.1)
          lacks.2)),
    )
