use Rattle.std.proofs.Common.{◌≡◌, ◌∙◌, Contains, List, OnOk, ap, refl, sym, subst}
use Rattle.rsb_integer.specs.Runs.{Interval}
use Rattle.rsb_storage.specs.Storage.{run_of}
use Rattle.rsb_storage.specs.Starts.{runs_below, starting_from, with_run, without_start}
use Rattle.rsb_storage.proofs.lemmas.splitting.Parting.{within-parting, within-there, within-without}
use Rattle.range_set_blaze.proofs.set.split.part_within.Goals as goal

-- One of those has the start of the run, so the insertion does not fail.
pub unwrap-requires : goal.unwrap-requires
unwrap-requires g c =
    let low = c.in-Ok.ensures.low
    ∙ ap (runs_below (g.T.Integer.rank c.args.key)) c.in_ok-put.ensures.runs in
    c.put-in-Ok.ensures.succeeds (run_of g.T.Integer.rank c.args.run)
    (subst (λ (runs : List Interval). Contains runs (run_of g.T.Integer.rank c.args.run)) (sym low)
    (within-there _ _ c.requires.canonical _ (run_of g.T.Integer.rank c.args.run)
    c.requires.among c.requires.above c.requires.within _ refl)) refl

-- The runs are split at the key.
pub returns-in-Ok-clause-parting : goal.returns-in-Ok-clause-parting
returns-in-Ok-clause-parting g c =
    let rank = g.T.Integer.rank in
    let n = g.T.Integer.value_count in
    let old = c.args.runs.now in
    let low = run_of rank (record { start = c.args.run.start; end = c.sub_one-end.result }) in
    let high = run_of rank (record { start = c.args.key; end = c.args.run.end }) in
    let put = subst (λ result. OnOk result (c.put-in-Ok.new.self
    ≡ with_run low c.split_off.new.self)) c.unwrap.ensures
    c.put-in-Ok.ensures.runs in
    let is_low = put ∙ ap (with_run low) (c.in-Ok.ensures.low
    ∙ ap (runs_below (rank c.args.key)) c.in_ok-put.ensures.runs) in
    let is_high = c.in-Ok.ensures.high
    ∙ ap (starting_from (rank c.args.key)) c.in_ok-put.ensures.runs in
    rw (is_low, is_high)
    (within-parting n old c.requires.canonical (rank c.args.key) (run_of rank c.args.run)
    c.requires.among c.requires.above c.requires.within low high refl c.sub_one-end.ensures refl refl)

pub returns-in-Err-clause-err : goal.returns-in-Err-clause-err
returns-in-Err-clause-err g c =
    c.remove.ensures
    ∙ ap (without_start (g.T.Integer.rank c.args.key))
    (c.in-Err.ensures.err ∙ c.in_ok-put.ensures.runs)
    ∙ within-without _ _ c.requires.canonical _ (run_of g.T.Integer.rank c.args.run)
    c.requires.among c.requires.above c.requires.within _ refl
