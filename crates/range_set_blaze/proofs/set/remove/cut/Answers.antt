use Rattle.std.proofs.Common.{◌≡◌, OnOk, arith, sym, subst, refl}
use Rattle.rsb_storage.specs.Storage.{run_of}
use Rattle.range_set_blaze.specs.Removal.{IsRemoved}
use Rattle.rsb_storage.specs.Starts.{with_run}
use Rattle.range_set_blaze.proofs.lemmas.removal.Cuts.{cut-low, cut-none}
use Rattle.rsb_storage.proofs.lemmas.runs.Storage.{lt-fails}
use Rattle.range_set_blaze.proofs.set.remove.cut.Goals as goal

-- An entry has the start of the run, so the insertion does not fail.
pub unwrap-requires : goal.unwrap-requires
unwrap-requires g c =
    let there = c.in_ok-put_above.ensures.above.there in
    c.put.ensures.succeeds there.0 there.1 there.2

-- The part of the run below the piece replaces the run.
pub returns-then-starts_before-clause-removed : goal.returns-then-starts_before-clause-removed
returns-then-starts_before-clause-removed g c =
    let rank = g.T.Integer.rank in
    let mid = c.put_above.new.runs in
    let low = run_of rank (record { start = c.args.run.start; end = c.sub_one-end.result }) in
    let is = subst (λ result. OnOk result
    (c.put.new.self ≡ with_run low mid)) c.unwrap.ensures
    c.put.ensures.runs in
    subst (λ runs. IsRemoved g.T.Integer.value_count c.args.runs.now runs
    (run_of rank c.args.piece)) (sym is)
    (cut-low _ _ c.requires.canonical _ c.requires.among _
    (omega (arith, c.requires.from, c.requires.order)) c.requires.to _ c.requires.from
    c.requires.order _ c.in_ok-put_above.ensures.above low refl c.sub_one-end.ensures
    (c.starts_before.ensures.0 c.if-starts_before.true))

-- If there is no such part, the entry is removed.
pub returns-else-starts_before-clause-removed : goal.returns-else-starts_before-clause-removed
returns-else-starts_before-clause-removed g c =
    let rank = g.T.Integer.rank in
    subst (λ runs. IsRemoved g.T.Integer.value_count c.args.runs.now runs
    (run_of rank c.args.piece)) (sym c.remove.ensures)
    (cut-none _ _ c.requires.canonical _ c.requires.among _
    (omega (arith, c.requires.from, c.requires.order)) c.requires.to _ c.requires.from
    c.requires.order _ c.in_ok-put_above.ensures.above
    (lt-fails c.starts_before.result _ _ c.starts_before.ensures c.if-starts_before.false))
