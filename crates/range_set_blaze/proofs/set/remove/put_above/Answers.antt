use Rattle.std.proofs.Common.{refl, sym, subst}
use Rattle.rsb_storage.specs.Storage.{run_of}
use Rattle.range_set_blaze.specs.Removal.{IsCutAbove}
use Rattle.range_set_blaze.proofs.lemmas.removal.Cuts.{cut-above, cut-last}
use Rattle.rsb_storage.proofs.lemmas.runs.Storage.{lt-fails}
use Rattle.range_set_blaze.proofs.set.remove.put_above.Goals as goal

-- The part of the run above the value is inserted.
pub returns-in_ok-put-clause-above : goal.returns-in_ok-put-clause-above
returns-in_ok-put-clause-above g c =
    subst (IsCutAbove _ _ (run_of g.T.Integer.rank c.args.run) (g.T.Integer.rank c.args.value))
    (sym c.in_ok-put.ensures.runs)
    (cut-above _ _ c.requires.canonical _ c.requires.among _ c.requires.from c.requires.to _
    c.add_one-start.ensures refl (c.is_below.ensures.0 c.if-is_below.true))

-- If there is no such part, the runs are unchanged.
pub returns-else-is_below-clause-above : goal.returns-else-is_below-clause-above
returns-else-is_below-clause-above g c =
    cut-last _ _ c.requires.canonical _ c.requires.among _ c.requires.from c.requires.to
    (lt-fails c.is_below.result _ _ c.is_below.ensures c.if-is_below.false)
