use Rattle.std.proofs.Common.{subst}
use Rattle.rsb_storage.specs.Storage.{run_of}
use Rattle.rsb_storage.specs.Starts.{IsLastBelow, NoneBelow}
use Rattle.rsb_storage.proofs.lemmas.splitting.Parting.{last-over}
use Rattle.rsb_storage.proofs.look_up.run_over.Goals as goal

-- If no run starts below the key, none extends over it.
pub returns-in_err-run : goal.returns-in_err-run
returns-in_err-run g c =
    rw c.from_residual-in_err-run.ensures
    (λ run found starts reaches. subst (NoneBelow c.args.runs.now)
    c.in_ok-before.ensures.some c.in_err-run.ensures run found starts)

-- If the last of those runs ends below the key, none extends over it.
pub returns-then-ends_before : goal.returns-then-ends_before
returns-then-ends_before g c =
    last-over _ _ c.requires.canonical _ _
    (subst (λ bound. IsLastBelow c.args.runs.now bound
    (run_of g.T.Integer.rank c.in_ok-run.run')) c.in_ok-before.ensures.some c.in_ok-run.ensures)
    (c.ends_before.ensures.0 c.if-ends_before.true)
