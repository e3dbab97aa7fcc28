use Rattle.rsb_storage.proofs.lemmas.splitting.Parting.{over-parting}
use Rattle.range_set_blaze.proofs.set.split.part.Goals as goal

-- No run starts below the key and contains it.
pub returns-clause-parting : goal.returns-clause-parting
returns-clause-parting g c =
    rw (c.in_ok-high.ensures.low, c.in_ok-high.ensures.high)
    (over-parting _ _ c.requires.canonical _ c.in_default.ensures)
