use Rattle.rsb_integer.proofs.lemmas.Runs.{canonical-runs}
use Rattle.range_set_blaze.proofs.laws.stream_ranges_are_maximal_runs.Goals as goal

-- Whatever a ready stream may give is canonical.
pub returns : goal.returns
returns g c stream runs ready may =
    let canonical = g.met.I.DrawDisjoint.canonical stream ready runs may in
    canonical-runs g.T.Integer.value_count runs canonical.apart canonical.within
