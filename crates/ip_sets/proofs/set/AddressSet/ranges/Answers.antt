use Rattle.std.proofs.Common.{◌∙◌, ap}
use Rattle.rsb_integer.proofs.lemmas.Runs.{canonical-runs}
use Rattle.range_set_blaze.specs.Rank.{intervals_of, ranges_of}
use Rattle.ip_sets.proofs.lemmas.listing.Pairs.{spans-of-ranges}
use Rattle.ip_sets.proofs.set.AddressSet.ranges.Goals as goal

-- The ranges have the intervals of the runs, which are canonical.
pub returns : goal.returns
returns g c =
    let rank = g.T.Integer.rank in
    let canonical = c.self.invariant in
    let are = ap (λ pairs. intervals_of rank (ranges_of pairs)) (c.iter.ensures.rest ∙ c.deref.ensures.value)
    ∙ spans-of-ranges rank c.self.inside.runs.items in
    record {
      ranges = rw (← c.self.view_is) are;
      ready = rw are canonical;
      runs = rw (← c.self.view_is)
          (canonical-runs g.T.Integer.value_count _ canonical.apart canonical.within);
    }
