use Rattle.std.proofs.Common.{◌∙◌, ap, sym}
use Rattle.rsb_streams.proofs.lemmas.sources.ListCalls.{canonical-goes}
use Rattle.range_set_blaze.specs.Rank.{ranges_of}
use Rattle.ip_sets.proofs.set.ranges.AddressRangesIterator.next.Goals as goal

-- What is left of canonical ranges is canonical.
pub returns-clause-goes : goal.returns-clause-goes
returns-clause-goes g c =
    canonical-goes g.T.Integer.rank g.T.Integer.value_count _ _ _ _
    (sym c.self.view_is ∙ ap ranges_of c.in_ok-run.ensures.steps) c.requires
