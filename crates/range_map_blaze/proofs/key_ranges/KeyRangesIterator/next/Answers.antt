use Rattle.std.proofs.Common.{◌∙◌, ap, sym}
use Rattle.range_map_blaze.specs.KeyRanges.{touching-goes}
use Rattle.range_map_blaze.specs.Storage.{key_ranges_of}
use Rattle.range_map_blaze.proofs.key_ranges.KeyRangesIterator.next.Goals as goal

-- What is left of ranges that may touch are such ranges.
pub returns-clause-goes : goal.returns-clause-goes
returns-clause-goes g c =
    touching-goes g.T.Integer.rank g.T.Integer.value_count _ _ _ _
    (sym c.self.view_is ∙ ap key_ranges_of c.in_ok-start.ensures.steps) c.requires
