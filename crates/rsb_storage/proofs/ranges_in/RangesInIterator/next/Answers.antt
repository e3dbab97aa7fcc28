use Rattle.std.proofs.Common.{◌∙◌, sym}
use Rattle.rsb_storage.specs.Windows.{range_up_to}
use Rattle.rsb_storage.proofs.lemmas.windows.Ranges.{mapped-goes_first, window-first}
use Rattle.rsb_storage.proofs.ranges_in.RangesInIterator.next.Goals as goal

-- The range of the first run comes first.
pub returns-clause-steps : goal.returns-clause-steps
returns-clause-steps g c =
    sym c.self.view_is ∙ window-first g.T.Integer.rank c.self.inside.last c.in_ok-run.run'
    c.new.result c.new.ensures.start (c.new.ensures.end ∙ c.lesser.ensures) c.new.ensures.exhausted
    c.in_ok-run.ensures

-- What is left of canonical ranges is canonical.
pub returns-clause-goes : goal.returns-clause-goes
returns-clause-goes g c = mapped-goes_first g.T.Integer.rank g.T.Integer.value_count
    (range_up_to g.T.Integer.rank c.self.inside.last) c.self.view_is c.requires
    c.in_ok-run.ensures
