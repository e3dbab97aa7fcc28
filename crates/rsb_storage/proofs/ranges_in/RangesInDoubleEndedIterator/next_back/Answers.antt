use Rattle.std.proofs.Common.{◌∙◌, sym}
use Rattle.rsb_storage.specs.Storage.{entry_of}
use Rattle.rsb_storage.specs.Windows.{range_up_to, with_held}
use Rattle.rsb_storage.proofs.lemmas.windows.Ranges.{mapped-goes_last, window-last}
use Rattle.rsb_storage.proofs.ranges_in.RangesInDoubleEndedIterator.next_back.Goals as goal

-- The range of the last run comes last.
pub returns-clause-steps : goal.returns-clause-steps
returns-clause-steps g c =
    sym c.self.view_is ∙ window-last g.T.Integer.rank c.self.inside.last
    (with_held c.take_last.new.held c.take_last.new.entries) c.in_ok-run.run' c.new.result
    c.new.ensures.start (c.new.ensures.end ∙ c.lesser.ensures) c.new.ensures.exhausted
    c.in_ok-run.ensures

-- What is left of canonical ranges is canonical.
pub returns-clause-goes : goal.returns-clause-goes
returns-clause-goes g c = mapped-goes_last g.T.Integer.rank g.T.Integer.value_count
    (range_up_to g.T.Integer.rank c.self.inside.last)
    (with_held c.take_last.new.held c.take_last.new.entries) (entry_of c.in_ok-run.run')
    c.self.view_is c.requires c.in_ok-run.ensures
