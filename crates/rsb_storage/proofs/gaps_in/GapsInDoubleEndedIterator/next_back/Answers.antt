use Rattle.std.proofs.Common.{◌∙◌, sym}
use Rattle.rsb_integer.proofs.lemmas.Range.{value_at-rank}
use Rattle.rsb_storage.specs.GapsIn.{gaps_left, range_at}
use Rattle.rsb_storage.specs.Storage.{run_of}
use Rattle.rsb_storage.proofs.lemmas.windows.GapRanges.{gap-last, left-canonical}
use Rattle.rsb_storage.proofs.lemmas.windows.Ranges.{mapped-goes_last}
use Rattle.rsb_storage.proofs.gaps_in.GapsInDoubleEndedIterator.next_back.Goals as goal

-- The range of the last gap comes last.
pub returns-clause-steps : goal.returns-clause-steps
returns-clause-steps g c =
    let laws = g.met.T.Integer in
    let rank = g.T.Integer.rank in
    let n = g.T.Integer.value_count in
    let value_at = g.T.Integer.value_at in
    sym c.self.view_is ∙ gap-last rank n value_at
    (value_at-rank rank n g.T.Ord.cmp laws.exact laws.in_order value_at laws.ranks)
    (gaps_left rank c.take_last.new.rest c.take_last.new.entries) c.in_ok-gap.gap c.new.result
    (left-canonical rank n value_at c.self.inside.rest c.self.inside.entries c.self.invariant)
    c.new.ensures.start c.new.ensures.end c.new.ensures.exhausted c.in_ok-gap.ensures.gap

-- What is left of canonical ranges is canonical.
pub returns-clause-goes : goal.returns-clause-goes
returns-clause-goes g c = mapped-goes_last g.T.Integer.rank g.T.Integer.value_count
    (range_at g.T.Integer.value_at)
    (gaps_left g.T.Integer.rank c.take_last.new.rest c.take_last.new.entries)
    (run_of g.T.Integer.rank c.in_ok-gap.gap) c.self.view_is c.requires c.in_ok-gap.ensures.gap
