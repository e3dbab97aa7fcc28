use Rattle.std.proofs.Common.{[], subst, sym}
use Rattle.rsb_integer.specs.Runs.{members, IsCanonicalIn}
use Rattle.rsb_integer.proofs.lemmas.Range.{value_at-rank}
use Rattle.rsb_integer.proofs.lemmas.Runs.{canonical-maximal}
use Rattle.rsb_storage.specs.Storage.{runs_of}
use Rattle.range_set_blaze.proofs.lemmas.texts.Pieces.{items-runs}
use Rattle.range_set_blaze.proofs.set.text.RangeSetBlazeDisplay.fmt.Goals as goal

-- The entries are those of the runs.
pub returns-clause-writes : goal.returns-clause-writes
returns-clause-writes g c =
    let rank = g.T.Integer.rank in
    let n = g.T.Integer.value_count in
    let laws = g.met.T.Integer in
    let runs = runs_of rank c.iter.result in
    let canonical = subst (IsCanonicalIn n) (sym c.iter.ensures.runs) c.self.invariant.canonical in
    let placed = value_at-rank rank n g.T.Ord.cmp laws.exact laws.in_order g.T.Integer.value_at laws.ranks in
    rw (
      ← c.self.view_is,
      ← c.iter.ensures.runs,
      ← items-runs rank n g.T.Integer.value_at placed g.T.Debug.debug_output (members runs) [] c.iter.result
          (canonical-maximal n 0 runs canonical.apart canonical.within),
    )
    c.write_runs.ensures
