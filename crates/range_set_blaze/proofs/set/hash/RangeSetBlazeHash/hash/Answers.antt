use Rattle.std.proofs.Common.{arith, subst, sym}
use Rattle.std.specs.Hash.{fed_then}
use Rattle.rsb_integer.specs.Runs.{members, IsCanonicalIn}
use Rattle.rsb_integer.proofs.lemmas.Count.{count-within}
use Rattle.rsb_integer.proofs.lemmas.Range.{value_at-rank}
use Rattle.rsb_integer.proofs.lemmas.Runs.{canonical-maximal}
use Rattle.rsb_storage.specs.Storage.{runs_of}
use Rattle.range_set_blaze.proofs.lemmas.order.FedRuns.{entries-fed, run_bounds-canonical}
use Rattle.range_set_blaze.proofs.set.hash.RangeSetBlazeHash.hash.Goals as goal

-- The length and the entries feed the hasher what the list of runs does.
pub returns : goal.returns
returns g c =
    let rank = g.T.Integer.rank in
    let n = g.T.Integer.value_count in
    let laws = g.met.T.Integer in
    let runs = runs_of rank c.iter.result in
    let canonical = subst (IsCanonicalIn n) (sym c.iter.ensures.runs) c.self.invariant.canonical in
    let counted = c.self.invariant.length in
    let few = count-within n (members c.self.inside.runs) in
    let placed = value_at-rank rank n g.T.Ord.cmp laws.exact laws.in_order g.T.Integer.value_at laws.ranks in
    rw (
      ← c.self.view_is,
      ← counted,
      g.met.T.SafeLen.SafeLength.lengths c.self.inside.length (omega (arith, few, counted, laws.lengths_suffice)),
      ← c.iter.ensures.runs,
      run_bounds-canonical n runs canonical,
      ← entries-fed rank n g.T.Integer.value_at placed g.T.Hash.hash_input (members runs) c.iter.result
          (canonical-maximal n 0 runs canonical.apart canonical.within),
    )
    (fed_then g.H.Hasher.write _ c.hash.new.state _ (g.T.SafeLen.Hash.hash_input _) _ c.hash.ensures c.feed_runs.ensures)
