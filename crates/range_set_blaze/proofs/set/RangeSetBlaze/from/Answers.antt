use Rattle.std.proofs.lemmas.Result.{IfOk-weaker}
use Rattle.rsb_integer.specs.Rank.{interval_of}
use Rattle.range_set_blaze.proofs.lemmas.gathering.OneByOne.{members-run_if_any}
use Rattle.range_set_blaze.proofs.set.RangeSetBlaze.from.Goals as goal

-- The set is the only list that the stream of the range may give.
pub returns : goal.returns
returns g c = record {
  members = IfOk-weaker c.from_sorted_disjoint.result _ _ (λ set may point.
      rw (c.new.ensures.gives set may)
      (members-run_if_any (interval_of g.T.Integer.rank c.args.range) point))
      c.from_sorted_disjoint.ensures.runs;
}
