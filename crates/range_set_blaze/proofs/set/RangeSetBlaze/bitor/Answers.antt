use Rattle.std.proofs.Common.{◌∙◌, ap}
use Rattle.std.proofs.lemmas.Result.{IfOk-weaker}
use Rattle.rsb_integer.specs.Runs.{members}
use Rattle.rsb_integer.proofs.lemmas.Members.{members-append}
use Rattle.range_set_blaze.proofs.lemmas.runs.Appended.{appended-few, members-swapped, swapped-few}
use Rattle.range_set_blaze.proofs.set.RangeSetBlaze.bitor.Goals as goal

-- Of sets that lie apart, the runs of one follow those of the other.
pub returns-then-lies_below-clause-members : goal.returns-then-lies_below-clause-members
returns-then-lies_below-clause-members g c = IfOk-weaker c.chained.result _ _
    (λ set is place. ap (λ runs. members runs place) is
    ∙ members-append c.args.self.now c.args.other.now place) c.chained.ensures

pub returns-then-lies_below-2-clause-members : goal.returns-then-lies_below-2-clause-members
returns-then-lies_below-2-clause-members g c = IfOk-weaker c.chained-then-lies_below-2.result _ _
    (λ set is place. ap (λ runs. members runs place) is
    ∙ members-swapped c.args.self.now c.args.other.now place) c.chained-then-lies_below-2.ensures

-- They are as many as those of both sets.
pub returns-then-lies_below-clause-run_count : goal.returns-then-lies_below-clause-run_count
returns-then-lies_below-clause-run_count g c = IfOk-weaker c.chained.result _ _
    (appended-few c.args.self.now c.args.other.now) c.chained.ensures

pub returns-then-lies_below-2-clause-run_count : goal.returns-then-lies_below-2-clause-run_count
returns-then-lies_below-2-clause-run_count g c = IfOk-weaker c.chained-then-lies_below-2.result _ _
    (swapped-few c.args.self.now c.args.other.now) c.chained-then-lies_below-2.ensures

-- Otherwise the streams give the runs of the sets.
pub returns : goal.returns
returns g c = record {
  members = c.union_of.ensures.members c.args.self.now c.args.other.now
      (λ runs at. at ∙ c.ranges-2.ensures.ranges) (λ runs at. at ∙ c.ranges-3.ensures.ranges)
      c.ranges-2.ensures.runs c.ranges-3.ensures.runs;
  run_count = c.union_of.ensures.run_count c.args.self.now c.args.other.now
      (λ runs at. at ∙ c.ranges-2.ensures.ranges) (λ runs at. at ∙ c.ranges-3.ensures.ranges)
      c.ranges-2.ensures.runs c.ranges-3.ensures.runs;
}
