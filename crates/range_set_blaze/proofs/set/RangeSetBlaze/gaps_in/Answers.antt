use Rattle.std.proofs.Common.{not, ◌&&◌, [], ◌<◌, ◌∙◌, ap, arith, refl}
use Rattle.std.proofs.lemmas.Bool.Decides.{nat_tests}
use Rattle.std.proofs.lemmas.List.Elements.{All-nil}
use Rattle.rsb_integer.specs.Runs.{members, Interval}
use Rattle.rsb_integer.proofs.lemmas.Runs.{runs-from_canonical}
use Rattle.range_set_blaze.proofs.set.RangeSetBlaze.gaps_in.Goals as goal

-- Canonical ranges with these members are the runs of them.
pub returns-in-Some-clause-runs : goal.returns-in-Some-clause-runs
returns-in-Some-clause-runs g c = λ has.
    let gaps = c.gaps_between.ensures in
    let runs = c.self.inside.runs in
    rw (← c.self.view_is) (runs-from_canonical g.T.Integer.value_count _ _ gaps.canonical.apart
    gaps.canonical.within (λ point below. gaps.members point
    ∙ ap (λ test. test && not (members runs point))
    (grind (arith, nat_tests, c.in-Some.ensures.start has, c.in-Some.ensures.end has))))

-- If no value is between the bounds, there are no runs.
pub returns-clause-runs : goal.returns-clause-runs
returns-clause-runs g c = λ has.
    let below = c.in-None.ensures.none has refl in
    rw c.no_gaps.ensures (runs-from_canonical g.T.Integer.value_count _ [] tt
    (All-nil (λ (run : Interval). run.last < g.T.Integer.value_count))
    (λ point within. grind (arith, nat_tests, below)))
