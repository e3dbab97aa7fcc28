use Rattle.std.proofs.Common.{◌≡◌, ◌&&◌, [], ◌∷◌, ◌∙◌, ap, arith, subst}
use Rattle.std.proofs.lemmas.Bool.Decides.{nat_tests}
use Rattle.rsb_integer.specs.Rank.{interval_of}
use Rattle.rsb_integer.specs.Runs.{members, Interval, IsCanonicalIn}
use Rattle.rsb_streams.specs.Stream.{run_if_any}
use Rattle.rsb_integer.proofs.lemmas.Runs.{canonical-runs}
use Rattle.rsb_streams.proofs.lemmas.checking.Fresh.{one-canonical}
use Rattle.range_set_blaze.proofs.set.RangeSetBlaze.range.Goals as goal

-- The result has the members that the set and the run between the bounds have in common.
pub returns : goal.returns
returns g c =
    let n = g.T.Integer.value_count in
    let set = c.args.self.now in
    let made = c.new-2.ensures in
    let run : Interval = record {
      first = g.T.Integer.rank c.in-Some.run'.start;
      last = g.T.Integer.rank c.in-Some.run'.end;
    } in
    let order = c.in-Some.ensures.order in
    let one : run_if_any (interval_of g.T.Integer.rank c.new-2.result) ≡ run ∷ [] =
    grind (arith, nat_tests, made.start, made.end, made.exhausted, order) in
    let ready = subst (IsCanonicalIn n) c.ranges-2.ensures.ranges c.ranges-2.ensures.ready in
    let single = one-canonical n run order c.in-Some.ensures.value in
    record {
      members = λ has point.
          ap (λ runs. members runs point) c.into_iter-2.ensures.into_iter_gives
          ∙ c.in_ok-set.ensures.members set (run ∷ []) (λ runs at. at ∙ c.ranges-2.ensures.ranges)
          (λ runs at. c.new-bounds.ensures.gives runs at ∙ one)
          (canonical-runs n set ready.apart ready.within) (canonical-runs n (run ∷ []) single.apart single.within)
          point
          ∙ ap (λ test. members set point && test)
          (grind (arith, nat_tests, c.in-Some.ensures.start has, c.in-Some.ensures.end has));
    }
