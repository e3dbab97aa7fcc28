-- The joined run is over the runs that are left. If some run starts inside it, `next` is one that
-- does.
use Rattle.std.proofs.Common.{◌≡◌, ℕ, MatchOption}
use Rattle.rsb_integer.specs.Runs.{members}
use Rattle.range_set_blaze.specs.Joining.{IsInside, IsOver, NoneInside}
use Rattle.rsb_storage.specs.Storage.{run_of}
use Rattle.range_set_blaze.proofs.set.swallow.remove_swallowed.Given as goal

abbrev pub invariant-loop-next : goal.invariant-loop-next
invariant-loop-next g l =
    let rank = g.T.Integer.rank in
    let runs = l.runs in
    let joined = run_of rank l.fn.run in
    IsOver g.T.Integer.value_count runs joined (g.T.SafeLen.SafeLength.number l.others)
    × ((point : ℕ) → members runs point ≡ members l.fn.runs point)
    × MatchOption l.next (NoneInside runs joined) (λ run. IsInside runs joined (run_of rank run))

abbrev pub decreases-loop-next : goal.decreases-loop-next
decreases-loop-next g l = g.T.SafeLen.SafeLength.number l.others
