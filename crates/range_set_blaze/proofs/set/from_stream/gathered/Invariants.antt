-- What was taken, followed by what the stream may still give, is a list that it might give at
-- first.
use Rattle.std.proofs.Common.{◌≡◌, List, ◌++◌}
use Rattle.std.specs.Iterator.{IsFinite, size}
use Rattle.std.specs.List.{sum_by}
use Rattle.rsb_integer.specs.Runs.{Interval, length_of}
use Rattle.rsb_storage.specs.Storage.{runs_of}
use Rattle.range_set_blaze.proofs.set.from_stream.gathered.Given as goal

abbrev pub invariant-loop-range : goal.invariant-loop-range
invariant-loop-range g l =
    let rank = g.T.Integer.rank in
    record {
      ready : g.I.Draw.can_draw l.iter;
      finite : IsFinite (g.I.Draw.draws_left l.iter);
      given : (rest : List Interval) → g.I.Draw.may_give l.iter rest
          → g.I.Draw.may_give l.fn.iter (runs_of rank l.entries.items ++ rest);
      length : g.T.SafeLen.SafeLength.number l.length
          ≡ sum_by length_of (runs_of rank l.entries.items);
    }

abbrev pub decreases-loop-range : goal.decreases-loop-range
decreases-loop-range g l = size (g.I.Draw.draws_left l.iter)
