use Rattle.std.proofs.Common.{◌≡◌, ◌+◌, ◌-◌, ◌*◌, ◌<◌, ◌≤◌, length, set, All, IsPermutation}
use Rattle.std.specs.Vec.{vec_capacity}
use Rattle.rsb_many.specs.Heads.{binary_digits, HasValues}
use Rattle.rsb_many.specs.HeapOrder.{key_at, IsBridged, IsHeapButUnder}
use Rattle.rsb_many.proofs.heads.compared.ComparedHeads.sift_down.Given as goal

-- The heads, with the one that sinks at `place`, are a heap except for the children of `place`.
-- Each place that the head left cost two comparisons.
abbrev pub invariant-loop-place : goal.invariant-loop-place
invariant-loop-place g l =
    let rank = g.T.Integer.rank in
    let count = length l.self.heads.items in
    let held = set l.self.heads.items l.place l.head in
    record {
      within : l.place < count;
      values : All (HasValues rank g.T.Integer.value_count) l.self.heads.items;
      kept : IsPermutation l.fn.self.heads.items held;
      room : vec_capacity l.self.heads ≡ vec_capacity l.fn.self.heads;
      order : (other : _) → IsHeapButUnder (key_at rank held other) count l.place;
      bridged : (other : _) → IsBridged (key_at rank held other) count l.place;
      compared : l.self.comparisons.made + 2
          ≤ l.fn.self.comparisons.made + 2 * binary_digits (l.place + 1);
      counted : l.fn.self.comparisons.made ≤ l.self.comparisons.made;
    }

abbrev pub decreases-loop-place : goal.decreases-loop-place
decreases-loop-place g l = length l.self.heads.items - l.place
