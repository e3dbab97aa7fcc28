use Rattle.std.proofs.Common.{◌≡◌, ◌+◌, ◌<◌, ◌≤◌, length, IsPermutation}
use Rattle.std.specs.Vec.{vec_capacity}
use Rattle.rsb_many.specs.Heads.{binary_digits}
use Rattle.rsb_many.specs.HeapOrder.{key_at, IsBridged, IsHeapBut}
use Rattle.rsb_many.proofs.heads.compared.ComparedHeads.sift_up.Given as goal

-- The heads are a heap except for the one at `place`. Each place that it left cost one comparison.
abbrev pub invariant-loop-place : goal.invariant-loop-place
invariant-loop-place g l =
    let count = length l.self.heads.items in
    let keys = key_at g.T.Integer.rank l.self.heads.items in
    record {
      within : l.place < count;
      kept : IsPermutation l.fn.self.heads.items l.self.heads.items;
      room : vec_capacity l.self.heads ≡ vec_capacity l.fn.self.heads;
      order : (other : _) → IsHeapBut (keys other) count l.place;
      bridged : (other : _) → IsBridged (keys other) count l.place;
      compared : l.self.comparisons.made + binary_digits (l.place + 1)
          ≤ l.fn.self.comparisons.made + binary_digits count;
      counted : l.fn.self.comparisons.made ≤ l.self.comparisons.made;
    }

abbrev pub decreases-loop-place : goal.decreases-loop-place
decreases-loop-place g l = l.place
