-- A stream of ranges that are known to ascend, and may touch.
use Rattle.std.specs.declared.iter.Iterator.{Ghosts as Iteration}
use Rattle.std.specs.declared.ops.RangeInclusive.{RangeInclusive}
use Rattle.rsb_integer.specs.declared.integer.Integer.{Ghosts as Elements}
use Rattle.rsb_streams.specs.Calls.{calls}
use Rattle.rsb_streams.specs.Fused.{fuse}
use Rattle.rsb_streams.specs.Rows.{stream_through}
use Rattle.rsb_streams.specs.Touching.{IsTouchingIn}
use Rattle.rsb_streams.specs.declared.check_sorted_touching.CheckSortedTouching.{CheckSortedTouching}
use Rattle.rsb_streams.specs.declared.draw.Draw.{Ghosts as Stream}

-- What calls to the iterator may give, and nothing once it has ended.
abbrev pub check_sorted_touching : {I T N : Type 0} → Elements T N → Iteration I (RangeInclusive T)
    → Stream (CheckSortedTouching T I) T N
check_sorted_touching integer iterator = stream_through (λ s. s.iter)
    (fuse (calls integer iterator (IsTouchingIn integer.value_count)))
