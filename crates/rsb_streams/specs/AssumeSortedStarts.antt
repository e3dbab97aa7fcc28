-- A stream that is known to be sorted by start.
use Rattle.std.specs.declared.iter.Iterator.{Ghosts as Iteration}
use Rattle.std.specs.declared.ops.RangeInclusive.{RangeInclusive}
use Rattle.rsb_integer.specs.declared.integer.Integer.{Ghosts as Elements}
use Rattle.rsb_streams.specs.Calls.{calls}
use Rattle.rsb_streams.specs.Fused.{fuse}
use Rattle.rsb_streams.specs.Rows.{stream_through}
use Rattle.rsb_streams.specs.Stream.{HasSortedStarts}
use Rattle.rsb_streams.specs.declared.assume_sorted_starts.AssumeSortedStarts.{AssumeSortedStarts}
use Rattle.rsb_streams.specs.declared.draw.Draw.{Ghosts as Stream}

-- What calls to the iterator may give, and nothing once it has ended.
abbrev pub assume_sorted_starts : {I T N : Type 0} → Elements T N → Iteration I (RangeInclusive T)
    → Stream (AssumeSortedStarts T I) T N
assume_sorted_starts integer iterator = stream_through (λ s. s.iter)
    (fuse (calls integer iterator (HasSortedStarts integer.value_count)))
