-- The difference of two streams.
use Rattle.rsb_integer.specs.declared.integer.Integer.{Ghosts as Elements}
use Rattle.rsb_streams.specs.Merge.{merge}
use Rattle.rsb_streams.specs.NotIter.{not_iter}
use Rattle.rsb_streams.specs.Rows.{stream_through}
use Rattle.rsb_streams.specs.UnionIter.{union_iter}
use Rattle.rsb_streams.specs.declared.draw.Draw.{Ghosts as Stream}
use Rattle.rsb_streams.specs.declared.operation_results.difference.Difference.{Difference}

-- The gaps of the union of the right stream and the gaps of the left one.
abbrev pub difference_row : {T N L R : Type 0} → Elements T N → Stream L T N → Stream R T N
    → Stream (Difference T L R) T N
difference_row integer left right = stream_through (λ s. s.iter)
    (not_iter integer (union_iter integer (merge integer (not_iter integer left) right)))
