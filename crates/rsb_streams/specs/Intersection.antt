-- The intersection of two streams.
use Rattle.rsb_integer.specs.declared.integer.Integer.{Ghosts as Elements}
use Rattle.rsb_streams.specs.Merge.{merge}
use Rattle.rsb_streams.specs.NotIter.{not_iter}
use Rattle.rsb_streams.specs.Rows.{stream_through}
use Rattle.rsb_streams.specs.UnionIter.{union_iter}
use Rattle.rsb_streams.specs.declared.draw.Draw.{Ghosts as Stream}
use Rattle.rsb_streams.specs.declared.operation_results.intersection.Intersection.{Intersection}

-- The gaps of the union of the gaps of both streams.
abbrev pub intersection_row : {T N L R : Type 0} → Elements T N → Stream L T N → Stream R T N
    → Stream (Intersection T L R) T N
intersection_row integer left right = stream_through (λ s. s.iter) (not_iter integer
    (union_iter integer (merge integer (not_iter integer left) (not_iter integer right))))
