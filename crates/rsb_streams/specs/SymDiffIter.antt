-- The symmetric difference of two streams.
use Rattle.std.proofs.Common.{List}
use Rattle.rsb_integer.specs.declared.integer.Integer.{Ghosts as Elements}
use Rattle.rsb_streams.specs.Merge.{merge}
use Rattle.rsb_streams.specs.OddPieces.{ends_of, odd_pieces}
use Rattle.rsb_streams.specs.Rows.{stream_through}
use Rattle.rsb_streams.specs.UnionIter.{union_iter}
use Rattle.rsb_streams.specs.declared.draw.Draw.{Ghosts as Stream}
use Rattle.rsb_streams.specs.declared.sym_diff_iter.SymDiffIter.{SymDiffIter}

-- The ends of the ranges that have begun and not ended.
abbrev pub ends_held : {T L R : Type 0} → SymDiffIter T L R → List T
ends_held s = ends_of s.iter.iter.iter.end

-- The joined pieces of the ranks in an odd number of the ranges of both streams.
abbrev pub sym_diff : {T N L R : Type 0} → Elements T N → Stream L T N → Stream R T N
    → Stream (SymDiffIter T L R) T N
sym_diff integer left right = stream_through (λ s. s.iter)
    (union_iter integer (odd_pieces integer (merge integer left right)))
