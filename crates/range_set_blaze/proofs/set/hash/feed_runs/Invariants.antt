-- Feeding the entries that are left leads to the same state as feeding all entries at first.
use Rattle.std.proofs.Common.{◌≡◌, ◌++◌, flat_map, fold, length}
use Rattle.range_set_blaze.proofs.set.hash.feed_runs.Given as goal

abbrev pub invariant-loop-run : goal.invariant-loop-run
invariant-loop-run g l =
    let fed = flat_map (λ entry. g.T.Hash.hash_input entry.0 ++ g.T.Hash.hash_input entry.1) in
    fold g.H.Hasher.write l.state (fed l.entries)
    ≡ fold g.H.Hasher.write l.fn.state (fed l.fn.entries)

abbrev pub decreases-loop-run : goal.decreases-loop-run
decreases-loop-run g l = length l.entries
