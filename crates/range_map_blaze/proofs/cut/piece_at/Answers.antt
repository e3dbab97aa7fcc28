use Rattle.std.proofs.Common.{arith}
use Rattle.rsb_integer.proofs.lemmas.Members.{covers-inside}
use Rattle.rsb_storage.specs.Storage.{run_of}
use Rattle.rsb_storage.proofs.lemmas.runs.Storage.{lt-fails}
use Rattle.range_map_blaze.proofs.lemmas.Contained.{contained-maximal}
use Rattle.range_map_blaze.proofs.lemmas.Cuts.{last-value, none-value}
use Rattle.range_map_blaze.proofs.cut.piece_at.Goals as goal

-- If no piece starts at or before the key, it has no value.
pub returns-in_err-piece-clause-around : goal.returns-in_err-piece-clause-around
returns-in_err-piece-clause-around g c =
    rw c.from_residual.ensures (none-value _ _ c.in_err-piece.ensures.last)

pub ends_before-requires-clause-end : goal.ends_before-requires-clause-end
ends_before-requires-clause-end g c =
    (contained-maximal _ 0 _ _ c.requires.canonical c.in_ok-piece.ensures.last.among).in_type

-- If the last of those pieces ends below the key, it has none.
pub returns-then-ends_before-clause-around : goal.returns-then-ends_before-clause-around
returns-then-ends_before-clause-around g c =
    last-value _ _ _ _ c.requires.canonical c.in_ok-piece.ensures.last
    (c.ends_before.ensures.0 c.if-ends_before.true)

-- Otherwise that piece has the key.
pub returns-clause-around : goal.returns-clause-around
returns-clause-around g c =
    let starts = c.in_ok-piece.ensures.last.starts in
    record {
      maximal = contained-maximal _ 0 _ _ c.requires.canonical c.in_ok-piece.ensures.last.among;
      around = covers-inside (run_of g.T.Integer.rank c.in_ok-piece.piece.run) _ (omega (arith, starts))
          (lt-fails c.ends_before.result _ _ c.ends_before.ensures c.if-ends_before.false);
    }
