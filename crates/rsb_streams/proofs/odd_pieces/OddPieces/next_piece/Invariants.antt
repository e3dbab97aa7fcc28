use Rattle.std.specs.Iterator.{size}
use Rattle.rsb_streams.specs.OddPieces.{with_pending}
use Rattle.rsb_streams.proofs.lemmas.odd.States.{OddHeld}
use Rattle.rsb_streams.proofs.odd_pieces.OddPieces.next_piece.Given as goal

abbrev pub invariant-loop-range : goal.invariant-loop-range
invariant-loop-range g l = OddHeld g.T.Integer g.I.Draw (with_pending l.fn.self l.fn.ends.items)
    l.self
    l.ends.items

abbrev pub decreases-loop-range : goal.decreases-loop-range
decreases-loop-range g l = size (g.I.Draw.draws_left l.self.iter)
