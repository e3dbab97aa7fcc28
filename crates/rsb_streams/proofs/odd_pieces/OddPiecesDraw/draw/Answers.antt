use Rattle.std.proofs.Common.{ap, refl, sym, subst, ◌∙◌}
use Rattle.rsb_integer.specs.Room.{fits_memory}
use Rattle.rsb_streams.specs.OddPieces.{ends_in, first_end, HasOneEnd}
use Rattle.rsb_streams.proofs.lemmas.odd.Drawn.{takes-nothing}
use Rattle.rsb_streams.proofs.lemmas.odd.States.{first_end-ends_in, one-end}
use Rattle.rsb_streams.proofs.odd_pieces.OddPiecesDraw.draw.Goals as goal

-- All pieces were returned.
pub returns-then-self-clause-steps : goal.returns-then-self-clause-steps
returns-then-self-clause-steps g c = record {
  answers = rw c.if-self.true refl;
  rests = (c.requires, λ pieces at. rw c.if-self.true at at);
  asks = takes-nothing g.T.Integer g.I.Draw c.args.self.now c.if-self.true;
}

pub returns-then-self-clause-goes : goal.returns-then-self-clause-goes
returns-then-self-clause-goes g c =
    record { on = λ finite. tt; keeps = tt; rests = λ finite. finite }

-- A vector of two ends fits in memory.
pub ends_with-ends-requires : goal.ends_with-ends-requires
ends_with-ends-requires g c = fits_memory _ (g.met.T.Integer.two_ends_fit c.args.self.now.start)

pub first_end-self-requires : goal.first_end-self-requires
first_end-self-requires g c = fits_memory _ (g.met.T.Integer.two_ends_fit c.args.self.now.start)

-- The vector has the pending end.
pub next_piece-piece-requires : goal.next_piece-piece-requires
next_piece-piece-requires g c =
    let ends = c.ends_with-ends.ensures ∙ ap ends_in c.take.ensures.value in (
      fits_memory _ (g.met.T.Integer.two_ends_fit c.args.self.now.start),
      (
        c.if-self.false,
        (
          rw (ends, first_end-ends_in c.args.self.now.end) c.requires,
          subst HasOneEnd (sym ends) (one-end c.args.self.now.end),
        ),
      ),
    )

-- What is left in the vector is pending afterwards.
pub returns-clause-steps : goal.returns-clause-steps
returns-clause-steps g c =
    let ends = c.ends_with-ends.ensures ∙ ap ends_in c.take.ensures.value in
    let held = ap first_end ends ∙ first_end-ends_in c.args.self.now.end in
    rw (c.first_end-self.ensures, sym held) c.next_piece-piece.ensures.steps

pub returns-clause-goes : goal.returns-clause-goes
returns-clause-goes g c =
    let ends = c.ends_with-ends.ensures ∙ ap ends_in c.take.ensures.value in
    let held = ap first_end ends ∙ first_end-ends_in c.args.self.now.end in
    rw (c.first_end-self.ensures, sym held) c.next_piece-piece.ensures.goes
