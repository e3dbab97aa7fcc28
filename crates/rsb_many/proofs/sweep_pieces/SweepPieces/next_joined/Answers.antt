use Rattle.rsb_many.proofs.lemmas.pieces.Joined.{joined-goes, joined-known}
use Rattle.rsb_many.proofs.sweep_pieces.SweepPieces.next_joined.Goals as goal

pub returns-clause-steps : goal.returns-clause-steps
returns-clause-steps g c = joined-known g.T.Integer g.I.Draw c.args.joined.now c.next.new.self
    c.requires c.next.result c.next.ensures.steps

pub returns-clause-goes : goal.returns-clause-goes
returns-clause-goes g c = joined-goes g.T.Integer g.I.Draw (λ s. s) c.args.joined.now
    c.next.new.self c.requires c.next.result c.next.ensures.steps c.next.ensures.goes
