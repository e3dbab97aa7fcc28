use Rattle.rsb_many.proofs.lemmas.pieces.AtLeast.{few-runs}
use Rattle.rsb_many.proofs.multiway_at_least.MultiwayAtLeast.of.Goals as goal

-- The joined pieces are what lies in at least `least` of the streams.
pub returns-clause-begun : goal.returns-clause-begun
returns-clause-begun g c streams over =
    let begun = c.joined.ensures.begun streams over in
    record {
      made = record { ready = begun.ready; gives = begun.gives };
      begun = begun.begun;
    }

-- They are at most as many as the runs of all streams together.
pub returns-clause-run_count : goal.returns-clause-run_count
returns-clause-run_count g c streams over positive = few-runs g.T.Integer.value_count
    c.args.least g.I.Draw.may_give streams over.touching positive _
    (c.joined.ensures.begun streams over).gives
