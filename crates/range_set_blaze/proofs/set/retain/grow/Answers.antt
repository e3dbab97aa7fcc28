use Rattle.std.proofs.Common.{◌||◌, ◌∙◌, ap, sym}
use Rattle.std.proofs.Math.Bool.{or_assoc}
use Rattle.rsb_integer.specs.Runs.{covers, members}
use Rattle.rsb_storage.specs.Storage.{run_of}
use Rattle.rsb_storage.specs.Set.{only}
use Rattle.range_set_blaze.proofs.lemmas.retaining.Grown.{covers-longer, covers-one}
use Rattle.range_set_blaze.proofs.set.retain.grow.Goals as goal

-- If there is no piece, the value becomes one.
pub returns-in_default-clause-added : goal.returns-in_default-clause-added
returns-in_default-clause-added g c = rw c.in_default.is (λ rank.
    ap (λ here. members c.args.kept.now rank || here)
    (covers-one (g.T.Integer.rank c.only.result.start) (g.T.Integer.rank c.only.result.end)
    (g.T.Integer.rank c.args.value) rank (ap g.T.Integer.rank c.only.ensures.start)
    (ap g.T.Integer.rank c.only.ensures.end)))

-- If the value touches the piece, it is added to the piece.
pub returns-then-reaches-clause-added : goal.returns-then-reaches-clause-added
returns-then-reaches-clause-added g c = rw c.in-Some.is (λ rank.
    ap (λ here. members c.args.kept.now rank || here)
    (covers-longer (g.T.Integer.rank c.in-Some.run'.start) (g.T.Integer.rank c.in-Some.run'.end)
    (g.T.Integer.rank c.args.value) rank (rw c.in-Some.is at c.requires.order)
    (rw c.in-Some.is at c.requires.later) (c.reaches.ensures.0 c.if-reaches.true))
    ∙ sym (or_assoc (members c.args.kept.now rank) (covers (run_of g.T.Integer.rank c.in-Some.run') rank)
    _))

-- Otherwise the piece is inserted into the set, and the value becomes the next piece.
pub returns-clause-added : goal.returns-clause-added
returns-clause-added g c = rw c.in-Some.is (λ rank.
    ap (λ here. members c.insert_run.new.self rank || here)
    (covers-one (g.T.Integer.rank c.only-2.result.start) (g.T.Integer.rank c.only-2.result.end)
    (g.T.Integer.rank c.args.value) rank (ap g.T.Integer.rank c.only-2.ensures.start)
    (ap g.T.Integer.rank c.only-2.ensures.end))
    ∙ ap (λ before. before || only (g.T.Integer.rank c.args.value) rank)
    (c.in_ok-insert_run.ensures.members rank))
