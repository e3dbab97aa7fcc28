use Rattle.std.proofs.Common.{◌+◌}
use Rattle.rsb_integer.specs.Selection.{difference, union}
use Rattle.rsb_streams.proofs.lemmas.calling.Results.{operation-at_most}
use Rattle.test_streams.proofs.streams.run_count.either_without.Goals as goal

-- The result has at most as many runs as the union and the third stream together. The union has at
-- most as many as the first two streams together.
pub returns-clause-run_count : goal.returns-clause-run_count
returns-clause-run_count g c = λ ones twos threes first second third.
    operation-at_most g.T.Integer _ g.C.Draw _ c.union-either.result c.args.third _ (ones + twos)
    threes
    (operation-at_most g.T.Integer g.A.Draw g.B.Draw _ c.args.first c.args.second _ ones twos first
    second union c.union-either.ensures.run_count)
    third difference c.difference.ensures.run_count
