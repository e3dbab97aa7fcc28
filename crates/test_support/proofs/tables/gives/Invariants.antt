use Rattle.test_support.proofs.tables.gives.Given as goal

-- The stream is ready.
abbrev pub invariant-loop-pair : goal.invariant-loop-pair
invariant-loop-pair g l = g.I.Draw.can_draw l.stream
