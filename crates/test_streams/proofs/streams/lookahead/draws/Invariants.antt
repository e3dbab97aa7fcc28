use Rattle.test_streams.proofs.streams.lookahead.draws.Given as goal

-- The stream is ready.
abbrev pub invariant-loop-start : goal.invariant-loop-start
invariant-loop-start g l = g.I.Draw.can_draw l.stream
