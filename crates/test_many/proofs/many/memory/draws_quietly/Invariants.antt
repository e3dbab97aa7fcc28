use Rattle.test_many.proofs.many.memory.draws_quietly.Given as goal

-- The stream is ready.
abbrev pub invariant-loop : goal.invariant-loop
invariant-loop g l = g.I.Draw.can_draw l.stream
