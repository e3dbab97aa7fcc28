use Rattle.rsb_streams.specs.laws.Calls.{known-touching}
use Rattle.rsb_streams.specs.Touching.{IsTouchingIn}
use Rattle.rsb_streams.proofs.lemmas.checking.Spaced.{spaced-tail}
use Rattle.rsb_streams.proofs.lemmas.sources.OneCall.{source-goes}
use Rattle.rsb_streams.proofs.check_sorted_touching.CheckSortedTouchingIterator.next.Goals as goal

pub returns-clause-goes : goal.returns-clause-goes
returns-clause-goes g c =
    let n = g.T.Integer.value_count in
    let goes = source-goes g.T.Integer.rank g.I.Iterator (IsTouchingIn n) (spaced-tail 1 n)
    c.args.self.now.iter c.next.new.self c.next.result c.requires
    (known-touching g.T.Integer g.I.Iterator c.args.self.now.iter c.requires).ends
    c.next.ensures.steps c.next.ensures.goes in
    record { on = goes.on; keeps = goes.keeps; rests = goes.rests }
