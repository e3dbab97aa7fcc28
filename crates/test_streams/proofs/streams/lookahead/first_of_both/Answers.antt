use Rattle.rsb_streams.specs.Lookahead.{Left}
use Rattle.rsb_streams.proofs.lemmas.calling.Results.{first-few}
use Rattle.test_streams.proofs.streams.lookahead.first_of_both.Goals as goal

-- The union is new, so its first call draws few ranges.
pub returns : goal.returns
returns g c = first-few g.T.Integer g.L.Draw g.R.Draw c.args.left c.args.right c.union-both.result
    c.next-first.new.self c.next-first.result Left c.union-both.ensures.undrawn
    c.next-first.ensures.steps
