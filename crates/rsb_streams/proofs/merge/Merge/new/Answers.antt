use Rattle.rsb_streams.proofs.lemmas.lookahead.Ahead.{merges-undrawn}
use Rattle.rsb_streams.proofs.lemmas.sources.Known.{fresh-may, fresh-ready}
use Rattle.rsb_streams.proofs.merge.Merge.new.Goals as goal

-- Both streams are ready.
pub returns-clause-ready : goal.returns-clause-ready
returns-clause-ready g c =
    record {
      left = fresh-ready g.T.Integer g.L.Draw c.args.left c.of.result.left c.of.ensures.left c.requires.left
          (g.met.L.Draw.sorted c.args.left c.requires.left).all;
      right = fresh-ready g.T.Integer g.R.Draw c.args.right c.of.result.right c.of.ensures.right
          c.requires.right
          (g.met.R.Draw.sorted c.args.right c.requires.right).all;
    }

-- Nothing has been drawn from either stream.
pub returns-clause-gives : goal.returns-clause-gives
returns-clause-gives g c = λ runs may nothing.
    may (λ first second at also all.
    nothing first second
    (fresh-may g.T.Integer g.L.Draw c.args.left c.of.result.left c.of.ensures.left first at)
    (fresh-may g.T.Integer g.R.Draw c.args.right c.of.result.right c.of.ensures.right second also)
    all)

pub returns-clause-undrawn : goal.returns-clause-undrawn
returns-clause-undrawn g c = merges-undrawn g.T.Integer g.L.Draw g.R.Draw c.args.left c.args.right
    c.of.result c.of.ensures.left c.of.ensures.right
