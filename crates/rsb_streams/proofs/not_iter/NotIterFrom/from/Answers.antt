use Rattle.std.proofs.Common.{refl}
use Rattle.rsb_streams.proofs.lemmas.gaps.Lists.{fresh-gaps, fresh-ready}
use Rattle.rsb_streams.proofs.not_iter.NotIterFrom.from.Goals as goal

pub returns : goal.returns
returns g c = λ ready. record {
  made = record {
    ready = fresh-ready g.T.Integer g.I.Draw c.args.iter c.min_value.result c.min_value.ensures ready
        g.met.T.Integer.some_values (g.met.I.DrawDisjoint.canonical c.args.iter ready);
    gives = fresh-gaps g.T.Integer g.I.Draw c.args.iter c.min_value.result c.min_value.ensures;
  };
  undrawn = refl;
}
