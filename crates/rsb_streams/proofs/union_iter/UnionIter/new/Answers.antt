use Rattle.rsb_streams.proofs.lemmas.sources.Known.{fresh-may, fresh-ready}
use Rattle.rsb_streams.proofs.union_iter.UnionIter.new.Goals as goal

pub returns-clause-ready : goal.returns-clause-ready
returns-clause-ready g c =
    fresh-ready g.T.Integer g.SS.Draw c.args.iter c.over.result.iter
    c.over.ensures c.requires (g.met.SS.Draw.sorted c.args.iter c.requires).all

pub returns-clause-gives : goal.returns-clause-gives
returns-clause-gives g c = λ runs may nothing. may (λ given at all.
    nothing given
    (fresh-may g.T.Integer g.SS.Draw c.args.iter c.over.result.iter
    c.over.ensures given at)
    all)
