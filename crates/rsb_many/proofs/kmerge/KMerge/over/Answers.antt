use Rattle.rsb_many.proofs.lemmas.merging.OneAnswer.{begun-made}
use Rattle.rsb_many.proofs.kmerge.KMerge.over.Goals as goal

-- The first range is drawn from each stream.
pub returns-clause-begun : goal.returns-clause-begun
returns-clause-begun g c = begun-made g.T.Integer g.I.Draw c.args.streams.items
    (record { inputs = c.in_ok-over.field-0 }) c.in_ok-over.ensures
