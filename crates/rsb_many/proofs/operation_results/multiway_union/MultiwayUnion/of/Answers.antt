use Rattle.rsb_many.specs.KMerge.{kmerge_inputs}
use Rattle.rsb_many.specs.Many.{may_give_at}
use Rattle.rsb_many.specs.MultiwayUnion.{same_place}
use Rattle.rsb_many.proofs.lemmas.merging.Operations.{joins-begun, joins-gives}
use Rattle.rsb_many.proofs.operation_results.multiway_union.MultiwayUnion.of.Goals as goal

-- The runs of the merge are those of what lies in some of the streams. Nothing more is drawn.
pub returns-clause-begun : goal.returns-clause-begun
returns-clause-begun g c = λ streams begins. record {
  made = record {
    ready = c.new.ensures.ready;
    gives = λ runs may. joins-gives g.T.Integer g.I.Draw streams c.args.merge begins.made runs
        (c.new.ensures.gives runs may);
  };
  begun = λ from place. joins-begun same_place g.T.Integer (kmerge_inputs g.T.Integer g.I.Draw)
      (may_give_at g.I.Draw.may_give streams) c.args.merge c.new.result c.new.ensures.undrawn
      begins.begun from place;
}
