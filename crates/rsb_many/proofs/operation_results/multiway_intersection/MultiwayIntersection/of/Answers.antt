use Rattle.std.proofs.Common.{sym, subst}
use Rattle.rsb_streams.specs.NotIter.{not_iter}
use Rattle.rsb_many.specs.Many.{may_give_at, IsBegun}
use Rattle.rsb_many.specs.MultiwayUnion.{multiway_union, multiway_union_inputs}
use Rattle.rsb_many.proofs.lemmas.merging.Operations.{complements-give}
use Rattle.rsb_many.proofs.operation_results.multiway_intersection.MultiwayIntersection.of.Goals as goal

-- The gaps of the union of the complements are what lies in all of the streams. Nothing more is
-- drawn.
pub returns-clause-begun : goal.returns-clause-begun
returns-clause-begun g c = λ streams complements all begins.
    let outside = c.of-left_out.ensures.begun complements begins in
    let gaps = not_iter g.T.Integer g.I.Draw in
    let made = c.new.ensures.made in
    record {
      made = record {
        ready = made.ready;
        gives = λ runs may. complements-give g.T.Integer g.I.Draw streams complements
            ((multiway_union g.T.Integer gaps).may_give c.of-left_out.result) all
            outside.made.gives runs (made.gives runs may);
      };
      gaps = complements;
      complements = all;
      begun = λ from place. subst (λ each. IsBegun (may_give_at gaps.may_give complements place)
          (multiway_union_inputs g.T.Integer gaps from each place)) (sym c.new.ensures.undrawn)
          (outside.begun from place);
    }
