use Rattle.rsb_streams.proofs.lemmas.calling.Results.{intersection-by_complements}
use Rattle.rsb_streams.proofs.operation_results.intersection.IntersectionFromTuple2.from.Goals as goal

-- The intersection is the gaps of what is outside of one of the streams.
pub returns : goal.returns
returns g c = λ left_can right_can.
    let gaps = (c.from-gaps.ensures left_can).made in
    let others = (c.from-others.ensures right_can).made in
    let left_out = (c.from-left_out.ensures gaps.ready others.ready).made in
    let common = (c.from.ensures left_out.ready).made in
    record {
      ready = common.ready;
      gives = λ runs may. intersection-by_complements g.T.Integer.value_count _ _ _ _ _
          gaps.gives others.gives left_out.gives runs (common.gives runs may);
    }
