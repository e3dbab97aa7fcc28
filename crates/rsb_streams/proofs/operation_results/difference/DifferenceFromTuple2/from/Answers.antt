use Rattle.rsb_streams.proofs.lemmas.calling.Results.{difference-by_complements}
use Rattle.rsb_streams.proofs.operation_results.difference.DifferenceFromTuple2.from.Goals as goal

-- The difference is the gaps of what is outside of the left stream or in the right one.
pub returns : goal.returns
returns g c = λ left_can right_can.
    let gaps = (c.from-gaps.ensures left_can).made in
    let outside = (c.from-outside.ensures gaps.ready right_can).made in
    let inside = (c.from.ensures outside.ready).made in
    record {
      ready = inside.ready;
      gives = λ runs may. difference-by_complements g.T.Integer.value_count _ _ _ _
          gaps.gives outside.gives runs (inside.gives runs may);
    }
