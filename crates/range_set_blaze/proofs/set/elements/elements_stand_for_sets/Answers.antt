use Rattle.range_set_blaze.proofs.lemmas.elements.Listed.{listed-takes}
use Rattle.range_set_blaze.proofs.set.elements.elements_stand_for_sets.Goals as goal

-- A call takes its element from what was left before it.
pub returns : goal.returns
returns g c = record {
  next = λ s t item. listed-takes g.T.Integer.rank g.T.Integer.value_count;
  next_back = λ s t item. listed-takes g.T.Integer.rank g.T.Integer.value_count;
}
