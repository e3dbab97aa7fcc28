use Rattle.std.proofs.Common.{map}
use Rattle.range_set_blaze.specs.Runs.{members}
use Rattle.range_set_blaze.specs.Selection.{any_of}
use Rattle.ip_sets.proofs.lemmas.Selecting.{selects-complement}
use Rattle.ip_sets.proofs.selection.complement.Goals as goal

-- The complement gives only the runs of what no stream has.
pub returns-clause-selects : goal.returns-clause-selects
returns-clause-selects g c = λ sets each.
    selects-complement g.T.Integer.value_count (any_of (map members sets)) _ _
    (c.in_ok-union.ensures.selects sets each) c.complement.ensures.made.gives
