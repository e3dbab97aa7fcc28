use Rattle.std.proofs.Common.{arith, ◌∷◌}
use Rattle.rsb_integer.specs.laws.Enumerated.{place-below}
use Rattle.rsb_integer.proofs.element.place.Goals as goal

-- The place is in the list, because every value is in the list.
pub returns-clause-below : goal.returns-clause-below
returns-clause-below g c =
    let below = place-below g.E.PartialEq.eq (g.E.Enumerated.least ∷ g.E.Enumerated.others)
    g.met.E.Enumerated.complete c.element.inside.0 in
    omega (arith, below, c.number.ensures)

-- The list has at most 65,535 values.
pub returns-clause-few : goal.returns-clause-few
returns-clause-few g c =
    let below = place-below g.E.PartialEq.eq (g.E.Enumerated.least ∷ g.E.Enumerated.others)
    g.met.E.Enumerated.complete c.element.inside.0 in
    omega (arith, below, c.number.ensures, g.met.E.Enumerated.few_values)
