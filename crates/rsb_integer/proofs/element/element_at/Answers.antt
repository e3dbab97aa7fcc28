use Rattle.std.proofs.Common.{◌≡◌, ◌∷◌, get_or, subst, sym}
use Rattle.rsb_integer.specs.Enumerated.{place_in}
use Rattle.rsb_integer.specs.laws.Enumerated.{listed-ranks}
use Rattle.rsb_integer.proofs.element.element_at.Goals as goal

-- The value at a place of the list has that place as its rank.
pub returns : goal.returns
returns g c =
    let values = g.E.Enumerated.least ∷ g.E.Enumerated.others in
    let value = c.index-values-place.result in
    let is = subst (λ list. value ≡ get_or list c.args.place value) c.values.ensures
    c.index-values-place.is in
    let ranks = listed-ranks g.E.PartialEq.eq g.E.Ord.cmp g.met.E.Ord.total values
    g.met.E.Enumerated.ascending g.met.E.Enumerated.complete value c.args.place c.requires in
    subst (λ found. place_in g.E.PartialEq.eq values found ≡ c.args.place) (sym is) ranks
