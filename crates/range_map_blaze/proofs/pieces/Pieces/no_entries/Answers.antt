use Rattle.std.proofs.Common.{◌∙◌, ◌<◌, ap, arith}
use Rattle.std.specs.Ordering.{is_le}
use Rattle.rsb_storage.proofs.lemmas.windows.Ranges.{order-forward}
use Rattle.range_map_blaze.proofs.lemmas.Between.{filter-neither}
use Rattle.range_map_blaze.proofs.pieces.Pieces.no_entries.Goals as goal

-- A value is not past itself.
pub range-requires : goal.range-requires
range-requires g c =
    let laws = g.met.T.Integer in
    let rank = g.T.Integer.rank in
    let value : rank c.known-start.result < g.T.Integer.value_count =
    omega (arith, ap rank c.known-start.ensures.same, c.known-start.ensures.value) in
    order-forward g.T.Ord.cmp rank g.T.Integer.value_count laws.in_order c.known-start.result
    c.known-start.result value value (omega arith)

-- No entry starts both at or past a value and before it.
pub returns : goal.returns
returns g c =
    c.range.ensures.between tt
    ∙ filter-neither (λ key. is_le (g.T.Ord.cmp c.known-start.result key)) c.self.inside.map.entries
