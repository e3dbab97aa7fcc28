use Rattle.std.proofs.Common.{◌∙◌, ap, arith}
use Rattle.std.specs.BTreeMap.Range.{entries_between}
use Rattle.std.specs.declared.ops.Bound.TheVariants.{Included}
use Rattle.range_map_blaze.specs.Storage.{pieces_of}
use Rattle.rsb_storage.proofs.lemmas.windows.Ranges.{order-forward}
use Rattle.range_map_blaze.proofs.lemmas.Between.{pieces-within}
use Rattle.range_map_blaze.proofs.pieces.Pieces.starting_in.Goals as goal

-- The bounds are in order.
pub range-requires : goal.range-requires
range-requires g c =
    let laws = g.met.T.Integer in
    rw (c.new.ensures.start, c.new.ensures.end)
    (order-forward g.T.Ord.cmp g.T.Integer.rank g.T.Integer.value_count laws.in_order
    c.args.window.start c.args.window.end (omega (arith, c.requires.order, c.requires.value))
    c.requires.value c.requires.order)

-- The entries between them are those of the pieces that start there.
pub returns : goal.returns
returns g c =
    let laws = g.met.T.Integer in
    let rank = g.T.Integer.rank in
    let seen = g.V.MapValue.seen in
    let entries = c.self.inside.map.entries in
    rw (← c.self.view_is)
    (ap (pieces_of rank seen) (c.range.ensures.between c.new.ensures.exhausted
    ∙ λ i. entries_between g.T.Ord.cmp (Included (c.new.ensures.start i))
    (Included (c.new.ensures.end i)) entries)
    ∙ pieces-within g.T.Ord.cmp rank seen g.T.Integer.value_count laws.in_order
    c.args.window.start c.args.window.end (omega (arith, c.requires.order, c.requires.value))
    c.requires.value entries c.self.invariant)
