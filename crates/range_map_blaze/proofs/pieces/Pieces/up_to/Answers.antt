use Rattle.std.proofs.Common.{◌∙◌, ◌+◌, ap, sym}
use Rattle.std.proofs.lemmas.List.{map-append}
use Rattle.range_map_blaze.specs.Storage.{piece_of, pieces_of}
use Rattle.range_map_blaze.proofs.lemmas.Entries.{pieces-up_to}
use Rattle.range_map_blaze.proofs.lemmas.Starts.{below-none, EndsWith-last}
use Rattle.range_map_blaze.proofs.pieces.Pieces.up_to.Goals as goal

-- If the range has no entry, no piece starts at or before the value.
pub returns-in_err-start-clause-last : goal.returns-in_err-start-clause-last
returns-in_err-start-clause-last g c =
    let rank = g.T.Integer.rank in
    let laws = g.met.T.Integer in
    rw (c.from_residual.ensures, ← c.self.view_is)
    (below-none (rank c.args.value + 1) (pieces_of rank g.V.MapValue.seen c.self.inside.map.entries)
    (sym (ap (pieces_of rank g.V.MapValue.seen) (c.range-entries.ensures.between tt)
    ∙ pieces-up_to g.T.Ord.cmp rank g.V.MapValue.seen g.T.Integer.value_count laws.in_order c.args.value c.requires
    c.self.inside.map.entries c.self.invariant)
    ∙ ap (pieces_of rank g.V.MapValue.seen) c.in_err-start.ensures.steps.0))

-- Otherwise its last entry is that of the last of these pieces.
pub returns-clause-last : goal.returns-clause-last
returns-clause-last g c =
    let rank = g.T.Integer.rank in
    let laws = g.met.T.Integer in
    rw (← c.self.view_is)
    (EndsWith-last g.T.Integer.value_count (rank c.args.value + 1)
    (pieces_of rank g.V.MapValue.seen c.self.inside.map.entries) _ c.self.invariant (record {
      front = pieces_of rank g.V.MapValue.seen c.next_back.new.self;
      parts = sym (ap (pieces_of rank g.V.MapValue.seen) (c.range-entries.ensures.between tt)
          ∙ pieces-up_to g.T.Ord.cmp rank g.V.MapValue.seen g.T.Integer.value_count laws.in_order c.args.value
          c.requires c.self.inside.map.entries c.self.invariant)
          ∙ ap (pieces_of rank g.V.MapValue.seen) c.in_ok-start.ensures.steps
          ∙ map-append (piece_of rank g.V.MapValue.seen) c.next_back.new.self _;
    }))
