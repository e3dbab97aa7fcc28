use Rattle.std.proofs.Common.{◌∙◌, ap, arith, sym, subst}
use Rattle.rsb_storage.specs.Storage.{run_of}
use Rattle.range_map_blaze.specs.Storage.{pieces_of, StartsAscendFrom}
use Rattle.range_map_blaze.proofs.lemmas.Entries.{pieces-insert_entry}
use Rattle.range_map_blaze.proofs.lemmas.Starts.{with_piece-ascending}
use Rattle.range_map_blaze.proofs.pieces.Pieces.put.Goals as goal

-- The entry is inserted at its place.
pub returns-clause-pieces : goal.returns-clause-pieces
returns-clause-pieces g c =
    let laws = g.met.T.Integer in
    rw (← c.self.view_is)
    (ap (pieces_of g.T.Integer.rank g.V.MapValue.seen) c.in_ok-insert.ensures.entries
    ∙ pieces-insert_entry g.T.Ord.cmp g.T.Integer.rank g.V.MapValue.seen g.T.Integer.value_count laws.in_order
    c.args.run.start (c.args.run.end, c.args.value) c.requires 0 c.self.inside.map.entries
    c.self.invariant)

-- The starts of the pieces still ascend.
pub invariant_of-self-2 : goal.invariant_of-self-2
invariant_of-self-2 g c =
    let laws = g.met.T.Integer in
    subst (StartsAscendFrom g.T.Integer.value_count 0)
    (sym (ap (pieces_of g.T.Integer.rank g.V.MapValue.seen) c.in_ok-insert.ensures.entries
    ∙ pieces-insert_entry g.T.Ord.cmp g.T.Integer.rank g.V.MapValue.seen g.T.Integer.value_count laws.in_order
    c.args.run.start (c.args.run.end, c.args.value) c.requires 0 c.self.inside.map.entries
    c.self.invariant))
    (with_piece-ascending _ _ (run_of g.T.Integer.rank c.args.run, g.V.MapValue.seen c.args.value) _ c.self.invariant
    (omega arith) c.requires)
