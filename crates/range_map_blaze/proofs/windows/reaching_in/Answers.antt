use Rattle.std.proofs.Common.{refl}
use Rattle.rsb_integer.proofs.lemmas.Members.{covers-bounds}
use Rattle.rsb_storage.specs.Storage.{run_of}
use Rattle.rsb_storage.proofs.lemmas.runs.Storage.{lt-fails}
use Rattle.range_map_blaze.proofs.lemmas.Windows.{from-least, from-none, from-over, from-starts}
use Rattle.range_map_blaze.proofs.windows.reaching_in.Goals as goal

-- No piece starts before the least key.
pub returns-in_err-previous-clause-from : goal.returns-in_err-previous-clause-from
returns-in_err-previous-clause-from g c =
    rw c.from_residual.ensures (from-least _ _ (c.in_err-previous.ensures.none refl))

-- The key has no value.
pub returns-in_err-piece-clause-from : goal.returns-in_err-piece-clause-from
returns-in_err-piece-clause-from g c =
    rw c.from_residual-in_err-piece.ensures
    (from-none _ _ _ _ c.requires.canonical c.in_ok-previous.ensures.some c.in_err-piece.ensures.around)

-- The piece of the key starts there.
pub returns-then-not-starts_before-clause-from : goal.returns-then-not-starts_before-clause-from
returns-then-not-starts_before-clause-from g c =
    from-starts _ _ _ _ c.requires.canonical c.in_ok-previous.ensures.some _
    c.in_ok-piece.ensures.around
    (lt-fails c.starts_before.result _ _ c.starts_before.ensures c.if-not-starts_before.true)

-- It starts before the key, and what is left of it comes first.
pub returns-clause-from : goal.returns-clause-from
returns-clause-from g c =
    let piece = run_of g.T.Integer.rank c.in_ok-piece.piece.run in
    from-over _ _ _ _ c.requires.canonical c.in_ok-previous.ensures.some
    (piece, g.V.MapValue.seen c.in_ok-piece.piece.value.now) c.in_ok-piece.ensures.among
    (c.starts_before.ensures.0 c.if-not-starts_before.false)
    (covers-bounds piece (g.T.Integer.rank c.args.start) c.in_ok-piece.ensures.around.around).1
