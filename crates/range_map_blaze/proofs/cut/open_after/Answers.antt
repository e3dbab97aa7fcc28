use Rattle.std.proofs.Common.{◌≡◌, ◌∙◌, ◌+◌, ◌<◌, ◌≤◌, ap, arith, refl}
use Rattle.rsb_integer.specs.Runs.{from_to}
use Rattle.rsb_integer.proofs.lemmas.Members.{covers-bounds}
use Rattle.rsb_storage.specs.Storage.{run_of}
use Rattle.rsb_storage.proofs.lemmas.runs.Storage.{lt-fails}
use Rattle.range_map_blaze.specs.Storage.{pieces_below, pieces_past, with_piece, without_start}
use Rattle.range_map_blaze.proofs.lemmas.Cuts.{opened-below, opened-past, opened-undone}
use Rattle.range_map_blaze.proofs.lemmas.Joined.{past-greatest, past-none, past-starts}
use Rattle.range_map_blaze.proofs.cut.open_after.Given.{Over}
use Rattle.range_map_blaze.proofs.cut.open_after.Goals as goal

-- The key is the greatest.
pub returns-in_default-clause-past : goal.returns-in_default-clause-past
returns-in_default-clause-past g c =
    past-greatest _ _ _ c.requires.canonical (c.in_default.ensures.none.0 refl)

-- The next key has no value.
pub returns-in_default-piece_at-clause-past : goal.returns-in_default-piece_at-clause-past
returns-in_default-piece_at-clause-past g c =
    past-none _ _ _ _ c.requires.canonical c.in-Some.ensures.next c.in_default-piece_at.ensures.around

-- The piece of the next key starts there.
pub returns-then-not-starts_before-clause-past : goal.returns-then-not-starts_before-clause-past
returns-then-not-starts_before-clause-past g c =
    past-starts _ _ _ _ _ c.requires.canonical c.in-Some.ensures.next c.in-Some-piece_at.ensures.around
    (lt-fails c.starts_before.result _ _ c.starts_before.ensures c.if-not-starts_before.true)

-- The rest of the piece is inserted.
put : (g : Over) (c : goal.In_ok-put g) → c.put.new.self
    ≡ with_piece (
      from_to (g.T.Integer.rank c.args.end + 1)
          (g.T.Integer.rank c.in-Some-piece_at.piece.run.end),
      g.V.MapValue.seen c.in-Some-piece_at.piece.value.now,
    )
    c.args.pieces.now
put g c =
    c.in_ok-put.ensures.pieces
    ∙ λ i. with_piece (
      from_to (c.in-Some.ensures.next i)
          (g.T.Integer.rank c.in-Some-piece_at.piece.run.end),
      g.met.V.MapValue.cloned _ _ c.in_ok-value.ensures.cases i,
    ) c.args.pieces.now

-- The piece extends over the key.
starts : (g : Over) (c : goal.In_ok-put g)
    → g.T.Integer.rank c.in-Some-piece_at.piece.run.start ≤ g.T.Integer.rank c.args.end
starts g c =
    let less = c.starts_before.ensures.0 c.if-not-starts_before.false in
    omega (arith, less, c.in-Some.ensures.next)

over : (g : Over) (c : goal.In_ok-put g)
    → g.T.Integer.rank c.args.end < g.T.Integer.rank c.in-Some-piece_at.piece.run.end
over g c =
    let high = (covers-bounds (run_of g.T.Integer.rank c.in-Some-piece_at.piece.run)
    (g.T.Integer.rank c.in-Some.next) c.in-Some-piece_at.ensures.around.around).1 in
    omega (arith, high, c.in-Some.ensures.next)

pub returns-clause-past : goal.returns-clause-past
returns-clause-past g c =
    ap (pieces_past (g.T.Integer.rank c.args.end)) (put g c)
    ∙ opened-past g.T.Integer.value_count (g.T.Integer.rank c.args.end) c.args.pieces.now
    (run_of g.T.Integer.rank c.in-Some-piece_at.piece.run, g.V.MapValue.seen c.in-Some-piece_at.piece.value.now)
    c.requires.canonical c.in-Some-piece_at.ensures.among (starts g c) (over g c)

pub returns-clause-below : goal.returns-clause-below
returns-clause-below g c rank below =
    ap (pieces_below rank) (put g c)
    ∙ opened-below rank rank c.args.pieces.now (
      from_to (g.T.Integer.rank c.args.end + 1)
          (g.T.Integer.rank c.in-Some-piece_at.piece.run.end),
      g.V.MapValue.seen c.in-Some-piece_at.piece.value.now,
    ) below

pub returns-clause-undone : goal.returns-clause-undone
returns-clause-undone g c =
    ap (λ next. without_start next c.put.new.self) c.in-Some.ensures.next
    ∙ ap (without_start (g.T.Integer.rank c.args.end + 1)) (put g c)
    ∙ opened-undone g.T.Integer.value_count (g.T.Integer.rank c.args.end) c.args.pieces.now
    (run_of g.T.Integer.rank c.in-Some-piece_at.piece.run, g.V.MapValue.seen c.in-Some-piece_at.piece.value.now)
    c.requires.canonical c.in-Some-piece_at.ensures.among (starts g c) (over g c)
