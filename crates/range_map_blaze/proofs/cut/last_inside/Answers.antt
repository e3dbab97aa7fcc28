use Rattle.std.proofs.Common.{arith, refl}
use Rattle.rsb_storage.proofs.lemmas.runs.Storage.{lt-fails}
use Rattle.range_map_blaze.proofs.lemmas.Inside.{inside-last, inside-none}
use Rattle.range_map_blaze.proofs.cut.last_inside.Goals as goal

pub returns-in_err-piece : goal.returns-in_err-piece
returns-in_err-piece g c =
    rw c.from_residual.ensures (inside-none _ _ _ c.in_err-piece.ensures.last)

pub returns-then-is_below : goal.returns-then-is_below
returns-then-is_below g c =
    let starts = c.in_ok-piece.ensures.last.starts in
    record {
      piece = _;
      among = c.in_ok-piece.ensures.last.among;
      starts = refl;
      past = c.is_below.ensures.0 c.if-is_below.true;
      to = omega (arith, starts);
    }

pub returns-else-is_below : goal.returns-else-is_below
returns-else-is_below g c =
    inside-last _ _ _ _ c.in_ok-piece.ensures.last
    (lt-fails c.is_below.result _ _ c.is_below.ensures c.if-is_below.false)
