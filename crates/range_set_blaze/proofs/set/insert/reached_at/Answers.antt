use Rattle.std.proofs.Common.{arith}
use Rattle.rsb_storage.proofs.lemmas.runs.Apart.{last-gap, none-gap}
use Rattle.rsb_storage.proofs.lemmas.runs.Storage.{le-fails}
use Rattle.range_set_blaze.proofs.set.insert.reached_at.Goals as goal

-- If no run starts at or before the value, it is unreached.
pub returns-in_err-first : goal.returns-in_err-first
returns-in_err-first g c =
    rw c.from_residual.ensures
    (λ other less more. none-gap _ _ c.requires.canonical _ c.in_err-first.ensures other
    (omega (arith, less)))

-- If the last of those runs contains or touches the value, it is the run to find.
pub returns-then-reaches : goal.returns-then-reaches
returns-then-reaches g c =
    let starts = c.in_ok-first.ensures.starts in
    record {
      among = c.in_ok-first.ensures.among;
      starts = omega (arith, starts);
      reaches = c.reaches.ensures.0 c.if-reaches.true;
    }

-- Otherwise that run ends too far before the value, and no other reaches it.
pub returns-else-reaches : goal.returns-else-reaches
returns-else-reaches g c =
    let far = le-fails c.reaches.result _ _ c.reaches.ensures c.if-reaches.false in
    λ other less more. last-gap _ _ c.requires.canonical _ _ c.in_ok-first.ensures other
    (omega (arith, far, more)) (omega (arith, less))
