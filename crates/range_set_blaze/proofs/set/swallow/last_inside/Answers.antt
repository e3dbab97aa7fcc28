use Rattle.std.proofs.Common.{arith}
use Rattle.rsb_storage.proofs.lemmas.runs.Storage.{lt-fails}
use Rattle.range_set_blaze.proofs.set.swallow.last_inside.Goals as goal

-- If no run starts at or before the end, none starts inside.
pub returns-in_err-last : goal.returns-in_err-last
returns-in_err-last g c = rw c.from_residual.ensures (λ other inside.
    c.in_err-last.ensures other inside.among (omega (arith, inside.within)))

-- If the last of those runs starts past the start, it starts inside.
pub returns-then-starts_before : goal.returns-then-starts_before
returns-then-starts_before g c = record {
  among = c.in_ok-last.ensures.among;
  later = c.starts_before.ensures.0 c.if-starts_before.true;
  within = omega (arith, c.in_ok-last.ensures.starts);
}

-- Otherwise none starts inside.
pub returns-else-starts_before : goal.returns-else-starts_before
returns-else-starts_before g c other inside =
    let up_to = c.in_ok-last.ensures.last other inside.among (omega (arith, inside.within)) in
    absurd (omega (
      arith,
      inside.later,
      up_to,
      lt-fails c.starts_before.result _ _ c.starts_before.ensures c.if-starts_before.false,
    ))
