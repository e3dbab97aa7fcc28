use Rattle.ip_sets.proofs.line.range.one.Goals as goal

pub returns-in_err-address : goal.returns-in_err-address
returns-in_err-address g c =
    rw c.from_residual.ensures (λ range h. c.in_err-address.ensures h.address h.written)
