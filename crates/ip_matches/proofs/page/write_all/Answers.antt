use Rattle.std.proofs.lemmas.List.{take_rest}
use Rattle.ip_matches.proofs.lemmas.Written.{written_more}
use Rattle.ip_matches.proofs.page.write_all.Goals as goal

-- The bytes that this call took follow those that were written before it.
pub loop-rest-preserved-in-Ok : goal.loop-rest-preserved-in-Ok
loop-rest-preserved-in-Ok g c =
    let more = written_more _ _ _ c.args.bytes.now c.loop-rest.rest.now c.in-Ok.count
    c.loop-rest.invariant c.in-Ok.ensures.bytes in
    rw take_rest more
