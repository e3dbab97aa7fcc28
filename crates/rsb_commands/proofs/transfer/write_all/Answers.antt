use Rattle.std.proofs.lemmas.List.{take_rest}
use Rattle.rsb_commands.proofs.lemmas.writing.Appended.{has_written_more}
use Rattle.rsb_commands.proofs.transfer.write_all.Goals as goal

-- The bytes that this call took follow those that were written before it.
pub loop-rest-preserved-in-Ok : goal.loop-rest-preserved-in-Ok
loop-rest-preserved-in-Ok g c =
    let more = has_written_more _ _ _ c.args.text.now c.loop-rest.rest.now c.in-Ok.count
    c.loop-rest.invariant c.in-Ok.ensures.bytes in
    rw take_rest more
