use Rattle.ip_matches.proofs.lemmas.Written.{part_before, sends_at_once, sends_part}
use Rattle.ip_matches.proofs.page.lay.Goals as goal

-- What waited could not be written.
pub returns-in_err-send-clause-laid : goal.returns-in_err-send-clause-laid
returns-in_err-send-clause-laid g c =
    sends_part c.from_residual.result c.in_err-send.field-0.0 _ _
    _ _ c.from_residual.ensures.1
    (part_before _ _ c.args.page.now.items c.args.bytes.now c.in_err-send.ensures.written)

-- The bytes were written after what waited.
pub returns-then-bytes-gt-PAGE-clause-laid : goal.returns-then-bytes-gt-PAGE-clause-laid
returns-then-bytes-gt-PAGE-clause-laid g c =
    sends_at_once c.write_all.result _ _ _ c.args.page.now.items c.args.bytes.now
    c.send.new.page.items c.in_ok-send.ensures.written c.in_ok-send.ensures.empty
    c.write_all.ensures.written
