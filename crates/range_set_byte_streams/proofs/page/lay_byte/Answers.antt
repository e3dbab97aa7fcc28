use Rattle.std.proofs.Common.{[], ◌∷◌}
use Rattle.std.proofs.lemmas.Result.{err_from_is_err_and}
use Rattle.range_set_byte_streams.proofs.lemmas.Written.{part-before}
use Rattle.range_set_byte_streams.proofs.page.lay_byte.Goals as goal

pub returns-in_err-make_room : goal.returns-in_err-make_room
returns-in_err-make_room g c =
    let passed = err_from_is_err_and c.from_residual.result c.from_residual.ensures.1 in
    rw passed.1
    (part-before _ _ c.args.page.now.items (c.args.byte ∷ []) c.in_err-make_room.ensures.laid)
