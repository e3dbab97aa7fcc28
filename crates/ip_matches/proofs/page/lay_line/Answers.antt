use Rattle.std.proofs.Common.{[], ◌∷◌, ◌++◌, append_assoc, subst}
use Rattle.ip_matches.specs.Transfer.{WritesPart}
use Rattle.ip_matches.proofs.lemmas.Written.{part_before, sends_both, sends_part}
use Rattle.ip_matches.proofs.page.lay_line.Goals as goal

-- The line could not be laid.
pub returns-in_err-lay-clause-laid : goal.returns-in_err-lay-clause-laid
returns-in_err-lay-clause-laid g c =
    let page = c.args.page.now.items in
    let line = c.args.line.now in
    sends_part c.from_residual.result c.in_err-lay.field-0.0 _ _ _ _ c.from_residual.ensures.1
    (subst (WritesPart _ _) (append_assoc page line (10 ∷ []))
    (part_before _ _ (page ++ line) (10 ∷ []) c.in_err-lay.ensures.laid))

-- The line feed was laid after the line.
pub returns-clause-laid : goal.returns-clause-laid
returns-clause-laid g c =
    sends_both c.lay-2.result _ _ _ c.args.page.now.items c.args.line.now (10 ∷ [])
    c.lay.new.page.items c.lay-2.new.page.items c.in_ok-lay.ensures.laid c.lay-2.ensures.laid
