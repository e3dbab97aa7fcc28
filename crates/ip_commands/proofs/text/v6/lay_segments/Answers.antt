use Rattle.std.proofs.Common.{◌∙◌, ◌++◌, ap, arith, sym}
use Rattle.std.proofs.lemmas.Grind.{common_steps}
use Rattle.ip_commands.proofs.lemmas.Text.{parted-groups, whole-groups}
use Rattle.ip_commands.proofs.text.v6.lay_segments.Goals as goal

-- No two zeros in a row.
pub returns-then-count-lt2-clause-laid : goal.returns-then-count-lt2-clause-laid
returns-then-count-lt2-clause-laid c =
    c.lay_groups.ensures.laid
    ∙ ap (λ text. c.args.page.now.items ++ text) (sym (whole-groups c.args.segments.now
    c.longest_zero_run-start.result c.longest_zero_run-start.ensures.value (omega arith)))

-- The segments before the longest run of zeros, and those after it.
pub returns-clause-laid : goal.returns-clause-laid
returns-clause-laid c =
    let parted = parted-groups c.args.segments.now c.longest_zero_run-start.result
    c.longest_zero_run-start.ensures.value (omega arith) in
    rw parted (grind (arith, common_steps))
