use Rattle.std.proofs.Common.{[], refl}
use Rattle.std.specs.Prelude.{codes}
use Rattle.rsb_commands.specs.Text.{ranges_text}
use Rattle.rsb_commands.proofs.lemmas.writing.LaidText.{lays-cut, lays-nothing, lays-then}
use Rattle.rsb_commands.proofs.text.write_ranges.Goals as goal

-- The ranges were cut short.
pub returns-in_err-write_list : goal.returns-in_err-write_list
returns-in_err-write_list g c =
    lays-cut _ _ _ _ _ _ [] (ranges_text c.args.ranges.now) (codes "\n") _
    c.from_residual.ensures.1 refl (lays-nothing _ _) c.in_err-write_list.ensures

-- A line feed comes after the ranges.
pub returns : goal.returns
returns g c =
    lays-then _ _ _ _ _ (ranges_text c.args.ranges.now) (codes "\n") _ refl
    c.in_ok-write_list.ensures c.write_line_feed.ensures
