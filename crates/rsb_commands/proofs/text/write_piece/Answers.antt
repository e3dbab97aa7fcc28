use Rattle.std.proofs.Common.{◌≡◌, ◌∙◌, ◌++◌, ℤ, Bool, [], append_assoc}
use Rattle.std.specs.Prelude.{codes}
use Rattle.rsb_commands.specs.Interpreter.{flag, piece}
use Rattle.rsb_commands.specs.Text.{ends_text, flag_text, line_text}
use Rattle.rsb_commands.proofs.lemmas.writing.LaidText.{lays-cut, lays-nothing, lays-then}
use Rattle.rsb_commands.proofs.text.write_piece.Goals as goal

-- The text of a run or a gap is that of its ends, then a flag that says which of the two it is.
piece_text : (first last : ℤ) (present : Bool) → line_text (piece first last present)
    ≡ ends_text first last ++ (codes " " ++ line_text (flag present))
piece_text first last present =
    let ends = ends_text first last in
    append_assoc (ends ++ codes " ") (flag_text present) (codes "\n")
    ∙ append_assoc ends (codes " ") (line_text (flag present))

-- The ends were cut short.
pub returns-in_err-write_ends : goal.returns-in_err-write_ends
returns-in_err-write_ends g c =
    let ends = ends_text c.args.first.now c.args.last.now in
    lays-cut _ _ _ _ _ _ [] ends (codes " " ++ line_text (flag c.args.present)) _
    c.from_residual.ensures.1 (piece_text c.args.first.now c.args.last.now c.args.present)
    (lays-nothing _ _) c.in_err-write_ends.ensures

-- The flag comes after the ends.
pub returns : goal.returns
returns g c =
    let ends = ends_text c.args.first.now c.args.last.now in
    lays-then _ _ _ _ _ ends (codes " " ++ line_text (flag c.args.present)) _
    (piece_text c.args.first.now c.args.last.now c.args.present)
    c.in_ok-write_ends.ensures c.write_presence.ensures
