use Rattle.std.proofs.Common.{◌≡◌, ◌∙◌, Err, ap, drop, length, subst, sym, take}
use Rattle.std.proofs.lemmas.List.{take-append-drop, take_rest}
use Rattle.std.specs.Str.Lines as str
use Rattle.rsb_command_parser.specs.Spelling.{AreCommands, IsFirstBadLine}
use Rattle.rsb_command_parser.proofs.lemmas.reading.Parts.{HasBadLine-lines, HasLines-lines, lines-taken, taken-lines}
use Rattle.rsb_command_parser.proofs.input.Reading.take_lines.Goals as goal

-- The lines spell commands.
pub returns-in_ok-extend_from_slice-in-Ok-clause-taken :
    goal.returns-in_ok-extend_from_slice-in-Ok-clause-taken
returns-in_ok-extend_from_slice-in-Ok-clause-taken g c = λ before taken.
    let self = c.args.self.now in
    let rest = self.rest.items in
    let front = take c.args.end rest in
    let left = drop c.args.end rest in
    let has = taken-lines before self.bad_line _ c.requires.good taken in
    let is : c.extend_from_slice.new.self.items ≡ left =
    c.in_ok-extend_from_slice-in-Ok.ensures.items
    ∙ rw (take_rest, c.new-rest.ensures.items) (ap (drop c.args.end) c.deref-in-Ok.ensures.value) in
    let lines = HasLines-lines before front rest left self.commands.items c.in-Ok.commands.items
    self.count c.in-Ok.count has (sym (take-append-drop c.args.end rest)) c.requires.closed
    (subst (λ bytes. AreCommands (take c.args.end bytes) c.in-Ok.commands.items)
    c.deref.ensures.value c.in-Ok.ensures.commands)
    (c.in-Ok.ensures.counted
    ∙ ap (λ bytes. length (str.lines (take c.args.end bytes))) c.deref.ensures.value) in
    lines-taken before self.bad_line _ c.requires.good
    (rw (c.in_ok-append-in-Ok.ensures.items, c.in_ok-self-in-Ok.ensures.sum, is) lines)

-- One of the lines is bad.
pub returns-in_ok-sum-in-Err-BadLine-clause-taken :
    goal.returns-in_ok-sum-in-Err-BadLine-clause-taken
returns-in_ok-sum-in-Err-BadLine-clause-taken g c = λ before taken.
    let self = c.args.self.now in
    let rest = self.rest.items in
    let front = take c.args.end rest in
    let left = drop c.args.end rest in
    let has = taken-lines before self.bad_line _ c.requires.good taken in
    let bad = c.in-Err-BadLine.ensures.bad_line c.in-Err-BadLine.number
    (ap (λ fault. Err fault) c.in-Err-BadLine.field-0-is) in
    rw c.in_ok-sum-in-Err-BadLine.ensures.sum
    (HasBadLine-lines before front rest left self.commands.items self.count c.in-Err-BadLine.number
    has (sym (take-append-drop c.args.end rest)) c.requires.closed
    (subst (λ bytes. IsFirstBadLine (take c.args.end bytes) c.in-Err-BadLine.number)
    c.deref.ensures.value bad))
