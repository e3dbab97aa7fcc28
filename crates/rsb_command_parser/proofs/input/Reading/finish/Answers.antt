use Rattle.std.proofs.Common.{◌≡◌, ◌∙◌, Err, ap, subst, sym}
use Rattle.rsb_command_parser.specs.Spelling.{AreCommands, IsFirstBadLine}
use Rattle.rsb_command_parser.proofs.lemmas.reading.Parts.{AreCommands-rest, IsFirstBadLine-bytes, IsFirstBadLine-rest, none_is, taken-bad, taken-lines}
use Rattle.rsb_command_parser.proofs.input.Reading.finish.Goals as goal

-- A bad line was found before.
pub returns-in-Some-clause-bad_line : goal.returns-in-Some-clause-bad_line
returns-in-Some-clause-bad_line g c = λ bytes number taken is.
    let same : c.in-Some.number ≡ number = cc is in
    subst (IsFirstBadLine bytes) same (IsFirstBadLine-bytes bytes c.in-Some.number
    (taken-bad bytes c.args.self.bad_line c.in-Some.number _ c.in-Some.is taken))

-- The rest spells commands, which come after the others.
pub returns-in-Ok-clause-commands : goal.returns-in-Ok-clause-commands
returns-in-Ok-clause-commands g c = λ bytes taken.
    let self = c.args.self in
    let has = taken-lines bytes self.bad_line _ (none_is self.bad_line c.in_default.is) taken in
    let spelled = subst (λ rest. AreCommands rest c.in-Ok.last.items) c.deref.ensures.value
    c.in-Ok.ensures.commands in
    subst (AreCommands bytes) (sym c.in_ok-append-in-Ok.ensures.items)
    (AreCommands-rest bytes self.rest.items self.commands.items c.in-Ok.last.items self.count has
    spelled)

-- The rest is the first bad line.
pub returns-in-Err-BadLine-clause-bad_line : goal.returns-in-Err-BadLine-clause-bad_line
returns-in-Err-BadLine-clause-bad_line g c = λ bytes number taken is.
    let self = c.args.self in
    let has = taken-lines bytes self.bad_line _ (none_is self.bad_line c.in_default.is) taken in
    let same : c.in_ok-sum-in-Err-BadLine.field-0 ≡ number = cc is in
    let bad = subst (λ rest. IsFirstBadLine rest c.in-Err-BadLine.number) c.deref.ensures.value
    (c.in-Err-BadLine.ensures.bad_line c.in-Err-BadLine.number
    (ap (λ fault. Err fault) c.in-Err-BadLine.field-0-is)) in
    subst (IsFirstBadLine bytes) (sym c.in_ok-sum-in-Err-BadLine.ensures.sum ∙ same)
    (IsFirstBadLine-rest bytes self.rest.items self.commands.items self.count
    c.in-Err-BadLine.number has bad)
