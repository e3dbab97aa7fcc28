use Rattle.std.proofs.Common.{◌≡◌, ◌+◌, ◌<◌, ap, arith, length, rules, subst, sym}
use Rattle.rsb_command_parser.specs.Spelling.{IsFirstBadLine, Spells, words}
use Rattle.rsb_command_parser.proofs.lemmas.reading.Lines.{has_read_silent, has_read_command, has_read_bad, has_read_count, has_read_some}
use Rattle.rsb_command_parser.proofs.parse.parse_lines.Goals as goal

-- The line that was read last is the first bad one.
pub returns-in_default-command_of-clause-bad_line :
    goal.returns-in_default-command_of-clause-bad_line
returns-in_default-command_of-clause-bad_line g c = λ number is.
    let line = c.first_line.result.0.now in
    let same : c.loop-rest.number + 1 ≡ number = cc is in
    let cut = c.in-Some.ensures in
    let some : 0 < length (words line) = omega (arith, ap length cut) in
    subst (λ n. IsFirstBadLine c.args.input.now n) same
    (has_read_bad c.args.input.now c.loop-rest.rest.now line c.first_line.result.1.now
    c.loop-rest.number c.loop-rest.commands.items c.first_line.ensures.lines
    c.loop-rest.invariant.0 some
    (subst (λ ws. (command : _) → Spells ws command → ⊥) (sym cut)
    c.in_default-command_of.ensures))

-- Allocation failed for one more command, so the input spells at least one.
pub returns-in_err-push-clause-took_memory : goal.returns-in_err-push-clause-took_memory
returns-in_err-push-clause-took_memory g c = λ is.
    let line = c.first_line.result.0.now in
    let command = c.in-Some-command_of.command in
    let cut = c.in-Some.ensures in
    let some : 0 < length (words line) = omega (arith, ap length cut) in
    has_read_some c.args.input.now _ _ c.loop-rest.commands.items command
    (has_read_command c.args.input.now c.loop-rest.rest.now line c.first_line.result.1.now
    c.loop-rest.number c.loop-rest.commands.items c.first_line.ensures.lines
    c.loop-rest.invariant.0 command some
    (subst (λ ws. Spells ws command) (sym cut) c.in-Some-command_of.ensures))

-- One more line was read, which spells a command.
pub loop-rest-preserved-in_ok-push : goal.loop-rest-preserved-in_ok-push
loop-rest-preserved-in_ok-push g c =
    let line = c.first_line.result.0.now in
    let command = c.in-Some-command_of.command in
    let cut = c.in-Some.ensures in
    let some : 0 < length (words line) = omega (arith, ap length cut) in (
      rw c.in_ok-push.ensures.items
          (has_read_command c.args.input.now c.loop-rest.rest.now line c.first_line.result.1.now
          c.loop-rest.number c.loop-rest.commands.items c.first_line.ensures.lines
          c.loop-rest.invariant.0 command some
          (subst (λ ws. Spells ws command) (sym cut) c.in-Some-command_of.ensures)),
      omega arith,
    )

-- One more line was read, which has no words.
pub loop-rest-preserved : goal.loop-rest-preserved
loop-rest-preserved g c = (
  has_read_silent c.args.input.now c.loop-rest.rest.now c.first_line.result.0.now
      c.first_line.result.1.now c.loop-rest.number c.loop-rest.commands.items
      c.first_line.ensures.lines c.loop-rest.invariant.0 (ap length c.in_default.ensures),
  omega arith,
)

-- All lines are counted.
pub returns-clause-counted : goal.returns-clause-counted
returns-clause-counted g c =
    has_read_count c.args.input.now c.loop-rest.rest.now c.loop-rest.number
    c.loop-rest.commands.items (search rules) c.loop-rest.invariant.0
