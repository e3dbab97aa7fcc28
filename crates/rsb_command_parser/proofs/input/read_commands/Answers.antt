use Rattle.std.proofs.Common.{◌++◌, refl, rules, sym, subst, take}
use Rattle.rsb_command_parser.specs.Input.{HasTaken}
use Rattle.rsb_command_parser.specs.Spelling.{IsFirstBadLine}
use Rattle.rsb_command_parser.proofs.lemmas.reading.Consumed.{Consumes-end, Consumes-keeps, Consumes-then, consumed-all, consumed-only}
use Rattle.rsb_command_parser.proofs.input.read_commands.Goals as goal
use Rattle.rsb_command_parser.proofs.input.read_commands.Goals.{in-Ok+in_ok-take-in-Ok, in-Err+else-ne}

-- The bytes of this call follow those of the calls before it.
pub loop-preserved : goal.loop-preserved
loop-preserved g c =
    let start = g.R.Read.remaining c.args.input.now in
    let before = g.R.Read.remaining c.loop.input in
    let after = g.R.Read.remaining c.read.new.self in
    let bytes = c.loop.invariant.0 in
    elim c.match-read.branch [
      | in-Ok+in_ok-take-in-Ok w ↦
          let new = take w.in-Ok.count c.read.new.buf in (
            bytes ++ new,
            Consumes-then start before after bytes new (bytes ++ new) refl c.loop.invariant.1
                w.in-Ok.ensures.bytes.0,
            subst (HasTaken (bytes ++ new)) (sym w.reading-is)
                (w.in_ok-take-in-Ok.ensures.taken bytes c.loop.invariant.2),
          )
      | in-Err+else-ne w ↦ (
        bytes,
        Consumes-keeps start before after bytes c.loop.invariant.1 w.in-Err.ensures.bytes,
        subst (HasTaken bytes) (sym w.reading-is) c.loop.invariant.2,
      )
    ]

-- At the end of the input, what was read is the whole input.
pub returns-in-Ok-eq0-clause-only : goal.returns-in-Ok-eq0-clause-only
returns-in-Ok-eq0-clause-only g c =
    let bytes = c.loop.invariant.0 in
    let all = Consumes-end _ _ _ bytes _ _ c.in-Ok-eq0.field-0-test c.loop.invariant.1
    c.in-Ok-eq0.ensures.bytes.0 in
    consumed-only (λ commands. commands.items) _ _ bytes all (search rules) c.finish.result
    (c.finish.ensures.commands bytes c.loop.invariant.2)

pub returns-in-Ok-eq0-clause-bad_line : goal.returns-in-Ok-eq0-clause-bad_line
returns-in-Ok-eq0-clause-bad_line g c = λ number is.
    let bytes = c.loop.invariant.0 in
    let all = Consumes-end _ _ _ bytes _ _ c.in-Ok-eq0.field-0-test c.loop.invariant.1
    c.in-Ok-eq0.ensures.bytes.0 in
    consumed-all _ _ bytes (λ rest. IsFirstBadLine rest number) all (search rules)
    (c.finish.ensures.bad_line bytes number c.loop.invariant.2 is)
