use Rattle.std.proofs.Common.{[], arith, subst}
use Rattle.rsb_commands.specs.Interpreter.{content_of}
use Rattle.rsb_commands.specs.Page.{Lays}
use Rattle.rsb_commands.proofs.lemmas.writing.LaidText.{lays-nothing}
use Rattle.rsb_commands.proofs.lemmas.writing.Replies.{replied_all, replied_front, replied_more, replied_none, replied_part, replied_short}
use Rattle.rsb_commands.proofs.program.answer.Goals as goal

-- Allocation failed before the first command.
pub returns-in_err-sets-clause-no_memory : goal.returns-in_err-sets-clause-no_memory
returns-in_err-sets-clause-no_memory g c = λ is replies all.
    replied_none c.args.commands.now replies _

-- No command was run, and nothing was laid.
pub loop-command-init : goal.loop-command-init
loop-command-init g c = (
  record {
    replies = [];
    run = record { replied = tt; left = c.in_ok-sets.ensures.empty };
    laid = lays-nothing _ _;
  },
  c.in_ok-sets.ensures.ten,
)

-- Allocation failed in a command, and the replies before it were not all written.
pub returns-in_err-send-clause-io : goal.returns-in_err-send-clause-io
returns-in_err-send-clause-io g c = λ is replies all.
    replied_part _ c.args.commands.now c.loop-command.command-index c.loop-command.sets.items _ _
    c.loop-command.invariant.0 c.requires replies all _ _ c.in_err-send.ensures.laid

-- Allocation failed in a command, and the replies before it were all written.
pub returns-in_default-clause-no_memory : goal.returns-in_default-clause-no_memory
returns-in_default-clause-no_memory g c = λ is replies all.
    replied_front _ c.args.commands.now c.loop-command.command-index c.loop-command.sets.items _ _
    c.loop-command.invariant.0 c.requires replies all c.command-item.result _
    c.loop-command-test.true c.command-item.is c.in_default.ensures.took_memory
    c.in_ok-send.ensures.laid c.in_ok-send.ensures.empty

-- A reply was cut short.
pub returns-in_err-write_line-clause-io : goal.returns-in_err-write_line-clause-io
returns-in_err-write_line-clause-io g c = λ is replies all.
    replied_short _ c.args.commands.now c.loop-command.command-index c.loop-command.sets.items _ _
    c.loop-command.invariant.0 c.requires replies all c.command-item.result
    (content_of (λ length. length) c.in-Ok.reply) c.run_command.new.sets.items _ _
    c.loop-command-test.true c.command-item.is c.in-Ok.ensures.reply c.in-Ok.ensures.after
    c.in_err-write_line.ensures

-- One more command was run, and its reply was laid.
pub loop-command-preserved : goal.loop-command-preserved
loop-command-preserved g c = (
  replied_more _ c.args.commands.now c.loop-command.command-index c.loop-command.sets.items _ _
      c.loop-command.invariant.0 c.command-item.result
      (content_of (λ length. length) c.in-Ok.reply) c.run_command.new.sets.items _
      c.loop-command-test.true c.command-item.is c.in-Ok.ensures.reply c.in-Ok.ensures.after
      c.in_ok-write_line.ensures,
  c.in-Ok.ensures.ten,
)

-- All replies were laid, and what waits was written.
pub returns-clause-ok : goal.returns-clause-ok
returns-clause-ok g c =
    replied_all _ c.args.commands.now c.loop-command.command-index c.loop-command.sets.items _ _
    c.loop-command.invariant.0 _ c.send-2.result c.requires (omega arith) c.send-2.ensures.laid
    c.send-2.ensures.empty

-- If what waits was not all written, not all replies were.
pub returns-clause-io : goal.returns-clause-io
returns-clause-io g c = λ is replies all.
    replied_part _ c.args.commands.now c.loop-command.command-index c.loop-command.sets.items _ _
    c.loop-command.invariant.0 c.requires replies all _ _
    (subst (λ result. Lays g.W.Write.contents c.loop-command.page c.send-2.new.self result []) is
    c.send-2.ensures.laid)
