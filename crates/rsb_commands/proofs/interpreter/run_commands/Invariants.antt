use Rattle.std.proofs.Common.{◌≡◌, ◌≤◌, length, vec_len}
use Rattle.std.specs.Prelude.{vec_capacity}
use Rattle.rsb_commands.specs.Interpreter.{contents_of}
use Rattle.rsb_commands.proofs.lemmas.replying.InOrder.{HasRun}
use Rattle.rsb_commands.proofs.interpreter.run_commands.Given as goal

-- The commands before this one have their replies, and there is room for the others.
abbrev pub invariant-loop-at : goal.invariant-loop-at
invariant-loop-at g l =
    HasRun g.T.Integer.rank g.T.Integer.value_count l.commands l.at
    (contents_of g.T.SafeLen.SafeLength.number l.replies.items) l.sets.items
    × (vec_len l.sets ≡ 10)
    × (vec_len l.replies ≡ l.at)
    × (length l.commands ≤ vec_capacity l.replies)
