use Rattle.std.proofs.Common.{vec_len, ◌+◌, ◌≡◌, ◌∷◌, ◌++◌, [], ap, subst, ◌∙◌, inr, length, refl}
use Rattle.std.proofs.Math.Nat.{le_trans}
use Rattle.std.proofs.lemmas.List.{map-append, take_all}
use Rattle.std.proofs.lemmas.Option.{slice_get_read}
use Rattle.rsb_integer.proofs.lemmas.Range.{one_place}
use Rattle.rsb_commands.specs.Interpreter.{AreReplies, content_of, contents_of, no_members}
use Rattle.rsb_commands.proofs.lemmas.replying.OneReply.{replies_unique}
use Rattle.rsb_commands.proofs.lemmas.replying.InOrder.{has_run_more}
use Rattle.rsb_commands.proofs.interpreter.run_commands.Goals as goal

pub loop-at-preserved : goal.loop-at-preserved
loop-at-preserved g c =
    let number = g.T.SafeLen.SafeLength.number in
    let before = c.loop-at.replies.items in
    let reply = c.in-Ok-run_command.reply in
    let was = c.unwrap.ensures in
    let grown : c.push.new.self.items ≡ before ++ reply ∷ [] = rw was at c.push.ensures.items in
    let more : vec_len c.push.new.self ≡ vec_len c.loop-at.replies + 1 =
    rw was at c.push.ensures.len in
    let contents = ap (contents_of number) grown
    ∙ map-append (content_of number) before (reply ∷ []) in
    let done = c.in-Ok-run_command.ensures in (
      has_run_more g.T.Integer.rank g.T.Integer.value_count c.args.commands.now c.loop-at.at
          c.index-commands-at.result (contents_of number before) _ (content_of number reply)
          c.loop-at.sets.items c.run_command.new.sets.items c.loop-at.invariant.0
          c.loop-at-test.true c.index-commands-at.is contents done.reply done.after,
      done.ten,
      more ∙ ap (λ n. n + 1) c.loop-at.invariant.2,
      le_trans c.loop-at.invariant.3 c.push.ensures.capacity,
    )

-- The replies that were found are the only ones.
pub returns-clause-only : goal.returns-clause-only
returns-clause-only g c = λ others are.
    let laws = g.met.T.Integer in
    let rank = g.T.Integer.rank in
    let value_count = g.T.Integer.value_count in
    let found = contents_of g.T.SafeLen.SafeLength.number c.loop-at.replies.items in
    let all = subst (λ commands. AreReplies rank value_count commands found)
    (take_all c.loop-at.at c.args.commands.now c.loop-at-test.false)
    c.loop-at.invariant.0.replied in
    replies_unique rank value_count
    (one_place rank value_count g.T.Ord.cmp laws.exact laws.in_order)
    no_members c.args.commands.now others found are all

-- The allocation failed in the command at `at`.
pub returns-in_default-run_command-clause-took_memory :
    goal.returns-in_default-run_command-clause-took_memory
returns-in_default-run_command-clause-took_memory g c =
    let commands = c.args.commands.now in
    inr (rw (slice_get_read commands (length commands) c.loop-at.at c.index-commands-at.result refl
    c.loop-at-test.true c.index-commands-at.is)
    c.in_default-run_command.ensures.took_memory)
