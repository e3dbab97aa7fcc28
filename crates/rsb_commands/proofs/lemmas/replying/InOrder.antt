-- Commands that run one after the other.
use Rattle.std.proofs.Common.{◌≡◌, ◌∙◌, ℕ, suc, ◌+◌, ◌<◌, List, [], ◌∷◌, ◌++◌, get_or, length, take, refl, sym, ap, subst, arith}
use Rattle.std.proofs.Math.Seq.{take-suc}
use Rattle.rsb_integer.specs.Runs.{Interval}
use Rattle.rsb_command_parser.specs.declared.command.Command.{Command}
use Rattle.rsb_commands.specs.Interpreter.{Content, Sets, AreReplies, AreRepliesFrom, IsReply, no_members, sets_after, sets_of}

-- The place after a place is one more.
next_place : (at : ℕ) → at + 1 ≡ suc at
next_place at = omega arith

module _ {T : Type 0} (rank : T → ℕ) (value_count : ℕ) where
  -- The sets after the commands.
  abbrev pub sets_after_all : Sets → List (Command T) → Sets
  sets_after_all sets [] = sets
  sets_after_all sets (command ∷ commands) =
      sets_after_all (sets_after rank value_count sets command) commands

  -- The sets after one more command are what that command makes of the sets after the others.
  sets_after_all-push : (sets : Sets) (commands : List (Command T)) (command : Command T)
      → sets_after_all sets (commands ++ command ∷ [])
      ≡ sets_after rank value_count (sets_after_all sets commands) command
  sets_after_all-push sets [] command = refl
  sets_after_all-push sets (c ∷ cs) command =
      sets_after_all-push (sets_after rank value_count sets c) cs command

  -- With one more command, which runs on the sets after the others, there is one more reply.
  replies-push : (sets : Sets) (commands : List (Command T)) (replies : List (Content T))
      (command : Command T) (reply : Content T)
      → AreRepliesFrom rank value_count sets commands replies
      → IsReply rank value_count (sets_after_all sets commands) command reply
      → AreRepliesFrom rank value_count sets (commands ++ command ∷ []) (replies ++ reply ∷ [])
  replies-push sets [] [] command reply all one = (one, tt)
  replies-push sets [] (r ∷ rs) command reply all one = absurd all
  replies-push sets (c ∷ cs) [] command reply all one = absurd all
  replies-push sets (c ∷ cs) (r ∷ rs) command reply all one =
      (all.0, replies-push (sets_after rank value_count sets c) cs rs command reply all.1 one)

  -- Whether the commands before the place `at` have these replies, and leave these sets.
  pub record HasRun (commands : List (Command T)) (at : ℕ) (replies : List (Content T))
      (kept : List (List Interval)) : Type 0 where
    pub replied : AreReplies rank value_count (take at commands) replies
    pub left : sets_of kept ≡ sets_after_all no_members (take at commands)

  -- One more command adds its reply and changes the sets.
  pub has_run_more : (commands : List (Command T)) (at : ℕ) (command : Command T)
      (replies more : List (Content T)) (reply : Content T)
      (kept new : List (List Interval)) → HasRun commands at replies kept
      → at < length commands → command ≡ get_or commands at command → more ≡ replies ++ reply ∷ []
      → IsReply rank value_count (sets_of kept) command reply
      → sets_of new ≡ sets_after rank value_count (sets_of kept) command
      → HasRun commands (at + 1) more new
  has_run_more commands at command replies more reply kept new before within here grown one next =
      let front = take at commands in
      let longer : take (at + 1) commands ≡ front ++ command ∷ [] =
      ap (λ n. take n commands) (next_place at) ∙ take-suc commands at command within
      ∙ ap (λ c. front ++ c ∷ []) (sym here) in
      let one' = subst (λ sets. IsReply rank value_count sets command reply) before.left one in
      let all = replies-push no_members front replies command reply before.replied one' in record {
        replied = rw (longer, grown) all;
        left = next ∙ ap (λ sets. sets_after rank value_count sets command) before.left
            ∙ sym (sets_after_all-push no_members front command)
            ∙ ap (sets_after_all no_members) (sym longer);
      }
