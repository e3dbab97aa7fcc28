-- Replies whose text is laid on a page while commands run, and then written.
use Rattle.std.proofs.Common.{◌≡◌, ◌∙◌, ℕ, ℤ, ◌+◌, ◌^◌, ◌<◌, ◌≤◌, List, [], ◌∷◌, ◌++◌, get_or, length, take, drop, Option, None, Some, Result, Ok, Err, refl, sym, ap, subst, inl, inr, arith}
use Rattle.std.proofs.lemmas.Grind.{flat_map-append}
use Rattle.std.proofs.lemmas.List.{append-nil, take_all, take-append-drop}
use Rattle.std.proofs.lemmas.Map.Lookups.{exact_signed}
use Rattle.std.proofs.lemmas.Option.{slice_get_read}
use Rattle.std.specs.Int.{w32}
use Rattle.std.specs.Io.KnownBytes.{Appends}
use Rattle.std.specs.Option.{IsSomeAnd}
use Rattle.std.specs.Ordering.{int_cmp}
use Rattle.std.specs.Prelude.{OnOk, slice_get}
use Rattle.rsb_integer.specs.Rank.{signed_rank}
use Rattle.rsb_integer.specs.laws.Rank.{signed-in_order}
use Rattle.rsb_integer.specs.Runs.{Interval}
use Rattle.rsb_integer.proofs.lemmas.Range.{one_place}
use Rattle.rsb_command_parser.specs.declared.command.Command.{Command}
use Rattle.rsb_command_parser.specs.declared.fault.Fault.{Fault}
use Rattle.rsb_commands.specs.declared.page.Page.{Page}
use Rattle.rsb_commands.specs.Answer.{AreNumberReplies, Replies, StopsForMemory, WrotePartOfReplies}
use Rattle.rsb_commands.specs.Interpreter.{Content, IsReply, MayTakeMemory, no_members, sets_after, sets_of}
use Rattle.rsb_commands.specs.Page.{Lays, sent_bytes, waiting_text}
use Rattle.rsb_commands.specs.Text.{line_text, text}
use Rattle.rsb_commands.specs.Transfer.{AppendsShortOf, CutsShort}
use Rattle.rsb_commands.proofs.lemmas.replying.InOrder.{HasRun, has_run_more}
use Rattle.rsb_commands.proofs.lemmas.replying.OneReply.{replies_unique, replies-take}
use Rattle.rsb_commands.proofs.lemmas.writing.Appended.{Appends-nothing, Keeps-itself}
use Rattle.rsb_commands.proofs.lemmas.writing.LaidText.{lays-all, lays-short, lays-then, short_and_more}

-- ---- the replies to commands over numbers

-- Numbers of 32 bits with the same rank are the same.
one_number : (x y : ℤ) → signed_rank w32 x < 2 ^ 32 → signed_rank w32 x ≡ signed_rank w32 y → x ≡ y
one_number = one_place (signed_rank w32) (2 ^ 32) int_cmp exact_signed (signed-in_order w32)

-- The replies to the first commands are the first of the replies to all commands.
first_replies : (commands : List (Command ℤ)) (at : ℕ) (found replies : List (Content ℤ))
    → AreNumberReplies (take at commands) found → AreNumberReplies commands replies
    → found ≡ take at replies
first_replies commands at found replies are all =
    replies_unique (signed_rank w32) (2 ^ 32) one_number no_members (take at commands) found
    (take at replies) are
    (replies-take (signed_rank w32) (2 ^ 32) no_members at commands replies all)

-- The text of replies is that of the first replies, then that of the others.
text_parts : (at : ℕ) (replies : List (Content ℤ))
    → text replies ≡ text (take at replies) ++ text (drop at replies)
text_parts at replies =
    ap text (sym (take-append-drop at replies))
    ∙ flat_map-append line_text (take at replies) (drop at replies)

-- If less than the text of the first replies was written, less than the whole text was.
short_of_all : (old new : Option (List ℕ)) (at : ℕ) (replies : List (Content ℤ))
    → AppendsShortOf old new (text (take at replies)) → AppendsShortOf old new (text replies)
short_of_all old new at replies cut =
    subst (AppendsShortOf old new) (sym (text_parts at replies))
    (short_and_more old new (text (take at replies)) (text (drop at replies)) cut)

-- ---- replies that are laid on a page while commands run

-- Whether the commands before the place `at` have replies, whose text was laid, and leave these
-- sets.
pub record HasReplied {W : Type 0} (contents : W → Option (List ℕ)) (commands : List (Command ℤ))
    (at : ℕ) (kept : List (List Interval)) (old new : Page W) : Type 0 where
  pub replies : List (Content ℤ)
  pub run : HasRun (signed_rank w32) (2 ^ 32) commands at replies kept
  pub laid : Lays contents old new (Ok tt) (text replies)

-- One more reply adds its line to the text.
text-push : (replies : List (Content ℤ)) (reply : Content ℤ)
    → text (replies ++ reply ∷ []) ≡ text replies ++ line_text reply
text-push replies reply =
    flat_map-append line_text replies (reply ∷ [])
    ∙ ap (λ v. text replies ++ v) (append-nil (line_text reply))

module _ {W : Type 0} (contents : W → Option (List ℕ)) (commands : List (Command ℤ)) (at : ℕ)
    (kept : List (List Interval)) (old page : Page W)
    (before : HasReplied contents commands at kept old page) where
  -- If one more command runs and its reply is laid, the replies so far include it.
  pub replied_more : (command : Command ℤ) (reply : Content ℤ) (next : List (List Interval))
      (new : Page W) → at < length commands → command ≡ get_or commands at command
      → IsReply (signed_rank w32) (2 ^ 32) (sets_of kept) command reply
      → sets_of next ≡ sets_after (signed_rank w32) (2 ^ 32) (sets_of kept) command
      → Lays contents page new (Ok tt) (line_text reply)
      → HasReplied contents commands (at + 1) next old new
  replied_more command reply next new within here is leaves laid = record {
    replies = before.replies ++ reply ∷ [];
    run = has_run_more (signed_rank w32) (2 ^ 32) commands at command before.replies _ reply kept
        next before.run within here refl is leaves;
    laid = lays-then contents old page new (Ok tt) (text before.replies) (line_text reply)
        (text (before.replies ++ reply ∷ [])) (text-push before.replies reply) before.laid laid;
  }

  -- After what waits is sent, the text of the replies so far was laid, or it was cut short.
  after_sending : (new : Page W) (result : Result (Unit {0}) Fault)
      → Lays contents page new result [] → Lays contents old new result (text before.replies)
  after_sending new result laid =
      lays-then contents old page new result (text before.replies) [] (text before.replies)
      (sym (append-nil (text before.replies))) before.laid laid

  -- If what waits was written and no command is left, the text of all replies was written.
  pub replied_all : (new : Page W) (result : Result (Unit {0}) Fault) → waiting_text old ≡ []
      → length commands ≤ at → Lays contents page new result []
      → OnOk result (waiting_text new ≡ [])
      → OnOk result (Replies commands (sent_bytes contents old) (sent_bytes contents new))
  replied_all new (Ok done) begun end laid empty = record {
    replies = before.replies;
    replied = subst (λ cs. AreNumberReplies cs before.replies) (take_all at commands end)
        before.run.replied;
    written = lays-all contents old new (text before.replies) begun empty
        (after_sending new (Ok tt) laid);
  }
  replied_all new (Err fault) begun end laid empty = tt

  module _ (begun : waiting_text old ≡ []) (replies : List (Content ℤ))
      (all : AreNumberReplies commands replies) where
    -- The replies so far are the first of all replies.
    are_first : before.replies ≡ take at replies
    are_first = first_replies commands at before.replies replies before.run.replied all

    -- If one more command runs and its reply is cut short, so is the text of all replies.
    pub replied_short : (command : Command ℤ) (reply : Content ℤ) (next : List (List Interval))
        (new : Page W) (fault : Fault) → at < length commands
        → command ≡ get_or commands at command
        → IsReply (signed_rank w32) (2 ^ 32) (sets_of kept) command reply
        → sets_of next ≡ sets_after (signed_rank w32) (2 ^ 32) (sets_of kept) command
        → Lays contents page new (Err fault) (line_text reply)
        → AppendsShortOf (sent_bytes contents old) (sent_bytes contents new) (text replies)
    replied_short command reply next new fault within here is leaves laid =
        let more = before.replies ++ reply ∷ [] in
        let run = has_run_more (signed_rank w32) (2 ^ 32) commands at command before.replies _
        reply kept next before.run within here refl is leaves in
        let first = first_replies commands (at + 1) more replies run.replied all in
        let cut = lays-then contents old page new (Err fault) (text before.replies)
        (line_text reply) (text more) (text-push before.replies reply) before.laid laid in
        short_of_all (sent_bytes contents old) (sent_bytes contents new) (at + 1) replies
        (subst (λ found. AppendsShortOf (sent_bytes contents old) (sent_bytes contents new)
        (text found)) first
        (lays-short contents old new fault (text more) begun cut))

    -- If allocation fails in the next command and what waits is written, the replies before it are
    -- written.
    pub replied_front : (command : Command ℤ) (new : Page W) → at < length commands
        → command ≡ get_or commands at command → MayTakeMemory command
        → Lays contents page new (Ok tt) [] → waiting_text new ≡ []
        → StopsForMemory commands replies (sent_bytes contents old) (sent_bytes contents new)
    replied_front command new within here may laid empty =
        let next : slice_get commands at ≡ Some command =
        slice_get_read commands (length commands) at command refl within here in record {
          at = at;
          took_memory = inr (subst (λ found. IsSomeAnd found MayTakeMemory) (sym next) may);
          written = subst
              (λ found. Appends (sent_bytes contents old) (sent_bytes contents new) (text found))
              are_first
              (lays-all contents old new (text before.replies) begun empty
              (after_sending new (Ok tt) laid));
        }

    -- If not all that waits was written, less than the text of all replies was.
    pub replied_part : (new : Page W) (fault : Fault) → Lays contents page new (Err fault) []
        → AppendsShortOf (sent_bytes contents old) (sent_bytes contents new) (text replies)
    replied_part new fault laid =
        short_of_all (sent_bytes contents old) (sent_bytes contents new) at replies
        (subst (λ found. AppendsShortOf (sent_bytes contents old) (sent_bytes contents new)
        (text found))
        are_first (lays-short contents old new fault (text before.replies) begun
        (after_sending new (Err fault) laid)))

-- If allocation fails before the first command, nothing is written.
pub replied_none : (commands : List (Command ℤ)) (replies : List (Content ℤ))
    (known : Option (List ℕ)) → StopsForMemory commands replies known known
replied_none commands replies known =
    record { at = 0; took_memory = inl refl; written = Appends-nothing known }

-- ---- texts of which nothing was written

-- If nothing of a text was written, the text was cut short, or it is empty.
cut_at_once : (known : Option (List ℕ)) (all : List ℕ) → CutsShort known known all
cut_at_once known [] = inr (refl, Keeps-itself known)
cut_at_once known (byte ∷ bytes) = inl (record {
  front = [];
  is_prefix = record { rest = byte ∷ bytes; parts = refl };
  shorter = omega arith;
  written = Appends-nothing known;
})

-- If nothing was written, less than the text of the replies was written, or that text is empty.
pub cut_before_all : (known written : Option (List ℕ)) → WrotePartOfReplies known written written
cut_before_all None written = tt
cut_before_all (Some input) written =
    λ commands replies spelled all. cut_at_once written (text replies)
