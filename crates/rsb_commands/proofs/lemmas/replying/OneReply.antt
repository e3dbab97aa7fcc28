-- Commands have at most one list of replies, and the first commands have the first replies.
use Rattle.std.proofs.Common.{◌≡◌, ◌∙◌, ◌↔◌, ℕ, zero, suc, Bool, true, false, ◌<◌, IsTrue, List, [], ◌∷◌, take, refl, sym, ap}
use Rattle.std.specs.declared.ops.RangeInclusive.{RangeInclusive}
use Rattle.rsb_integer.specs.Rank.{intervals_of}
use Rattle.rsb_integer.specs.Runs.{AreRuns}
use Rattle.rsb_integer.specs.Selection.{Selection, difference, intersection, symmetric_difference, union, complement_in}
use Rattle.rsb_integer.proofs.lemmas.Range.{same_ranges}
use Rattle.rsb_integer.proofs.lemmas.Runs.{runs-canonical, runs-same}
use Rattle.range_set_blaze.proofs.lemmas.order.OneOrder.{order-unique}
use Rattle.rsb_command_parser.specs.declared.command.Command.{Command}
use Rattle.rsb_command_parser.specs.declared.command.Command.TheVariants.{Add, Del, Has, Gap, Count, Show, Union, Intersection, Difference, SymmetricDifference, Complement, Most, Compare}
use Rattle.rsb_commands.specs.Interpreter.{Content, flag, number, order, piece, ranges, runs, Sets, most_of, sets_after, IsReply, AreRepliesFrom}
use Rattle.rsb_commands.proofs.lemmas.replying.OneRun.{one_many, one_piece}

-- Two flags that say whether the same fact holds are equal.
same_answer : (left right : Bool) (Fact : Type 0) → IsTrue left ↔ Fact → IsTrue right ↔ Fact
    → left ≡ right
same_answer true true Fact l r = refl
same_answer true false Fact l r = sym (r.1 (l.0 refl))
same_answer false true Fact l r = l.1 (r.0 refl)
same_answer false false Fact l r = refl

module _ {T : Type 0} (rank : T → ℕ) (value_count : ℕ)
    (one_place : (x y : T) → rank x < value_count → rank x ≡ rank y → x ≡ y) where
  -- A set has at most one list of ranges.
  one_ranges : (set : Selection) (left right : List (RangeInclusive T))
      → AreRuns value_count set (intervals_of rank left)
      → AreRuns value_count set (intervals_of rank right) → left ≡ right
  one_ranges set left right are also =
      let canonical = runs-canonical value_count set (intervals_of rank left) are in
      let same = runs-same value_count set set (intervals_of rank left) (intervals_of rank right)
      are also (λ at below. refl) in
      same_ranges rank value_count one_place 0 left right canonical.apart canonical.within same

  -- A command has at most one reply.
  one_reply : (sets : Sets) (command : Command T) (left right : Content T)
      → IsReply rank value_count sets command left → IsReply rank value_count sets command right
      → left ≡ right
  one_reply sets (Add slot first last) (flag l) (flag r) is also =
      ap flag (same_answer l r _ is also)
  one_reply sets (Del slot value) (flag l) (flag r) is also = ap flag (is ∙ sym also)
  one_reply sets (Has slot value) (flag l) (flag r) is also = ap flag (is ∙ sym also)
  one_reply sets (Gap slot value) (piece a b l) (piece c d r) is also =
      one_piece rank value_count one_place (sets slot) (rank value) a b c d l r is also
  one_reply sets (Count slot) (number l) (number r) is also = ap number (is ∙ sym also)
  one_reply sets (Show slot) (ranges l) (ranges r) is also =
      ap ranges (one_ranges (sets slot) l r is also)
  one_reply sets (Union target left right) (runs l) (runs r) is also =
      ap runs (one_many rank value_count one_place
      (union (sets left) (sets right)) l r is also)
  one_reply sets (Intersection target left right) (runs l) (runs r) is also =
      ap runs (one_many rank value_count one_place
      (intersection (sets left) (sets right)) l r is also)
  one_reply sets (Difference target left right) (runs l) (runs r) is also =
      ap runs (one_many rank value_count one_place
      (difference (sets left) (sets right)) l r is also)
  one_reply sets (SymmetricDifference target left right) (runs l) (runs r) is also =
      ap runs (one_many rank value_count one_place
      (symmetric_difference (sets left) (sets right)) l r is also)
  one_reply sets (Complement target source) (runs l) (runs r) is also =
      ap runs (one_many rank value_count one_place
      (complement_in value_count (sets source)) l r is also)
  one_reply sets (Most target a b c) (runs l) (runs r) is also =
      ap runs (one_many rank value_count one_place
      (most_of (sets a) (sets b) (sets c)) l r is also)
  one_reply sets (Compare left right) (order l) (order r) is also =
      ap order (order-unique value_count (sets left) (sets right) l r is also)
  one_reply sets (Add slot first last) (flag l) _ is also = absurd also
  one_reply sets (Del slot value) (flag l) _ is also = absurd also
  one_reply sets (Has slot value) (flag l) _ is also = absurd also
  one_reply sets (Gap slot value) (piece a b l) _ is also = absurd also
  one_reply sets (Count slot) (number l) _ is also = absurd also
  one_reply sets (Show slot) (ranges l) _ is also = absurd also
  one_reply sets (Union target left right) (runs l) _ is also = absurd also
  one_reply sets (Intersection target left right) (runs l) _ is also = absurd also
  one_reply sets (Difference target left right) (runs l) _ is also = absurd also
  one_reply sets (SymmetricDifference target left right) (runs l) _ is also = absurd also
  one_reply sets (Complement target source) (runs l) _ is also = absurd also
  one_reply sets (Most target a b c) (runs l) _ is also = absurd also
  one_reply sets (Compare left right) (order l) _ is also = absurd also
  one_reply sets _ _ _ is also = absurd is

  -- Commands have at most one list of replies.
  pub replies_unique : (sets : Sets) (commands : List (Command T)) (left right : List (Content T))
      → AreRepliesFrom rank value_count sets commands left
      → AreRepliesFrom rank value_count sets commands right → left ≡ right
  replies_unique sets [] [] [] are also = refl
  replies_unique sets [] [] (r ∷ rs) are also = absurd also
  replies_unique sets [] (l ∷ ls) right are also = absurd are
  replies_unique sets (c ∷ cs) [] right are also = absurd are
  replies_unique sets (c ∷ cs) (l ∷ ls) [] are also = absurd also
  replies_unique sets (c ∷ cs) (l ∷ ls) (r ∷ rs) are also =
      let first = one_reply sets c l r are.0 also.0 in
      let others = replies_unique (sets_after rank value_count sets c) cs ls rs are.1 also.1 in
      λ i. first i ∷ others i

-- The first commands have the first replies.
pub replies-take : {T : Type 0} (rank : T → ℕ) (value_count : ℕ) (sets : Sets) (n : ℕ)
    (commands : List (Command T)) (replies : List (Content T))
    → AreRepliesFrom rank value_count sets commands replies
    → AreRepliesFrom rank value_count sets (take n commands) (take n replies)
replies-take rank value_count sets zero commands replies are = tt
replies-take rank value_count sets (suc n) [] [] are = tt
replies-take rank value_count sets (suc n) [] (r ∷ rs) are = absurd are
replies-take rank value_count sets (suc n) (c ∷ cs) [] are = absurd are
replies-take rank value_count sets (suc n) (c ∷ cs) (r ∷ rs) are =
    (are.0, replies-take rank value_count (sets_after rank value_count sets c) n cs rs are.1)
