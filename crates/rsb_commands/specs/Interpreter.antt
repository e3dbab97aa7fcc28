-- What commands do to ten sets, and what they reply.
use Rattle.std.specs.Prelude.{◌≡◌, ◌↔◌, ◌==◌, ◌<◌, ⊤, ℕ, Bool, false, if◌then◌else◌, IsTrue, List, [], ◌∷◌, length, map, slice_index_or}
use Rattle.std.specs.declared.cmp.Ordering.{Ordering}
use Rattle.std.specs.declared.ops.RangeInclusive.{RangeInclusive}
use Rattle.rsb_integer.specs.Rank.{intervals_of}
use Rattle.rsb_integer.specs.Runs.{Interval, AreRuns, covers, members, from_to}
use Rattle.rsb_integer.specs.Selection.{Selection, at_least, complement, count, difference, intersection, symmetric_difference, union, complement_in, LacksSome}
use Rattle.range_set_blaze.specs.Order.{HasOrder}
use Rattle.range_set_blaze.specs.Set.{only, IsRunAround}
use Rattle.rsb_command_parser.specs.declared.command.Command.{Command}
use Rattle.rsb_command_parser.specs.declared.command.Command.TheVariants.{Add, Del, Has, Gap, Count, Show, Union, Intersection, Difference, SymmetricDifference, Complement, Most, Compare}
use Rattle.rsb_commands.specs.declared.interpreter.Reply.{Reply}
use Rattle.rsb_commands.specs.declared.interpreter.Reply.TheVariants as replies

-- ---- replies

-- What a reply says, without how it is stored.
pub data Content (T : Type 0) : Type 0 where
  flag : Bool → Content T
  piece : T → T → Bool → Content T
  number : ℕ → Content T
  ranges : List (RangeInclusive T) → Content T
  runs : ℕ → Content T
  order : Ordering → Content T

-- What a reply of the program says, with its length as a number.
abbrev pub content_of : {T A L : Type 0} → (L → ℕ) → Reply T A L → Content T
content_of number_of (replies.Flag is) = flag is
content_of number_of (replies.Piece first last present) = piece first last present
content_of number_of (replies.Count length) = number (number_of length)
content_of number_of (replies.Ranges all) = ranges all.items
content_of number_of (replies.Runs many) = runs many
content_of number_of (replies.Order is) = order is

-- What each reply of a list says.
abbrev pub contents_of : {T A L : Type 0} → (L → ℕ) → List (Reply T A L) → List (Content T)
contents_of number_of all = map (content_of number_of) all

-- ---- sets

-- The ten sets, by their slots.
abbrev pub Sets : Type 0
Sets = ℕ → Selection

-- The sets before the first command, which are all empty.
abbrev pub no_members : Sets
no_members slot rank = false

-- The sets of a list that stores each as its runs.
abbrev pub sets_of : List (List Interval) → Sets
sets_of kept slot = members (slice_index_or kept slot [])

-- The sets, with another set in a slot.
unfoldable pub put : Sets → ℕ → Selection → Sets
put sets slot set at = if at == slot then set else sets at

-- The one set if the flag is true, and otherwise the other.
abbrev pub whichever : Bool → Selection → Selection → Selection
whichever is set other rank = if is then set rank else other rank

-- The values in at least two of three sets. A set that is listed twice counts twice.
abbrev pub most_of : Selection → Selection → Selection → Selection
most_of a b c = at_least 2 (a ∷ b ∷ c ∷ [])

-- ---- commands

module _ {T : Type 0} (rank : T → ℕ) (value_count : ℕ) where
  -- Whether the values that the command names are values of the type.
  abbrev pub NamesValues : Command T → Type 0
  NamesValues (Add slot first last) = (rank first < value_count) × (rank last < value_count)
  NamesValues (Del slot value) = rank value < value_count
  NamesValues (Has slot value) = rank value < value_count
  NamesValues (Gap slot value) = rank value < value_count
  NamesValues _ = ⊤

  -- The sets after a command.
  abbrev pub sets_after : Sets → Command T → Sets
  sets_after sets (Add slot first last) =
      put sets slot (union (sets slot) (covers (from_to (rank first) (rank last))))
  sets_after sets (Del slot value) =
      put sets slot (difference (sets slot) (only (rank value)))
  sets_after sets (Union target left right) =
      put sets target (union (sets left) (sets right))
  sets_after sets (Intersection target left right) =
      put sets target (intersection (sets left) (sets right))
  sets_after sets (Difference target left right) =
      put sets target (difference (sets left) (sets right))
  sets_after sets (SymmetricDifference target left right) =
      put sets target (symmetric_difference (sets left) (sets right))
  sets_after sets (Complement target source) =
      put sets target (complement_in value_count (sets source))
  sets_after sets (Most target a b c) = put sets target (most_of (sets a) (sets b) (sets c))
  sets_after sets _ = sets

  -- Whether `first` and `last` are the ends of the run that contains the rank `at`, if `present` is
  -- true, and otherwise of the gap that contains it.
  pub record IsPieceAround (set : Selection) (at : ℕ) (first last : T) (present : Bool)
      : Type 0 where
    pub found : present ≡ set at
    pub around : IsRunAround value_count (whichever present set (complement set)) at
        (from_to (rank first) (rank last))

  -- Whether the reply gives the run or the gap that the rank lies in.
  abbrev pub IsPieceReply : Selection → ℕ → Content T → Type 0
  IsPieceReply set at (piece first last present) = IsPieceAround set at first last present
  IsPieceReply set at _ = ⊥

  -- Whether the set has `many` runs.
  pub record HasRuns (set : Selection) (many : ℕ) : Type 0 where
    pub all : List Interval
    pub are : AreRuns value_count set all
    pub counted : many ≡ length all

  -- Whether the reply gives the number of runs of the set.
  abbrev pub IsRunsReply : Selection → Content T → Type 0
  IsRunsReply set (runs many) = HasRuns set many
  IsRunsReply set _ = ⊥

  -- Whether a command on these sets has this reply.
  abbrev pub IsReply : Sets → Command T → Content T → Type 0
  IsReply sets (Add slot first last) (flag added) =
      IsTrue added ↔ LacksSome (sets slot) (covers (from_to (rank first) (rank last)))
  IsReply sets (Del slot value) (flag removed) = removed ≡ sets slot (rank value)
  IsReply sets (Has slot value) (flag found) = found ≡ sets slot (rank value)
  IsReply sets (Gap slot value) reply = IsPieceReply (sets slot) (rank value) reply
  IsReply sets (Count slot) (number many) = many ≡ count value_count (sets slot)
  IsReply sets (Show slot) (ranges all) = AreRuns value_count (sets slot) (intervals_of rank all)
  IsReply sets (Union target left right) reply = IsRunsReply (union (sets left) (sets right)) reply
  IsReply sets (Intersection target left right) reply =
      IsRunsReply (intersection (sets left) (sets right)) reply
  IsReply sets (Difference target left right) reply =
      IsRunsReply (difference (sets left) (sets right)) reply
  IsReply sets (SymmetricDifference target left right) reply =
      IsRunsReply (symmetric_difference (sets left) (sets right)) reply
  IsReply sets (Complement target source) reply =
      IsRunsReply (complement_in value_count (sets source)) reply
  IsReply sets (Most target a b c) reply = IsRunsReply (most_of (sets a) (sets b) (sets c)) reply
  IsReply sets (Compare left right) (order is) = HasOrder value_count (sets left) (sets right) is
  IsReply sets _ _ = ⊥

  -- Whether the commands have these replies, run one after the other on these sets.
  abbrev pub AreRepliesFrom : Sets → List (Command T) → List (Content T) → Type 0
  AreRepliesFrom sets [] [] = ⊤
  AreRepliesFrom sets (command ∷ commands) (reply ∷ replies) =
      IsReply sets command reply × AreRepliesFrom (sets_after sets command) commands replies
  AreRepliesFrom sets _ _ = ⊥

  -- Whether the commands have these replies on sets that are empty at first.
  abbrev pub AreReplies : List (Command T) → List (Content T) → Type 0
  AreReplies commands replies = AreRepliesFrom no_members commands replies

-- Whether the command may allocate.
abbrev pub MayTakeMemory : {T : Type 0} → Command T → Type 0
MayTakeMemory (Has slot value) = ⊥
MayTakeMemory (Gap slot value) = ⊥
MayTakeMemory (Count slot) = ⊥
MayTakeMemory (Compare left right) = ⊥
MayTakeMemory _ = ⊤
