-- Commands that name values have replies.
use Rattle.std.proofs.Common.{◌≡◌, ℕ, zero, suc, Bool, true, false, ◌+◌, ◌&&◌, ◌<◌, ◌↔◌, IsTrue, IsFalse, not, List, [], ◌∷◌, length, map, refl, sym, ap, subst, inl, inr, arith}
use Rattle.std.proofs.lemmas.Bool.{cases_lt}
use Rattle.std.proofs.lemmas.List.Elements.{All-head, All-tail}
use Rattle.std.specs.Prelude.{All}
use Rattle.std.specs.declared.ops.RangeInclusive.{RangeInclusive}
use Rattle.rsb_integer.specs.Rank.{intervals_of}
use Rattle.rsb_integer.specs.Runs.{Interval, AreRuns, IsMaximalRun, covers, from_to}
use Rattle.rsb_integer.specs.Selection.{Selection, complement, count, difference, intersection, symmetric_difference, union, LacksSome, complement_in}
use Rattle.rsb_integer.proofs.lemmas.List.{true_or_false}
use Rattle.rsb_integer.proofs.lemmas.Maximal.{maximal-around}
use Rattle.rsb_integer.proofs.lemmas.Members.{covers-bounds}
use Rattle.range_set_blaze.specs.laws.Stream.{runs-exist}
use Rattle.range_set_blaze.specs.Order.{order as order_of}
use Rattle.range_set_blaze.specs.laws.Order.{order-holds}
use Rattle.range_set_blaze.specs.Set.{IsRunAround}
use Rattle.rsb_command_parser.specs.declared.command.Command.{Command}
use Rattle.rsb_command_parser.specs.declared.command.Command.TheVariants.{Add, Del, Has, Gap, Count, Show, Union, Intersection, Difference, SymmetricDifference, Complement, Most, Compare}
use Rattle.rsb_commands.specs.Interpreter.{Content, flag, number, order, piece, ranges, runs, Sets, most_of, sets_after, whichever, AreRepliesFrom, IsPieceReply, IsReply, IsRunsReply, NamesValues}

-- ---- whether a set lacks some ranks

-- The answer to the question whether the fact holds.
record Answered (Fact : Type 0) : Type 0 where
  answer : Bool
  is : IsTrue answer ↔ Fact

-- Whether the set lacks some of the wanted ranks below m.
abbrev LacksBelow : Selection → Selection → ℕ → Type 0
LacksBelow set wanted m = (rank : ℕ) × (rank < m) × IsTrue (wanted rank) × IsFalse (set rank)

-- If `a && not b` is true, `a` is true and `b` is false.
both-pass : (a b : Bool) → (a && not b) ≡ true → (a ≡ true) × (b ≡ false)
both-pass true true both = absurd cc
both-pass true false both = (refl, refl)
both-pass false b both = absurd cc

-- The answer to the question whether the set lacks some of the wanted ranks below m.
lacks_below : (set wanted : Selection) (m : ℕ) → Answered (LacksBelow set wanted m)
lacks_below set wanted zero =
    record { answer = false; is = ((λ yes. absurd cc), (λ lacks. absurd (omega (arith, lacks.1)))) }
lacks_below set wanted (suc m) = elim (true_or_false (wanted m && not (set m))) [
  | inl here ↦
      let both = both-pass (wanted m) (set m) here in
      record {
        answer = true;
        is = ((λ yes. (m, omega arith, both.0, both.1)), (λ lacks. refl));
      }
  | inr has ↦
      let below = lacks_below set wanted m in
      record {
        answer = below.answer;
        is = (
          (λ yes.
              let found = below.is.0 yes in
              (found.0, omega (arith, found.1), found.2, found.3)),
          (λ lacks. below.is.1 (within m has lacks)),
        );
      }
]
  where
    -- If a wanted rank below `m + 1` is lacking, but not `m`, one below `m` is lacking.
    within : (m : ℕ) → (wanted m && not (set m)) ≡ false → LacksBelow set wanted (suc m)
        → LacksBelow set wanted m
    within m has lacks = elim (cases_lt lacks.0 m) [
      | inl less ↦ (lacks.0, less, lacks.2, lacks.3)
      | inr most ↦
          let at : lacks.0 ≡ m = omega (arith, lacks.1, most) in
          absurd cc
    ]

module _ {T : Type 0} (rank : T → ℕ) (n : ℕ) (value_at : ℕ → T)
    (ranks : (place : ℕ) → place < n → rank (value_at place) ≡ place) where
  -- ---- values at the ends of runs

  -- The values at the ends of a maximal run have the ranks of its ends.
  ends_at : (set : Selection) (run : Interval) → IsMaximalRun n set run
      → from_to (rank (value_at run.first)) (rank (value_at run.last)) ≡ run
  ends_at set run maximal =
      let ordered = maximal.in_order in
      let below = maximal.in_type in
      let first = ranks run.first (omega (arith, ordered, below)) in
      let last = ranks run.last below in
      λ i. record { first = first i; last = last i }

  -- The range of values of an interval.
  abbrev range_of : Interval → RangeInclusive T
  range_of run = record {
    start = value_at run.first;
    end = value_at run.last;
    exhausted = false;
  }

  -- The intervals of the ranges of maximal runs are those runs.
  intervals_at : (set : Selection) (all : List Interval) → All (IsMaximalRun n set) all
      → intervals_of rank (map range_of all) ≡ all
  intervals_at set [] maximal = refl
  intervals_at set (run ∷ others) maximal =
      let first = ends_at set run (All-head (IsMaximalRun n set) run others maximal) in
      let rest = intervals_at set others (All-tail (IsMaximalRun n set) run others maximal) in
      λ i. first i ∷ rest i

  -- ---- a reply of each kind

  -- Every set has a list of ranges to reply with.
  ranges_exist : (set : Selection)
      → (all : List (RangeInclusive T)) × AreRuns n set (intervals_of rank all)
  ranges_exist set =
      let found = runs-exist n set in (
        map range_of found.0,
        subst (AreRuns n set) (sym (intervals_at set found.0 found.1.maximal)) found.1,
      )

  -- Every set has a reply that gives the number of its runs.
  many_exist : (set : Selection) → (reply : Content T) × IsRunsReply rank n set reply
  many_exist set =
      let found = runs-exist n set in
      (runs (length found.0), record { all = found.0; are = found.1; counted = refl })

  -- Every rank of the type has a reply that gives the run or the gap that it lies in.
  piece_exists : (set : Selection) (at : ℕ) → at < n
      → (reply : Content T) × IsPieceReply rank n set at reply
  piece_exists set at below =
      let selected = whichever (set at) set (complement set) in
      let found = maximal-around n selected at below (is_here (set at) refl) in
      let run = found.0 in
      let around : IsRunAround n selected at run =
      record { maximal = found.1; around = found.2 } in (
        piece (value_at run.first) (value_at run.last) (set at),
        record {
          found = refl;
          around = subst (IsRunAround n selected at) (sym (ends_at selected run found.1)) around;
        },
      )
    where
      -- The set has the rank, or else its complement does.
      is_here : (present : Bool) → set at ≡ present → whichever present set (complement set) at
          ≡ true
      is_here true has = has
      is_here false lacks = ap not lacks

  -- There is a flag that says whether a set lacks some of the ranks from one value to another.
  flag_exists : (set : Selection) (first last : T)
      → Answered (LacksSome set (covers (from_to (rank first) (rank last))))
  flag_exists set first last =
      let wanted = covers (from_to (rank first) (rank last)) in
      let found = lacks_below set wanted (rank last + 1) in
      record {
        answer = found.answer;
        is = (
          (λ yes. let some = found.is.0 yes in (some.0, some.2, some.3)),
          (λ lacks.
              let bounds = covers-bounds (from_to (rank first) (rank last)) lacks.0 lacks.1 in
              found.is.1 (lacks.0, omega (arith, bounds.1), lacks.1, lacks.2)),
        );
      }

  -- ---- a command, and commands

  -- A command that names values has a reply.
  reply_exists : (sets : Sets) (command : Command T) → NamesValues rank n command
      → (reply : Content T) × IsReply rank n sets command reply
  reply_exists sets (Add slot first last) values =
      let found = flag_exists (sets slot) first last in (flag found.answer, found.is)
  reply_exists sets (Del slot value) values = (flag (sets slot (rank value)), refl)
  reply_exists sets (Has slot value) values = (flag (sets slot (rank value)), refl)
  reply_exists sets (Gap slot value) values = piece_exists (sets slot) (rank value) values
  reply_exists sets (Count slot) values = (number (count n (sets slot)), refl)
  reply_exists sets (Show slot) values =
      let found = ranges_exist (sets slot) in (ranges found.0, found.1)
  reply_exists sets (Union target left right) values = many_exist (union (sets left) (sets right))
  reply_exists sets (Intersection target left right) values =
      many_exist (intersection (sets left) (sets right))
  reply_exists sets (Difference target left right) values =
      many_exist (difference (sets left) (sets right))
  reply_exists sets (SymmetricDifference target left right) values =
      many_exist (symmetric_difference (sets left) (sets right))
  reply_exists sets (Complement target source) values = many_exist (complement_in n (sets source))
  reply_exists sets (Most target a b c) values =
      many_exist (most_of (sets a) (sets b) (sets c))
  reply_exists sets (Compare left right) values =
      (order (order_of n (sets left) (sets right)), order-holds n (sets left) (sets right))

  -- Commands that name values have replies.
  pub replies_exist : (sets : Sets) (commands : List (Command T))
      → All (NamesValues rank n) commands
      → (replies : List (Content T)) × AreRepliesFrom rank n sets commands replies
  replies_exist sets [] values = ([], tt)
  replies_exist sets (command ∷ commands) values =
      let P = NamesValues rank n in
      let first = reply_exists sets command (All-head P command commands values) in
      let rest = replies_exist (sets_after rank n sets command) commands
      (All-tail P command commands values) in
      (first.0 ∷ rest.0, (first.1, rest.1))
