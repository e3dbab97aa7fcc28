-- Sets that are stored as their runs.
use Rattle.std.proofs.Common.{◌≡◌, ◌∙◌, ℕ, ◌+◌, ◌<◌, ◌==◌, zero, suc, Bool, true, false, ◌&&◌, ◌||◌, ◌↔◌, IsTrue, cond, leb, ltb, List, [], get_or, length, refl, sym, ap, arith}
use Rattle.std.specs.declared.ops.Bound.TheVariants.{Included}
use Rattle.std.proofs.Math.ListN.{replicate, set}
use Rattle.std.proofs.lemmas.Bool.{eqb-true, eqb-false}
use Rattle.std.proofs.lemmas.Bool.Decides.{nat_tests}
use Rattle.std.proofs.lemmas.List.{get_or-set_same, get_or-set_other}
use Rattle.rsb_integer.specs.Runs.{Interval, members, covers, from_to}
use Rattle.rsb_integer.specs.Selection.{Selection, union, LacksSome}
use Rattle.range_set_blaze.specs.Set.{Adds, ranks_between}
use Rattle.rsb_command_parser.specs.declared.command.Command.TheVariants.{Add}
use Rattle.rsb_commands.specs.Interpreter.{IsReply, flag, no_members, put, sets_after, sets_of}

-- ---- sets without runs

-- The empty list of runs.
abbrev no_runs : List Interval
no_runs = []

-- If no set of a list has runs, each slot has none.
empty_at : (n slot : ℕ) → get_or (replicate n no_runs) slot no_runs ≡ no_runs
empty_at zero slot = refl
empty_at (suc n) zero = refl
empty_at (suc n) (suc slot) = empty_at n slot

-- Sets without runs have no members.
pub sets_of-empty : (n : ℕ) → sets_of (replicate n []) ≡ no_members
sets_of-empty n = λ i slot rank. members (empty_at n slot i) rank

-- ---- one set put in the place of another

-- The slot has the new members, and each other slot has those that it had.
set_at : (kept : List (List Interval)) (slot at rank : ℕ) (runs : List Interval)
    (selected : Selection) → slot < length kept → ((at : ℕ) → members runs at ≡ selected at)
    → sets_of (set kept slot runs) at rank ≡ cond (at == slot) selected (sets_of kept at) rank
set_at kept slot at rank runs selected within same = go (at == slot) refl
  where
    -- The same, by whether `at` is that slot.
    go : (here : Bool) → (at == slot) ≡ here
        → members (get_or (set kept slot runs) at []) rank
        ≡ cond here selected (sets_of kept at) rank
    go true is =
        let this : at ≡ slot = eqb-true at slot is in
        ap (λ k. members (get_or (set kept slot runs) k []) rank) this
        ∙ ap (λ found. members found rank) (get_or-set_same kept slot runs [] within) ∙ same rank
    go false is =
        ap (λ found. members found rank)
        (get_or-set_other kept slot at runs [] (λ this. absurd (eqb-false at slot is this)))

-- Putting the runs of a set in a slot puts the set there.
pub sets_of-put : (kept : List (List Interval)) (slot : ℕ) (runs : List Interval)
    (selected : Selection) → slot < length kept → ((at : ℕ) → members runs at ≡ selected at)
    → sets_of (set kept slot runs) ≡ put (sets_of kept) slot selected
unfolding put
sets_of-put kept slot runs selected within same =
    λ i at rank. set_at kept slot at rank runs selected within same i

-- ---- one set with the ranks from one value to another added

module _ {T : Type 0} (rank : T → ℕ) (value_count : ℕ) (first last : T) where
  -- The ranks between the bounds of an inclusive range.
  abbrev pub within_bounds : Selection
  within_bounds = ranks_between rank value_count (Included first) (Included last)

  -- These are the ranks from `first` to `last`.
  same_between : (at : ℕ) → within_bounds at ≡ covers (from_to (rank first) (rank last)) at
  same_between at = ap (λ below. leb (rank first) at && below) (below_next at (rank last))
    where
      -- A number is less than `b + 1` if and only if it is at most `b`.
      below_next : (a b : ℕ) → ltb a (b + 1) ≡ leb a b
      below_next a b = grind (arith, nat_tests)

  -- If those ranks were added to one of the sets, the sets are those after the command.
  pub sets_after-added : (kept : List (List Interval)) (slot : ℕ) (old new : List Interval)
      → slot < length kept → old ≡ get_or kept slot [] → Adds old new within_bounds
      → sets_of (set kept slot new)
      ≡ sets_after rank value_count (sets_of kept) (Add slot first last)
  sets_after-added kept slot old new within is added =
      sets_of-put kept slot new
      (union (sets_of kept slot) (covers (from_to (rank first) (rank last)))) within
      (λ at. added at ∙ ap (λ runs. members runs at || within_bounds at) is
      ∙ ap (λ more. members (get_or kept slot []) at || more) (same_between at))

  -- A flag that says whether the set lacked one of those ranks is the reply to the command.
  pub reply-added : (kept : List (List Interval)) (slot : ℕ) (old : List Interval) (added : Bool)
      → old ≡ get_or kept slot [] → IsTrue added ↔ LacksSome (members old) within_bounds
      → IsReply rank value_count (sets_of kept) (Add slot first last) (flag added)
  reply-added kept slot old added is found = (
    (λ yes.
        let new = found.0 yes in
        let absent = ap (λ runs. members runs new.0) (sym is) ∙ new.2 in
        (new.0, sym (same_between new.0) ∙ new.1, absent)),
    (λ new.
        let absent = ap (λ runs. members runs new.0) is ∙ new.2 in
        found.1 (new.0, same_between new.0 ∙ new.1, absent)),
  )
