-- How many runs lie in at least a given number of streams: at most as many as all streams give.
use Rattle.std.proofs.Common.{ℕ, ◌+◌, ◌<◌, ◌≤◌, List, [], ◌∷◌, length, refl, sym, subst, All, sum_by}
use Rattle.std.proofs.lemmas.List.Elements.{All-cons, All-nil, All-weaker}
use Rattle.rsb_integer.specs.Runs.{Interval, HasRanks}
use Rattle.rsb_integer.specs.Selection.{at_least}
use Rattle.rsb_integer.proofs.lemmas.RunCount.{runs-at_least, HaveRanks}
use Rattle.rsb_streams.specs.Stream.{◌⊆◌, just, Outcomes}
use Rattle.rsb_streams.specs.laws.Stream.{settled_le}
use Rattle.rsb_streams.specs.Touching.{IsTouchingFrom, IsTouchingIn}
use Rattle.rsb_many.specs.Many.{may_give_at, runs_by_all}
use Rattle.rsb_many.specs.MultiwayAtLeast.{GivesRunsOfAllAtMost}
use Rattle.rsb_many.proofs.lemmas.calling.Results.{these-given, GiveThese}
use Rattle.rsb_many.proofs.lemmas.events.ByDepth.{all-touching}

-- The ranges of a touching list are not empty.
have-ranks : (n low : ℕ) (runs : List Interval) → IsTouchingFrom low runs → All HasRanks runs
have-ranks n low [] touching = All-nil HasRanks
have-ranks n low (run ∷ runs) touching =
    All-cons HasRanks run runs touching.in_order (have-ranks n (run.last + 1) runs touching.rest)

-- If the lists of the streams are touching, at most as many runs are given as in all lists
-- together.
pub few-runs : {S : Type 0} (n least : ℕ) (may_give : S → Outcomes) (streams : List S)
    → ((place : ℕ) → may_give_at may_give streams place ⊆ IsTouchingIn n) → 0 < least
    → (given : Outcomes)
    → given ⊆ runs_by_all n (at_least least) (length streams) (may_give_at may_give streams)
    → GivesRunsOfAllAtMost least n may_give streams given
unfolding GivesRunsOfAllAtMost
few-runs n least may_give streams touching positive given gives runs may = λ nothing.
    gives runs may (λ lists each are.
    nothing lists each (
      are,
      runs-at_least n least lists runs positive
          (All-weaker (IsTouchingIn n) (HaveRanks n)
          (λ own lies. record { non_empty = have-ranks n 0 own lies.spaced; within = lies.within })
          lists
          (all-touching n (length streams) (may_give_at may_give streams) touching lists each)) are,
    ))

-- ---- streams that give known lists

-- If the streams give known lists, the result has at most as many runs as these lists together.
pub few-these : {S : Type 0} (n least : ℕ) (may_give : S → Outcomes) (streams : List S)
    (lists : List (List Interval)) (runs : List Interval) → GiveThese may_give streams lists
    → GivesRunsOfAllAtMost least n may_give streams (just runs)
    → length runs ≤ sum_by (λ (each : List Interval). length each) lists
unfolding GivesRunsOfAllAtMost
few-these n least may_give streams lists runs these gives =
    let together = λ (given : List (List Interval)). sum_by (λ (each : List Interval). length each) given in
    settled_le (length runs) (together lists) (λ fails. gives runs refl (λ given each all.
    fails (subst (λ those. length runs ≤ together those)
    (these-given may_give streams lists given these each) all.1)))

-- This bound on what is given holds for each list that is given.
pub few-one : {S : Type 0} (n least : ℕ) (may_give : S → Outcomes) (streams : List S)
    (given : Outcomes) → GivesRunsOfAllAtMost least n may_give streams given
    → (runs : List Interval) → given runs
    → GivesRunsOfAllAtMost least n may_give streams (just runs)
unfolding GivesRunsOfAllAtMost
few-one n least may_give streams given gives runs may others is =
    gives others (subst given (sym is) may)
