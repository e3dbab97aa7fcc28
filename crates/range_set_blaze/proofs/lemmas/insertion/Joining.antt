-- A run joined with the runs that it touches.
use Rattle.std.proofs.Common.{◌≡◌, ◌↔◌, ℕ, Bool, true, false, ◌||◌, ◌+◌, ◌-◌, ◌<◌, ◌≤◌, min, max, List, refl, sym, ap, ◌∙◌, inl, inr, arith, subst, Option, Some, None, IfSome, IsFalse, IsTrue, MatchOption}
use Rattle.std.specs.List.{Contains}
use Rattle.std.proofs.lemmas.Bool.{cases_lt}
use Rattle.std.proofs.lemmas.Bool.Decides.{nat_tests}
use Rattle.rsb_integer.specs.Selection.{LacksSome}
use Rattle.rsb_integer.specs.Runs.{Interval, covers, members, IsCanonicalIn}
use Rattle.rsb_integer.proofs.lemmas.List.{not_both}
use Rattle.rsb_integer.proofs.lemmas.Members.{covers-bounds, covers-inside, members-end}
use Rattle.rsb_storage.specs.Set.{Adds}
use Rattle.range_set_blaze.specs.Joining.{IsHull, IsInside, IsJoining, IsReaching, IsUnreached, KnowsInside, NoneInside}
use Rattle.rsb_storage.specs.Storage.{run_of}
use Rattle.rsb_storage.specs.Starts.{IsLastBelow, IsLastTwo, NoneBelow}
use Rattle.rsb_storage.specs.declared.run.Run.{Run}
use Rattle.rsb_storage.proofs.lemmas.runs.Apart.{contained-after, contained-before, contained-maximal, contained-members, contained-starts, last-gap, none-gap}
use Rattle.rsb_storage.proofs.lemmas.runs.Storage.{le-fails}

module _ {T : Type 0} (rank : T → ℕ) (n : ℕ) (runs : List Interval)
    (canonical : IsCanonicalIn n runs) where
  -- ---- the joined run

  module _ (run joined : Run T) (order : rank run.start ≤ rank run.end) (value : rank run.end < n)
      (bound : ℕ) (bound_is : bound ≡ min (rank run.end + 1) (n - 1) + 1) where
    -- The joined run begins with the run that contains or touches the start, or otherwise with the
    -- new run.
    pub joined-begins : (first : Option (Run T))
        → MatchOption first (IsUnreached runs (rank run.start))
        (λ first. IsReaching runs (rank run.start) (run_of rank first))
        → MatchOption first (joined.start ≡ run.start) (λ first. joined.start ≡ first.start)
        → (rank joined.start ≤ rank run.start)
        × ((point : ℕ) → point + 1 ≡ rank joined.start → members runs point ≡ false)
        × ((point : ℕ) → rank joined.start ≤ point → point < rank run.start
        → members runs point ≡ true)
    joined-begins None reached is =
        let same = ap rank is in (
          omega (arith, same),
          (λ point before. reached point (omega (arith, before, same)) (omega (arith, before, same))),
          (λ point from to. absurd (omega (arith, from, to, same))),
        )
    joined-begins (Some first) reached is =
        let same = ap rank is in (
          omega (arith, same, reached.starts),
          (λ point before. contained-before n runs canonical (run_of rank first) point reached.among
              (before ∙ same)),
          (λ point from to. contained-members n runs canonical (run_of rank first) point
              reached.among (omega (arith, from, same)) (omega (arith, to, reached.reaches))),
        )

    -- It ends with the new run or with the last run that the new one touches, whichever ends later.
    pub joined-ends : (last before : Option (Run T))
        → IsLastTwo rank runs bound last before
        → MatchOption last (joined.end ≡ run.end)
        (λ last. rank joined.end ≡ max (rank run.end) (rank last.end))
        → (rank run.end ≤ rank joined.end) × (rank joined.end < n)
        × (members runs (rank joined.end + 1) ≡ false)
        × ((point : ℕ) → rank run.end < point → point ≤ rank joined.end
        → members runs point ≡ true)
    joined-ends None before none is =
        let same = ap rank is in (
          omega (arith, same),
          omega (arith, same, value),
          elim (cases_lt (rank joined.end + 1) n) [
            | inl within ↦
                none-gap n runs canonical bound none
                (rank joined.end + 1) (omega (arith, bound_is, same, within))
            | inr past ↦ members-end n runs (rank joined.end + 1) canonical.within past
          ],
          (λ point from to. absurd (omega (arith, from, to, same))),
        )
    joined-ends (Some last) before two is =
        let found = two.0 in
        let starts = found.starts in
        let maximal = contained-maximal n runs canonical (run_of rank last) found.among in
        let within = maximal.in_type in
        elim (cases_lt (rank run.end) (rank last.end)) [
          | inl more ↦
              let same : rank joined.end ≡ rank last.end = omega (arith, is, more) in (
                omega (arith, same, more),
                omega (arith, same, within),
                contained-after n runs canonical (run_of rank last) (rank joined.end + 1) found.among
                    (omega (arith, same)),
                (λ point from to. contained-members n runs canonical (run_of rank last) point
                    found.among (omega (arith, bound_is, from, starts)) (omega (arith, bound_is, to, same))),
              )
          | inr less ↦
              let same : rank joined.end ≡ rank run.end = omega (arith, is, less) in (
                omega (arith, same),
                omega (arith, same, value),
                elim (cases_lt (rank joined.end + 1) n) [
                  | inl in_type ↦
                      last-gap n runs canonical bound
                      (run_of rank last) found (rank joined.end + 1) (omega (arith, same, less))
                      (omega (arith, bound_is, same, in_type))
                  | inr past ↦ members-end n runs (rank joined.end + 1) canonical.within past
                ],
                (λ point from to. absurd (omega (arith, from, to, same))),
              )
        ]

    -- If the first run ends no earlier than the new one, all ranks of the new run are members.
    pub reached-has : (first : Option (Run T))
        → MatchOption first (IsUnreached runs (rank run.start))
        (λ first. IsReaching runs (rank run.start) (run_of rank first))
        → (test : Bool) → MatchOption first (IsFalse test)
        (λ first. IsTrue test ↔ (rank run.end ≤ rank first.end)) → test ≡ true
        → (point : ℕ) → covers (run_of rank run) point ≡ true → members runs point ≡ true
    reached-has None reached test tells is = absurd (not_both test is tells)
    reached-has (Some first) reached test tells is = λ point here.
        let bounds = covers-bounds (run_of rank run) point here in
        let ends = tells.0 is in
        contained-members n runs canonical (run_of rank first) point reached.among
        (omega (arith, reached.starts, bounds.0)) (omega (arith, ends, bounds.1))

    -- Otherwise some rank of the new run is not a member.
    pub reached-lacks : (first : Option (Run T))
        → MatchOption first (IsUnreached runs (rank run.start))
        (λ first. IsReaching runs (rank run.start) (run_of rank first))
        → (test : Bool) → MatchOption first (IsFalse test)
        (λ first. IsTrue test ↔ (rank run.end ≤ rank first.end)) → test ≡ false
        → IfSome first (λ first. rank first.end < rank run.end)
        × LacksSome (members runs) (covers (run_of rank run))
    reached-lacks None reached test tells is = (
      tt,
      (
        rank run.start,
        covers-inside (run_of rank run) (rank run.start) (omega arith) order,
        reached (rank run.start) (omega arith) (omega arith),
      ),
    )
    reached-lacks (Some first) reached test tells is =
        let short = le-fails test (rank run.end) (rank first.end) tells is in (
          short,
          (
            rank first.end + 1,
            covers-inside (run_of rank run) (rank first.end + 1) reached.reaches
                (omega (arith, short)),
            contained-after n runs canonical (run_of rank first) (rank first.end + 1) reached.among
                refl,
          ),
        )

    module _ (first last before : Option (Run T))
        (reached : MatchOption first (IsUnreached runs (rank run.start))
        (λ first. IsReaching runs (rank run.start) (run_of rank first)))
        (starts : MatchOption first (joined.start ≡ run.start) (λ first. joined.start ≡ first.start))
        (two : IsLastTwo rank runs bound last before)
        (ends : MatchOption last (joined.end ≡ run.end)
        (λ last. rank joined.end ≡ max (rank run.end) (rank last.end))) where
      -- The joined run is the hull of the new run and the runs that it touches.
      pub joined-hull : IsHull runs (run_of rank run) (run_of rank joined)
      joined-hull =
          let from = joined-begins first reached starts in
          let to = joined-ends last before two ends in
          record {
            first = from.0;
            last = to.0;
            has = λ point here.
                let bounds = covers-bounds (run_of rank joined) point here in
                elim (cases_lt point (rank run.start)) [
                  | inl less ↦ rw (from.2 point bounds.0 less) refl
                  | inr reaches ↦ elim (cases_lt (rank run.end) point) [
                    | inl more ↦ rw (to.3 point more bounds.1) refl
                    | inr within ↦
                        let own = covers-inside (run_of rank run) point reaches within in
                        grind (arith, own)
                  ]
                ];
            begins = from.1;
            ends = to.2;
          }

      -- A run that starts inside the joined one starts below the bound.
      inside-bound : (other : Interval) → IsInside runs (run_of rank joined) other
          → other.first < bound
      inside-bound other inside = by last two ends
        where
          by : (last : Option (Run T))
              → IsLastTwo rank runs bound last before
              → MatchOption last (joined.end ≡ run.end)
              (λ last. rank joined.end ≡ max (rank run.end) (rank last.end))
              → other.first < bound
          by None none is =
              let same = ap rank is in omega (arith, bound_is, same, inside.within, value)
          by (Some last) two is =
              let below = two.0.starts in
              let own = (contained-maximal n runs canonical other inside.among).in_order in
              elim (cases_lt (rank run.end) other.first) [
                | inl more ↦ elim (cases_lt other.first (rank last.start)) [
                  | inl less ↦ omega (arith, bound_is, below, less)
                  | inr after ↦
                      let start = contained-starts n runs canonical other (run_of rank last) other.first
                      inside.among two.0.among (covers-inside other other.first (omega arith) own)
                      (covers-inside (run_of rank last) other.first after
                      (omega (arith, bound_is, is, more, inside.within))) in
                      omega (arith, bound_is, below, start)
                ]
                | inr less ↦ omega (arith, bound_is, less, value)
              ]

      -- If the run before the last does not start inside it, at most the last does.
      inside-only : (last : Run T) (before : Option (Run T))
          → IsLastTwo rank runs bound (Some last) before
          → IfSome before (λ run. rank run.start ≤ rank joined.start)
          → (other : Interval) → IsInside runs (run_of rank joined) other
          → other.first ≡ rank last.start
      inside-only last before two below other inside =
          let up = two.0.last other inside.among (inside-bound other inside) in
          elim (cases_lt other.first (rank last.start)) [
            | inl less ↦ absurd (by before two.1 below less)
            | inr from ↦ omega (arith, up, from)
          ]
        where
          by : (before : Option (Run T)) → MatchOption before (NoneBelow runs (rank last.start))
              (λ earlier. IsLastBelow runs (rank last.start) (run_of rank earlier))
              → IfSome before (λ run. rank run.start ≤ rank joined.start)
              → other.first < rank last.start → ⊥
          by None none below less = none other inside.among less
          by (Some earlier) found below less =
              let down = found.last other inside.among less in
              omega (arith, down, below, inside.later)

      -- If the last run does not start inside it, no run does.
      inside-none : (last : Option (Run T))
          → IsLastTwo rank runs bound last before
          → IfSome last (λ run. rank run.start ≤ rank joined.start)
          → NoneInside runs (run_of rank joined)
      inside-none None none below other inside =
          none other inside.among (inside-bound other inside)
      inside-none (Some last) two below other inside =
          let up = two.0.last other inside.among (inside-bound other inside) in
          omega (arith, up, below, inside.later)

      -- If it is known which of the last two runs start past its start, `KnowsInside` holds of
      -- these.
      pub joined-inside : (later earlier : Option (Run T))
          → MatchOption later (IfSome last (λ run. rank run.start ≤ rank joined.start))
          (λ later. (last ≡ Some later) × (rank joined.start < rank later.start))
          → MatchOption earlier (IfSome before (λ run. rank run.start ≤ rank joined.start))
          (λ earlier. (before ≡ Some earlier) × (rank joined.start < rank earlier.start))
          → KnowsInside rank runs (run_of rank joined) later earlier
      joined-inside None earlier is also = inside-none last two is
      joined-inside (Some later) earlier is also = (
        record {
          among = last_two.0.among;
          later = is.1;
          within = within;
        },
        by earlier also,
      )
        where
          -- The last two runs that start below the bound.
          last_two : IsLastTwo rank runs bound (Some later) before
          last_two = subst (λ (last : Option (Run T)).
              IsLastTwo rank runs bound last before) is.0 two

          -- The last one starts inside the joined run.
          within : rank later.start ≤ rank joined.end
          within =
              let end : rank joined.end ≡ max (rank run.end) (rank later.end) =
              subst (λ (last : Option (Run T)). MatchOption last (joined.end ≡ run.end)
              (λ last. rank joined.end ≡ max (rank run.end) (rank last.end))) is.0 ends in
              let own = (contained-maximal n runs canonical (run_of rank later)
              last_two.0.among).in_order in
              omega (arith, end, own)

          by : (earlier : Option (Run T))
              → MatchOption earlier (IfSome before (λ run. rank run.start ≤ rank joined.start))
              (λ earlier. (before ≡ Some earlier) × (rank joined.start < rank earlier.start))
              → MatchOption earlier
              ((other : Interval) → IsInside runs (run_of rank joined) other
              → other.first ≡ rank later.start)
              (λ other. IsInside runs (run_of rank joined) (run_of rank other)
              × (rank other.start < rank later.start))
          by None also = inside-only later before last_two also
          by (Some earlier) also =
              let found = subst (λ (before : Option (Run T)). MatchOption before
              (NoneBelow runs (rank later.start))
              (λ other. IsLastBelow runs (rank later.start) (run_of rank other))) also.0 last_two.1 in
              let less = found.starts in (
                record {
                  among = found.among;
                  later = also.1;
                  within = omega (arith, less, within);
                },
                less,
              )

      -- If the first run ends before the new one, the joined run covers the runs that were found,
      -- and touches no others.
      pub joined-joining : (later earlier : Option (Run T))
          → MatchOption later (IfSome last (λ run. rank run.start ≤ rank joined.start))
          (λ later. (last ≡ Some later) × (rank joined.start < rank later.start))
          → MatchOption earlier (IfSome before (λ run. rank run.start ≤ rank joined.start))
          (λ earlier. (before ≡ Some earlier) × (rank joined.start < rank earlier.start))
          → IfSome first (λ first. rank first.end < rank run.end)
          → IsJoining rank n runs
          (record { joined = joined; first = first; last = later; before = earlier })
      joined-joining later earlier is also short =
          let from = joined-begins first reached starts in
          let to = joined-ends last before two ends in
          record {
            ordered = omega (arith, from.0, order, to.0);
            in_type = to.1;
            begins = from.1;
            ends = to.2;
            first = by first reached starts short;
            inside = joined-inside later earlier is also;
          }
        where
          by : (first : Option (Run T))
              → MatchOption first (IsUnreached runs (rank run.start))
              (λ first. IsReaching runs (rank run.start) (run_of rank first))
              → MatchOption first (joined.start ≡ run.start) (λ first. joined.start ≡ first.start)
              → IfSome first (λ first. rank first.end < rank run.end)
              → MatchOption first
              ((other : Interval) → Contains runs other → other.first ≡ rank joined.start → ⊥)
              (λ first. Contains runs (run_of rank first) × (rank first.start ≡ rank joined.start)
              × (rank first.end ≤ rank joined.end))
          by None unreached is short = λ other found same.
              let start = ap rank is in
              let own = (contained-maximal n runs canonical other found).in_order in
              not_both (members runs other.first)
              (contained-members n runs canonical other other.first found (omega arith) own)
              (unreached other.first (omega (arith, same, start)) (omega (arith, same, start)))
          by (Some first) reaching is short =
              let to = (joined-ends last before two ends).0 in (
                reaching.among,
                ap rank (sym is),
                omega (arith, short, to),
              )

-- Runs that gain the ranks of the joined run gain those of the new one and no others.
pub hull-adds : (old new : List Interval) (run joined : Interval) → IsHull old run joined
    → Adds old new (covers joined) → Adds old new (covers run)
hull-adds old new run joined hull adds rank =
    let has = hull.has rank in
    let first = hull.first in
    let last = hull.last in
    adds rank ∙ gains (members old rank) has first last
  where
    gains : (member : Bool) → (covers joined rank ≡ true → (member || covers run rank) ≡ true)
        → joined.first ≤ run.first → run.last ≤ joined.last
        → (member || covers joined rank) ≡ (member || covers run rank)
    gains member has first last = grind (arith, nat_tests)
