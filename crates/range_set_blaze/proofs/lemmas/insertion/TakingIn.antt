-- A run that is over others, which are removed one after the other.
use Rattle.std.proofs.Common.{◌≡◌, ℕ, not, ◌==◌, ◌||◌, ◌+◌, ◌-◌, ◌<◌, ◌≤◌, List, sym, ap, ◌∙◌, inl, inr, arith, subst, Option, Some, None, MatchOption}
use Rattle.std.specs.List.{Contains}
use Rattle.std.proofs.lemmas.Bool.{cases_lt}
use Rattle.std.proofs.lemmas.Bool.Decides.{nat_tests}
use Rattle.rsb_integer.specs.Runs.{Interval, covers, length_of, members}
use Rattle.rsb_integer.proofs.lemmas.Count.{count-within}
use Rattle.rsb_integer.proofs.lemmas.List.{true_or_false, not_both}
use Rattle.rsb_integer.proofs.lemmas.Members.{covers-bounds, covers-inside, members-in}
use Rattle.range_set_blaze.specs.Joining.{IsInside, IsOver, KnowsInside, NoneInside}
use Rattle.rsb_storage.specs.Storage.{run_of}
use Rattle.rsb_storage.specs.Starts.{with_run, without_start, LeavesApart, IsJoined}
use Rattle.rsb_storage.specs.declared.run.Run.{Run}
use Rattle.rsb_storage.proofs.lemmas.runs.Apart.{contained-maximal, contained-members, starting-lacks, with_run-joined, with_run-members, without_start-joined}
use Rattle.rsb_storage.proofs.lemmas.runs.Starts.{canonical-rises, starting-contains, starting-with_run, with_run-contains, Contains-starting, Contains-with_run}

module _ (n : ℕ) (now : List Interval) (joined : Interval) (others : ℕ)
    (over : IsOver n now joined others) where
  -- The members are those of the others and the ranks of the joined run.
  pub over-members : (rank : ℕ) → members now rank ≡ (members over.rest rank || covers joined rank)
  over-members rank =
      rw over.parts
      (with_run-members n 0 joined over.rest rank
      (canonical-rises n 0 over.rest over.canonical.apart over.canonical.within) over.elsewhere)

  -- A run that starts inside the joined one is one of the others.
  pub inside-rest : (run : Interval) → IsInside now joined run → Contains over.rest run
  inside-rest run inside =
      elim (with_run-contains joined over.rest run
      (subst (λ (items : List Interval). Contains items run) over.parts inside.among)) [
        | inl same ↦
            let later = subst (λ (each : Interval). joined.first < each.first) (sym same) inside.later
            in absurd (omega (arith, later))
        | inr found ↦ found.0
      ]

  -- Such a run ends inside it too.
  pub inside-ends : (run : Interval) → IsInside now joined run → run.last ≤ joined.last
  inside-ends run inside = elim (cases_lt joined.last run.last) [
    | inl more ↦ absurd (not_both (members over.rest (joined.last + 1))
        (contained-members n over.rest over.canonical run (joined.last + 1) (inside-rest run inside)
        (omega (arith, inside.within)) (omega (arith, more))) over.ends)
    | inr ends ↦ ends
  ]

  -- Without such a run, the others differ only by it.
  pub inside-joined : (run : Interval) → IsInside now joined run
      → IsJoined n (without_start run.first over.rest) run over.rest
  inside-joined run inside =
      without_start-joined n over.rest over.canonical run (inside-rest run inside)

  -- Such a run is non-empty, and its members are among those that are counted.
  pub inside-some : (run : Interval) → IsInside now joined run → run.first ≤ run.last
  inside-some run inside =
      (contained-maximal n over.rest over.canonical run (inside-rest run inside)).in_order

  pub inside-counted : (run : Interval) → IsInside now joined run → length_of run ≤ others
  inside-counted run inside =
      let number = (inside-joined run inside).counted in omega (arith, number, over.counted)

  -- The others have at most n members.
  pub over-within : others ≤ n
  over-within = let within = count-within n (members over.rest) in omega (arith, within, over.counted)

  -- Without such a run, the joined run is still at its place among the others.
  without-parts : (run : Interval) → IsInside now joined run
      → without_start run.first now ≡ with_run joined (without_start run.first over.rest)
  without-parts run inside =
      let later = inside.later in
      ap (without_start run.first) over.parts
      ∙ starting-with_run (λ start. not (start == run.first)) joined over.rest
      (grind (arith, nat_tests, later))

  -- The joined run is still over the others.
  pub over-without : (run : Interval) → IsInside now joined run → (fewer : ℕ)
      → fewer + length_of run ≡ others → IsOver n (without_start run.first now) joined fewer
  over-without run inside fewer counted =
      let lacks = starting-lacks (λ start. not (start == run.first)) over.rest in
      let joins = inside-joined run inside in
      let number = joins.counted in
      record {
        rest = without_start run.first over.rest;
        parts = without-parts run inside;
        canonical = joins.fewer_canonical;
        elsewhere = λ other found. over.elsewhere other
            (starting-contains (λ start. not (start == run.first)) over.rest other found).0;
        ordered = over.ordered;
        in_type = over.in_type;
        begins = λ rank before. lacks rank (over.begins rank before);
        ends = lacks (joined.last + 1) over.ends;
        counted = omega (arith, counted, number, over.counted);
      }

  -- Removing such a run does not change the members.
  pub without-members : (run : Interval) → IsInside now joined run → (rank : ℕ)
      → members (without_start run.first now) rank ≡ members now rank
  without-members run inside rank =
      let joins = inside-joined run inside in
      let has = joins.has rank in
      let all = over-members rank in
      let some = ap (λ (items : List Interval). members items rank) (without-parts run inside)
      ∙ with_run-members n 0 joined (without_start run.first over.rest) rank
      (canonical-rises n 0 (without_start run.first over.rest) joins.fewer_canonical.apart
      joins.fewer_canonical.within)
      (λ other found. over.elsewhere other
      (starting-contains (λ start. not (start == run.first)) over.rest other found).0) in
      elim (true_or_false (covers run rank)) [
        | inl here ↦
            let bounds = covers-bounds run rank here in
            let ends = inside-ends run inside in
            let there = covers-inside joined rank (omega (arith, inside.later, bounds.0))
            (omega (arith, ends, bounds.1)) in
            grind (arith, some, all, there)
        | inr lacks ↦ grind (arith, some, all, has, lacks)
      ]

  -- If no run starts inside the joined one, it touches no other.
  pub over-joined : NoneInside now joined → IsJoined n over.rest joined now
  over-joined none =
      subst (IsJoined n over.rest joined) (sym over.parts)
      (with_run-joined n over.rest over.canonical joined over.ordered over.in_type free)
    where
      -- No member of the others is in the joined run or next to it.
      free : LeavesApart over.rest joined.first joined.last
      free rank from to = elim (true_or_false (members over.rest rank)) [
        | inr lacks ↦ lacks
        | inl member ↦
            let found = members-in over.rest rank member in
            let bounds = covers-bounds found.0 rank found.2 in
            elim (cases_lt rank joined.first) [
              | inl less ↦ over.begins rank (omega (arith, from, less))
              | inr starts ↦ elim (cases_lt joined.last rank) [
                | inl more ↦
                    ap (members over.rest) (omega (arith, to, more)) ∙ over.ends
                | inr within ↦ elim (cases_lt joined.first found.0.first) [
                  | inl later ↦ absurd (none found.0 (record {
                    among = subst (λ (items : List Interval). Contains items found.0)
                        (sym over.parts)
                        (Contains-with_run joined over.rest found.0 found.1
                        (λ same. omega (arith, same, later)));
                    later = later;
                    within = omega (arith, bounds.0, within);
                  }))
                  | inr near ↦ elim (cases_lt found.0.first joined.first) [
                    | inl before ↦ absurd (not_both (members over.rest (joined.first - 1))
                        (contained-members n over.rest over.canonical found.0 (joined.first - 1)
                        found.1 (omega (arith, before)) (omega (arith, bounds.1, starts)))
                        (over.begins (joined.first - 1) (omega (arith, before))))
                    | inr same ↦ absurd (over.elsewhere found.0 found.1 (omega (arith, near, same)))
                  ]
                ]
              ]
            ]
      ]

-- Once the last run that starts inside is removed, the one before it starts inside, or no run does.
pub without-inside : {T : Type 0} (rank : T → ℕ) (runs : List Interval) (joined : Interval) (last : Run T)
    (before : Option (Run T)) → KnowsInside rank runs joined (Some last) before
    → MatchOption before (NoneInside (without_start (rank last.start) runs) joined)
    (λ other. IsInside (without_start (rank last.start) runs) joined (run_of rank other))
without-inside rank runs joined last None known = λ other inside.
    let found = starting-contains (λ start. not (start == rank last.start)) runs other inside.among in
    let same = known.1 other (record {
      among = found.0;
      later = inside.later;
      within = inside.within;
    }) in
    grind (arith, nat_tests, same, found.1)
without-inside rank runs joined last (Some before) known =
    let less = known.1.1 in
    record {
      among = Contains-starting (λ start. not (start == rank last.start)) runs (run_of rank before)
          known.1.0.among (grind (arith, nat_tests, less));
      later = known.1.0.later;
      within = known.1.0.within;
    }
