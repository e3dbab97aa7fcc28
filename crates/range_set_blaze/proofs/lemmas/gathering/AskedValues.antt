-- Values on which a closure is called one after the other, and those that are kept.
use Rattle.std.proofs.Common.{◌≡◌, ℕ, zero, suc, Bool, true, ◌&&◌, ◌||◌, cond, nat_le, nat_lt, ◌+◌, ◌-◌, ◌<◌, ◌≤◌, List, [], ◌∷◌, ◌++◌, map, Option, None, Some, MatchOption, append_assoc, refl, sym, ap, ◌∙◌, arith}
use Rattle.std.proofs.lemmas.Bool.Decides.{nat_tests}
use Rattle.std.proofs.lemmas.Fn.{FoldsTo-push}
use Rattle.std.proofs.lemmas.List.{map-append}
use Rattle.std.proofs.lemmas.List.Elements.{All-head, All-tail}
use Rattle.std.proofs.lemmas.Simd.{map-map}
use denote.Param.Always.{always_mut, mut_next}
use denote.Param.Members.{Called, Mut}
use denote.Ref.{Bor}
use Rattle.rsb_integer.specs.Runs.{Interval, length_of, members, AllEndBelow, IsCanonicalFrom}
use Rattle.rsb_integer.specs.Selection.{Selection, any_of, intersection, union}
use Rattle.rsb_integer.proofs.lemmas.AnyOf.{any_of-one_more}
use Rattle.rsb_integer.proofs.lemmas.Members.{members-cons}
use Rattle.range_set_blaze.specs.Algebra.{ranks_of}
use Rattle.rsb_storage.specs.Storage.{entry_of, runs_of}
use Rattle.range_set_blaze.specs.Retain.{left_runs, ranks_from, ascending_ranks, AnswersByRank, AsksAll, IsAsked, IsCanonicalBelow, IsNextMember}
use Rattle.rsb_storage.specs.Set.{only, IsSetOf}
use Rattle.rsb_storage.specs.declared.run.Run.{Run}

-- ---- canonical runs in a type

-- A canonical list that ends below n is canonical in a type of n values.
pub canonical-below : (n low : ℕ) (runs : List Interval) → IsCanonicalFrom low runs
    → AllEndBelow n runs → IsCanonicalBelow n low runs
canonical-below n low [] canonical below = tt
canonical-below n low (run ∷ runs) canonical below =
    let Ends : Interval → Type 0 = λ each. each.last < n in (
      canonical.starts,
      canonical.in_order,
      All-head Ends run runs below,
      canonical-below n (run.last + 2) runs canonical.rest (All-tail Ends run runs below),
    )

-- A list that is canonical from a rank on is also canonical from a lower one on.
pub below-lower : (n low lower : ℕ) (runs : List Interval) → lower ≤ low
    → IsCanonicalBelow n low runs → IsCanonicalBelow n lower runs
below-lower n low lower [] less canonical = tt
below-lower n low lower (run ∷ runs) less canonical = (
  omega (arith, canonical.0),
  canonical.1,
  canonical.2,
  canonical.3,
)

-- ---- members in ascending order

-- A list that starts with `many` ranks from `first` on has those ranks and the ranks of the others.
ranks_from-then : (first many : ℕ) (others : List ℕ) (point : ℕ)
    → any_of (map only (ranks_from first many ++ others)) point
    ≡ ((nat_le first point && nat_lt point (first + many)) || any_of (map only others) point)
unfolding ranks_from
ranks_from-then first zero others point = grind (arith, nat_tests)
ranks_from-then first (suc many) others point =
    let more = ranks_from-then (first + 1) many others point in grind (arith, nat_tests, more)

-- The ranks in `ascending_ranks` are the members of the runs.
members-ascending : (runs : List Interval) (point : ℕ)
    → any_of (map only (ascending_ranks runs)) point ≡ members runs point
members-ascending [] point = refl
members-ascending (run ∷ runs) point =
    let rest = members-ascending runs point in
    let first = members-cons run runs point in
    let front = ranks_from-then run.first (length_of run) (ascending_ranks runs) point in
    grind (arith, nat_tests, rest, first, front)

-- The ranks of a run are its first rank, followed by those from the next one on.
pub ranks_from-first : (first last : ℕ) → first ≤ last → ranks_from first (last + 1 - first)
    ≡ first ∷ ranks_from (first + 1) (last + 1 - (first + 1))
unfolding ranks_from
ranks_from-first first last ordered =
    let count : last + 1 - first ≡ suc (last + 1 - (first + 1)) = omega arith in
    ap (ranks_from first) count

-- If the next run is that of the first entry, the runs that are left are those of all entries.
pub left_runs-next : {T : Type 0} (rank : T → ℕ) (next : Option (Run T)) (old new : List (T × T))
    → MatchOption next (old ≡ []) (λ run. old ≡ entry_of run ∷ new)
    → left_runs rank next new ≡ runs_of rank old
left_runs-next rank None old new is = sym (ap (runs_of rank) is)
left_runs-next rank (Some run) old new is = sym (ap (runs_of rank) is)

-- If `value` is the first of the members that are left, it may be moved to those of earlier calls.
pub listed-next : {T : Type 0} (rank : T → ℕ) (asked : List T) (value : T) (all rest more : List ℕ)
    → all ≡ map rank asked ++ rest → rest ≡ rank value ∷ more
    → all ≡ map rank (asked ++ value ∷ []) ++ more
listed-next rank asked value all rest more listed first = rw (
  listed,
  first,
  map-append rank asked (value ∷ []),
  append_assoc (map rank asked) (rank value ∷ []) more,
)

-- A rank in a list is among the ranks of the list.
among : (before : List ℕ) (rank : ℕ) (after : List ℕ)
    → any_of (map only (before ++ rank ∷ after)) rank ≡ true
among [] rank after = grind (arith, nat_tests)
among (first ∷ before) rank after =
    let more = among before rank after in grind (arith, nat_tests, more)

-- ---- what a closure has returned

module _ {F T : Type 0} (rank : T → ℕ) (n : ℕ) (g : Mut F (Bor T × Unit {0}) Bool) (f : F) where
  -- Calls on these values led from `f` to the closure `now`, and `has` selects some of their ranks.
  -- If what the closure returns depends only on the rank, these are the ranks for which it returns
  -- true.
  pub record HasAnswered (asked : List T) (now : F) (has : Selection) : Type 0 where
    pub callable : always_mut g f → always_mut g now
    pub calls : IsAsked g f asked now
    pub within : (point : ℕ) → has point ≡ true → ranks_of rank asked point ≡ true
    pub exact : (keeps : Selection) → AnswersByRank rank n g keeps f
        → AnswersByRank rank n g keeps now
        × ((point : ℕ) → has point ≡ intersection (ranks_of rank asked) keeps point)

  -- A value at the first rank that is left is the next member.
  pub next-member : {asked : List T} {now : F} {has : Selection} (old : List Interval) (value : T)
      (run : Interval) (rest : List Interval) → HasAnswered asked now has
      → ascending_ranks old ≡ map rank asked ++ ascending_ranks (run ∷ rest)
      → rank value ≡ run.first → run.first ≤ run.last → run.last < n
      → IsNextMember rank n g f old now value
  next-member {asked} {now} {has} old value run rest answered listed here order in_type =
      let more = ranks_from (run.first + 1) (run.last + 1 - (run.first + 1)) ++ ascending_ranks rest in
      let first : ascending_ranks (run ∷ rest) ≡ rank value ∷ more =
      rw here (ap (λ ranks. ranks ++ ascending_ranks rest)
      (ranks_from-first run.first run.last order)) in
      record {
        asked = asked;
        calls = answered.calls;
        next = record { rest = more; parts = listed-next rank asked value _ _ _ listed first };
        member = sym (members-ascending old (rank value))
            ∙ ap (λ ranks. any_of (map only ranks) (rank value))
            (listed ∙ ap (λ ranks. map rank asked ++ ranks) first)
            ∙ among (map rank asked) (rank value) more;
        in_type = omega (arith, here, order, in_type);
        callable = answered.callable;
      }

  -- The same holds after one more call, with its value.
  pub answered-next : {asked : List T} {now : F} {has : Selection} (next : F) (more : Selection)
      (shown : Bor T) (answer : Bool) → HasAnswered asked now has
      → Called g now (shown, tt) answer next
      → rank shown.now < n → ((point : ℕ)
      → more point ≡ cond answer (union has (only (rank shown.now)) point) (has point))
      → HasAnswered (asked ++ shown.now ∷ []) next more
  answered-next {asked} {now} {has} next more shown answer before called in_type grown =
      let value = rank shown.now in
      let among = any_of-one_more (λ (each : T). only (rank each)) asked shown.now in
      record {
        callable = λ always. mut_next g now (shown, tt) answer next next called refl
            (before.callable always);
        calls = FoldsTo-push _ _ _ _ _ _ before.calls
            (answer, record { shown = shown; shows = refl; called = called });
        within = λ point member.
            let all = among point in
            let gives = grown point in
            let old = before.within point in
            grind (arith, nat_tests);
        exact = λ keeps answers.
            let exact = before.exact keeps answers in
            let said : answer ≡ keeps value =
            (exact.0.at ((shown, tt) ∷ []) answer next called).0 in_type in (
              record { at = λ items. (exact.0.at ((shown, tt) ∷ items) answer next called).1 },
              λ point.
                  let here : only value point ≡ true → answer ≡ keeps point = λ is.
                  let same : value ≡ point = grind (arith, nat_tests, is) in said ∙ ap keeps same in
                  let all = among point in
                  let gives = grown point in
                  let old = exact.1 point in
                  grind (arith, nat_tests),
            );
      }

  -- Once the closure was called on all members, the set has some of them. If what it returns
  -- depends only on the rank, these are the members for which it returns true.
  pub answered-all : {asked : List T} {now : F} {has : Selection} (old set : List Interval)
      → HasAnswered asked now has → ascending_ranks old ≡ map rank asked → IsSetOf set has
      → ((point : ℕ) → members set point ≡ true → members old point ≡ true)
      × ((keeps : Selection) → AnswersByRank rank n g keeps f
      → IsSetOf set (intersection (members old) keeps)) × AsksAll rank g f old
  answered-all {asked} {now} {has} old set answered listed is =
      let all : (point : ℕ) → ranks_of rank asked point ≡ members old point = λ point.
      ap (λ sets. any_of sets point) (sym (map-map only rank asked))
      ∙ ap (λ ranks. any_of (map only ranks) point) (sym listed) ∙ members-ascending old point in (
        λ point member. sym (all point) ∙ answered.within point (sym (is point) ∙ member),
        λ keeps answers point.
            is point ∙ (answered.exact keeps answers).1 point
            ∙ ap (λ test. test && keeps point) (all point),
        (asked, now, answered.calls, sym listed),
      )
