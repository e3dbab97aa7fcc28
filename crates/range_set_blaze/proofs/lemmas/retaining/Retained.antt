-- Runs that a closure keeps, one after the other.
use Rattle.std.proofs.Common.{◌≡◌, ℕ, Bool, true, false, cond, not, ◌==◌, nat_lt, ◌+◌, ◌-◌, ◌<◌, ◌≤◌, List, [], ◌∷◌, ◌++◌, append_assoc, append-nil, Option, Some, None, MatchOption, refl, sym, ap, ◌∙◌, inl, inr, arith, subst}
use denote.Param.Always.{always_mut, mut_next}
use denote.Param.Members.{Called, Mut}
use denote.Ref.{Bor}
use Rattle.std.specs.List.{Contains, filter}
use Rattle.std.specs.declared.ops.RangeInclusive.{RangeInclusive}
use Rattle.std.proofs.lemmas.Bool.Decides.{nat_tests}
use Rattle.std.proofs.lemmas.Fn.{FoldsTo-push}
use Rattle.std.proofs.lemmas.List.{map-append}
use Rattle.std.proofs.lemmas.List.Elements.{filter-append, All-contains, Contains-append_right}
use Rattle.rsb_integer.specs.Rank.{interval_of, intervals_of}
use Rattle.rsb_integer.specs.Runs.{Interval, length_of, members, IsCanonicalFrom, IsCanonicalIn, IsMaximalRun}
use Rattle.rsb_integer.specs.Selection.{count}
use Rattle.rsb_integer.proofs.lemmas.Canonical.{canonical-starts}
use Rattle.rsb_integer.proofs.lemmas.List.{Contains-head}
use Rattle.rsb_streams.specs.Sublists.{IsSublist}
use Rattle.rsb_storage.specs.Storage.{run_of}
use Rattle.rsb_storage.specs.Starts.{runs_past, without_start, IsJoined, StartsWith}
use Rattle.range_set_blaze.specs.Retain.{AnswersByRun, IsAsked, IsNextRun}
use Rattle.rsb_storage.specs.declared.run.Run.{Run}
use Rattle.rsb_storage.proofs.lemmas.runs.Apart.{contained-maximal, without_start-joined}
use Rattle.rsb_storage.proofs.lemmas.runs.Starts.{starting-all, starting-contains, starting-starting}

-- ---- lists

-- Sublists of two lists, one after the other, are a sublist of both lists, one after the other.
sublist-append : {X : Type 0} (kept done more rest : List X) → IsSublist kept done
    → IsSublist more rest → IsSublist (kept ++ more) (done ++ rest)
sublist-append kept [] more rest sub others = rw sub others
sublist-append kept (first ∷ done) more rest sub others = elim sub [
  | inl without ↦ inl (sublist-append kept done more rest without others)
  | inr taken ↦ inr (
    taken.0 ++ more,
    ap (λ items. items ++ more) taken.1,
    sublist-append taken.0 done more rest taken.2 others,
  )
]

-- A canonical list without one of its runs has the runs before it and those after it. The runs past
-- its end are those after it.
starting-parts : (low : ℕ) (front : List Interval) (run : Interval) (rest : List Interval)
    → IsCanonicalFrom low (front ++ run ∷ rest) → (low ≤ run.first) × (run.first ≤ run.last)
    × (without_start run.first (front ++ run ∷ rest) ≡ front ++ rest)
    × (runs_past run.last (front ++ run ∷ rest) ≡ rest)
starting-parts low [] run rest canonical =
    let ordered = canonical.in_order in
    let here : (run.first == run.first) ≡ true = grind (arith, nat_tests) in
    let not_past : nat_lt run.last run.first ≡ false = grind (arith, nat_tests, ordered) in
    let later : (other : Interval) → Contains rest other → run.last + 2 ≤ other.first =
    λ other. All-contains (λ (each : Interval). run.last + 2 ≤ each.first) rest other
    (canonical-starts (run.last + 2) rest canonical.rest) in (
      canonical.starts,
      canonical.in_order,
      rw here (starting-all (λ start. not (start == run.first)) rest
          (λ other found. let from = later other found in grind (arith, nat_tests, from, ordered))),
      rw not_past (starting-all (λ start. nat_lt run.last start) rest
          (λ other found. let from = later other found in grind (arith, nat_tests, from))),
    )
starting-parts low (first ∷ front) run rest canonical =
    let more = starting-parts (first.last + 2) front run rest canonical.rest in
    let differs : (first.first == run.first) ≡ false =
    grind (arith, nat_tests, canonical.in_order, more.0) in
    let not_past : nat_lt run.last first.first ≡ false =
    grind (arith, nat_tests, canonical.in_order, more.0, more.1) in (
      omega (arith, canonical.starts, canonical.in_order, more.0),
      more.1,
      rw differs (ap (λ (runs : List Interval). first ∷ runs) more.2),
      rw not_past more.3,
    )

-- ---- the loop

-- The number of ranks from the next run on, which bounds the number of runs to come.
abbrev pub to_come : {T : Type 0} → (T → ℕ) → ℕ → Option (Run T) → ℕ
to_come rank n None = 0
to_come rank n (Some run) = n - rank run.start

-- This number is less after each run.
pub fewer-to_come : {T : Type 0} (rank : T → ℕ) (n : ℕ) (run : Run T) (next : Option (Run T))
    (after : List Interval) → rank run.start ≤ rank run.end → rank run.end < n
    → MatchOption next (runs_past (rank run.end) after ≡ [])
    (λ other. StartsWith (runs_past (rank run.end) after) (run_of rank other))
    → to_come rank n next < n - rank run.start
fewer-to_come rank n run None after ordered in_type found = omega (arith, ordered, in_type)
fewer-to_come rank n run (Some other) after ordered in_type found =
    let later = (starting-contains (λ start. nat_lt (rank run.end) start) after (run_of rank other)
    (rw found.parts (Contains-head (run_of rank other) found.rest))).1 in
    grind (arith, nat_tests, ordered, in_type, later)

module _ {F T : Type 0} (rank : T → ℕ) (n : ℕ)
    (g : Mut F (Bor (RangeInclusive T) × Unit {0}) Bool) (f : F) (old : List Interval) where
  -- Whether the closure was called on the runs `done`. Those that it kept, and the runs `todo` that
  -- are still to come, are in the new list.
  pub record IsRetaining (new : List Interval) (number : ℕ) (next : Option (Run T)) (now : F)
      : Type 0 where
    pub done : List Interval
    pub kept : List Interval
    pub todo : List Interval
    pub old_parts : old ≡ done ++ todo
    pub new_parts : new ≡ kept ++ todo
    pub sub : IsSublist kept done
    pub next_is : MatchOption next (todo ≡ []) (λ run. StartsWith todo (run_of rank run))
    pub canonical : IsCanonicalIn n new
    pub counted : number ≡ count n (members new)
    pub asked : List (RangeInclusive T)
    pub listed : intervals_of rank asked ≡ done
    pub callable : always_mut g f → always_mut g now
    pub calls : IsAsked g f asked now
    pub exact : (keeps : Interval → Bool) → AnswersByRun rank n g keeps f
        → AnswersByRun rank n g keeps now × (kept ≡ filter keeps done)

  module _ {new : List Interval} {number : ℕ} {next : Option (Run T)} {now : F} {run : Run T}
      (some : next ≡ Some run) (held : IsRetaining new number next now) where
    before : IsRetaining new number (Some run) now
    before = rw some at held

    -- The next run is one of the new list.
    next-parts : new ≡ before.kept ++ run_of rank run ∷ before.next_is.rest
    next-parts = before.new_parts ∙ (λ i. before.kept ++ before.next_is.parts i)

    next-contained : Contains new (run_of rank run)
    next-contained = rw next-parts
        (Contains-append_right before.kept (run_of rank run ∷ before.next_is.rest) (run_of rank run)
        (Contains-head (run_of rank run) before.next_is.rest))

    -- It is a maximal run of the new list.
    pub next-maximal : IsMaximalRun n (members new) (run_of rank run)
    next-maximal = contained-maximal n new before.canonical (run_of rank run) next-contained

    -- Without it, the new list differs only by this run.
    pub next-joined : IsJoined n (without_start (rank run.start) new) (run_of rank run) new
    next-joined = without_start-joined n new before.canonical (run_of rank run) next-contained

    -- It is the next run on which the closure may be called.
    pub next-asked : (range : RangeInclusive T) → IsCanonicalIn n old
        → range.start ≡ run.start → range.end ≡ run.end → range.exhausted ≡ false
        → IsNextRun rank n g f old now range
    next-asked range canonical start end fresh =
        let rest = before.next_is.rest in
        let parts : old ≡ before.done ++ run_of rank run ∷ rest =
        before.old_parts ∙ (λ i. before.done ++ before.next_is.parts i) in
        let ranks : interval_of rank range ≡ run_of rank run = rw (fresh, start, end) refl in
        record {
          asked = before.asked;
          calls = before.calls;
          next = record {
            rest = rest;
            parts =
                rw (
                  map-append (interval_of rank) before.asked (range ∷ []),
                  ranks,
                  before.listed,
                  append_assoc before.done (run_of rank run ∷ []) rest,
                )
                parts;
          };
          fresh = fresh;
          maximal = rw (start, end) (contained-maximal n old canonical (run_of rank run) (rw parts
              (Contains-append_right before.done (run_of rank run ∷ rest) (run_of rank run)
              (Contains-head (run_of rank run) rest))));
          callable = before.callable;
        }

    -- Once the closure was called on the next run, the list has the runs kept before, that run if
    -- it is kept, and the others.
    next-one : (test : Bool) (after : List Interval) (fewer : ℕ)
        → after ≡ cond test new (without_start (rank run.start) new)
        → fewer + cond test 0 (length_of (run_of rank run)) ≡ number
        → (after ≡ (before.kept ++ cond test (run_of rank run ∷ []) []) ++ before.next_is.rest)
        × IsSublist (cond test (run_of rank run ∷ []) []) (run_of rank run ∷ [])
        × (runs_past (rank run.end) after ≡ before.next_is.rest) × IsCanonicalIn n after
        × (fewer ≡ count n (members after))
    next-one true after fewer is less =
        let parts = starting-parts 0 before.kept (run_of rank run) before.next_is.rest
        (subst (IsCanonicalIn n) next-parts before.canonical).apart in
        rw is (
          next-parts ∙ sym (append_assoc before.kept (run_of rank run ∷ []) before.next_is.rest),
          inr ([], refl, refl),
          ap (runs_past (rank run.end)) next-parts ∙ parts.3,
          before.canonical,
          omega (arith, less, before.counted),
        )
    next-one false after fewer is less =
        let parts = starting-parts 0 before.kept (run_of rank run) before.next_is.rest
        (subst (IsCanonicalIn n) next-parts before.canonical).apart in
        let ordered = parts.1 in
        rw is (
          ap (without_start (rank run.start)) next-parts ∙ rw (parts.2, append-nil before.kept) refl,
          inl refl,
          starting-starting (λ start. nat_lt (rank run.end) start)
              (λ start. not (start == rank run.start)) (λ start. nat_lt (rank run.end) start) new
              (λ start. grind (arith, nat_tests, ordered))
              ∙ ap (runs_past (rank run.end)) next-parts ∙ parts.3,
          next-joined.fewer_canonical,
          omega (arith, less, next-joined.counted, before.counted),
        )

    -- After this call, `IsRetaining` holds with one more run done.
    pub retaining-next : (answer : Bool) (after : List Interval) (fewer : ℕ)
        (other : Option (Run T)) (shown : Bor (RangeInclusive T)) (then : F)
        → after ≡ cond answer new (without_start (rank run.start) new)
        → fewer + cond answer 0 (length_of (run_of rank run)) ≡ number
        → shown.now.start ≡ run.start → shown.now.end ≡ run.end → shown.now.exhausted ≡ false
        → MatchOption other (runs_past (rank run.end) after ≡ [])
        (λ later. StartsWith (runs_past (rank run.end) after) (run_of rank later))
        → Called g now (shown, tt) answer then → IsRetaining after fewer other then
    retaining-next answer after fewer other shown then is less start end fresh found called =
        let one = next-one answer after fewer is less in
        let ranks : interval_of rank shown.now ≡ run_of rank run = rw (fresh, start, end) refl in
        record {
          done = before.done ++ run_of rank run ∷ [];
          kept = before.kept ++ cond answer (run_of rank run ∷ []) [];
          todo = before.next_is.rest;
          old_parts = before.old_parts ∙ (λ i. before.done ++ before.next_is.parts i)
              ∙ sym (append_assoc before.done (run_of rank run ∷ []) before.next_is.rest);
          new_parts = one.0;
          sub = sublist-append before.kept before.done (cond answer (run_of rank run ∷ []) [])
              (run_of rank run ∷ []) before.sub one.1;
          next_is = subst (λ (items : List Interval). MatchOption other (items ≡ [])
              (λ later. StartsWith items (run_of rank later))) one.2 found;
          canonical = one.3;
          counted = one.4;
          asked = before.asked ++ shown.now ∷ [];
          listed = map-append (interval_of rank) before.asked (shown.now ∷ [])
              ∙ (λ i. before.listed i ++ ranks i ∷ []);
          callable = λ always. mut_next g now (shown, tt) answer then then called refl
              (before.callable always);
          calls = FoldsTo-push _ _ _ _ _ _ before.calls
              (answer, record { shown = shown; shows = refl; called = called });
          exact = λ keeps answers.
              let exact = before.exact keeps answers in
              let said : answer ≡ keeps (run_of rank run) =
              (exact.0.at ((shown, tt) ∷ []) answer then called).0 fresh
              (rw start (omega (arith, next-maximal.in_order, next-maximal.in_type)))
              (rw end next-maximal.in_type) ∙ ap keeps ranks in (
                record { at = λ items. (exact.0.at ((shown, tt) ∷ items) answer then called).1 },
                (λ i. exact.1 i ++ cond (said i) (run_of rank run ∷ []) [])
                    ∙ sym (filter-append keeps before.done (run_of rank run ∷ [])),
              );
        }
