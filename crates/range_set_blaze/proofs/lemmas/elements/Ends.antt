-- Calls at the two ends of an iterator over the elements of a stream.
use Rattle.std.proofs.Common.{◌≡◌, ◌↔◌, ℕ, true, false, ◌+◌, ◌<◌, ◌≤◌, List, [], ◌∷◌, ◌++◌, append-nil, append_assoc, refl, sym, ◌∙◌, ap, subst, arith}
use Rattle.std.proofs.lemmas.Nat.{row_fits}
use Rattle.std.specs.Prelude.{Option, Some, None, IfSome, IsNone}
use Rattle.std.specs.Iterator.{Count, IsFinite, MakesProgress, size}
use Rattle.std.specs.declared.ops.RangeInclusive.{RangeInclusive}
use Rattle.rsb_integer.specs.Rank.{interval_of}
use Rattle.rsb_integer.specs.Runs.{Interval, length_of, members, IsAfterFirst, IsBeforeLast, IsCanonicalIn, HasNoRanks}
use Rattle.rsb_integer.specs.Selection.{Selection}
use Rattle.rsb_integer.proofs.lemmas.Canonical.{canonical-none, canonical-parts}
use Rattle.rsb_integer.proofs.lemmas.List.{not_both}
use Rattle.rsb_streams.specs.Stream.{run_if_any, outcomes_unless}
use Rattle.rsb_streams.specs.declared.draw.Draw.{Ghosts as Stream}
use Rattle.rsb_streams.proofs.lemmas.checking.Fresh.{none-if_empty, one-if_some}
use Rattle.range_set_blaze.specs.BothEnds.{between_ends, elements_left, elements_ready, is_ready, ElementsReady, Gives, Takes}
use Rattle.rsb_storage.specs.Set.{IsGreatest, IsLeast}
use Rattle.range_set_blaze.specs.declared.iter.Iter.{Iter}
use Rattle.range_set_blaze.proofs.lemmas.elements.Shortened.{shorter-first, shorter-last, taken, IsShorter, IsTaken}

-- If two counts are the same, a call that makes progress by one makes progress by the other.
pub counted-alike : {S A : Type 0} {can : S → Type 0} {left other : S → Count} {s t : S}
    {item : Option A} → ((s : S) → left s ≡ other s) → MakesProgress can left s item t
    → MakesProgress can other s item t
counted-alike {can = can} {s = s} {t = t} {item = item} same goes =
    subst (λ count. MakesProgress can count s item t) (λ i each. same each i) goes

-- Intervals next to an end, and others after them or before them.
abbrev put : (List Interval → List Interval) → (List Interval → List Interval) → List Interval
    → List Interval → List Interval
put front back own others = front others ++ (own ++ back others)

module _ {T : Type 0} (I : Type 0) (rank : T → ℕ) (n : ℕ) where
  -- An end at which elements are taken.
  pub record End : Type 1 where
    -- What is held at this end, and at the other one.
    pub near : Iter T I → Interval
    pub far : Iter T I → Interval
    pub lengths : (s : Iter T I) → length_of (interval_of rank s.front)
        + length_of (interval_of rank s.back) ≡ length_of (near s) + length_of (far s)
    -- Which of the others come before the intervals at this end, and which come after them.
    pub front : List Interval → List Interval
    pub back : List Interval → List Interval
    pub apart : (s : Iter T I) (rest : List Interval) → between_ends rank s rest
        ≡ put front back (run_if_any (near s)) (put front back rest (run_if_any (far s)))
    pub nothing : put front back [] [] ≡ []
    pub drawn : (s : Iter T I) (run : Interval) (rest : List Interval) → HasNoRanks (near s)
        → between_ends rank s (put front back (run ∷ []) rest)
        ≡ put front back (run ∷ []) (put front back rest (run_if_any (far s)))
    pub alone : (s : Iter T I) → HasNoRanks (near s) → between_ends rank s []
        ≡ put front back (run_if_any (far s)) []
    -- Which rank is taken from an interval, and what a call at this end states about the item and
    -- the rest.
    pub edge : Interval → ℕ
    pub Pops : Interval → Option T → Interval → Type 0
    pub none : {run rest : Interval} {item : Option T} → Pops run item rest
        → IsNone item ↔ HasNoRanks run
    pub some : {run rest : Interval} {item : Option T} → Pops run item rest
        → IfSome item (λ value. rank value ≡ edge run)
    pub below : {run rest : Interval} {item : Option T} → Pops run item rest → run.last < n
    pub shorter : {run rest : Interval} {item : Option T} → Pops run item rest
        → IsShorter run rest (edge run)
    -- Which member of a set is taken.
    pub IsFound : Selection → ℕ → Type 0
    pub found : {run rest : Interval} {others : List Interval}
        → IsTaken 0 n (front others) (back others) run rest (edge run)
        → IsFound (members (put front back (run ∷ []) others)) (edge run)

  -- If nothing is held at the front, a drawn range comes first.
  pub between_ends-without_front : (s : Iter T I) (run : Interval) (rest : List Interval)
      → HasNoRanks (interval_of rank s.front)
      → between_ends rank s ((run ∷ []) ++ rest)
      ≡ (run ∷ []) ++ (rest ++ run_if_any (interval_of rank s.back))
  between_ends-without_front s run rest empty = grind (arith, none-if_empty _ empty)

  -- If nothing is held at the front and nothing is drawn, what is held at the back is left.
  pub between_ends-back_alone : (s : Iter T I) → HasNoRanks (interval_of rank s.front)
      → between_ends rank s [] ≡ run_if_any (interval_of rank s.back) ++ []
  between_ends-back_alone s empty = grind (arith, none-if_empty _ empty, append-nil)

  -- If nothing is held at the back, a drawn range comes last.
  pub between_ends-without_back : (s : Iter T I) (run : Interval) (rest : List Interval)
      → HasNoRanks (interval_of rank s.back)
      → between_ends rank s (rest ++ ((run ∷ []) ++ []))
      ≡ (run_if_any (interval_of rank s.front) ++ (rest ++ [])) ++ ((run ∷ []) ++ [])
  between_ends-without_back s run rest empty = grind (arith, none-if_empty _ empty, append-nil, append_assoc)

  -- If nothing is held at the back and nothing is drawn, what is held at the front is left.
  pub between_ends-front_alone : (s : Iter T I) → HasNoRanks (interval_of rank s.back)
      → between_ends rank s [] ≡ run_if_any (interval_of rank s.front) ++ []
  between_ends-front_alone s empty = grind (arith, none-if_empty _ empty, append-nil)

  -- The end at which the least element is taken.
  abbrev pub least : End
  least = record {
    near = λ s. interval_of rank s.front;
    far = λ s. interval_of rank s.back;
    lengths = λ s. refl;
    front = λ others. [];
    back = λ others. others;
    apart = λ s rest. refl;
    nothing = refl;
    drawn = between_ends-without_front;
    alone = between_ends-back_alone;
    edge = λ run. run.first;
    Pops = λ run item rest. record {
      value : run.last < n;
      none : IsNone item ↔ HasNoRanks run;
      first : IfSome item (λ first. rank first ≡ run.first);
      rest : IsAfterFirst run rest;
    };
    none = λ pops. pops.none;
    some = λ pops. pops.first;
    below = λ pops. pops.value;
    shorter = λ pops. shorter-first _ _ pops.rest;
    IsFound = IsLeast n;
    found = λ is. record { in_type = is.in_type; here = is.here; least = is.least refl refl };
  }

  -- The end at which the greatest element is taken.
  abbrev pub greatest : End
  greatest = record {
    near = λ s. interval_of rank s.back;
    far = λ s. interval_of rank s.front;
    lengths = λ s. omega arith;
    front = λ others. others;
    back = λ others. [];
    apart = λ s rest. simp (append-nil, append_assoc) refl;
    nothing = refl;
    drawn = between_ends-without_back;
    alone = between_ends-front_alone;
    edge = λ run. run.last;
    Pops = λ run item rest. record {
      value : run.last < n;
      none : IsNone item ↔ HasNoRanks run;
      last : IfSome item (λ last. rank last ≡ run.last);
      rest : IsBeforeLast run rest;
    };
    none = λ pops. pops.none;
    some = λ pops. pops.last;
    below = λ pops. pops.value;
    shorter = λ pops. shorter-last _ _ pops.rest;
    IsFound = IsGreatest n;
    found = λ is. record { in_type = is.in_type; here = is.here; greatest = is.greatest refl refl };
  }

module _ {T I N : Type 0} {rank : T → ℕ} {n : ℕ} (stream : Stream I T N) (e : End I rank n) where
  -- Intervals next to the end, and others after them or before them.
  abbrev placed : List Interval → List Interval → List Interval
  placed = put e.front e.back

  -- If no item is taken from an interval, it is empty and stays so.
  pops-none : {run rest : Interval} → e.Pops run None rest → HasNoRanks run × HasNoRanks rest
  pops-none pops =
      let empty = (e.none pops).0 refl in
      (empty, grind (arith, empty, (e.shorter pops).within))

  -- If an item is taken from an interval, it is non-empty.
  pops-some : {run rest : Interval} {value : T} → e.Pops run (Some value) rest
      → run.first ≤ run.last
  pops-some pops = grind (arith, (e.none pops).1)

  -- A call makes progress if fewer elements are left once the interval is shorter.
  pops-goes : {S : Type 0} {can : S → Type 0} {left : S → Count} {s t : S} {run rest : Interval}
      (item : Option T) → e.Pops run item rest → can t → (IsFinite (left s) → IsFinite (left t))
      → (IsFinite (left s) → length_of rest < length_of run → size (left t) < size (left s))
      → MakesProgress can left s item t
  pops-goes None pops may_call ends fewer = record { on = λ finite. tt; keeps = tt; rests = ends }
  pops-goes (Some value) pops may_call ends fewer = record {
    on = λ finite.
        (may_call, ends finite, fewer finite ((e.shorter pops).fewer (pops-some pops)));
    keeps = may_call;
    rests = λ finite. tt;
  }

  -- Whether the new list is canonical, and the item was taken from the old one.
  abbrev Turns : List Interval → Option T → List Interval → Type 0
  Turns old item new = IsCanonicalIn n new × Takes rank e.IsFound (members old) item (members new)

  -- What is taken from the interval next to the end is taken from the whole list. If nothing is
  -- taken, there must be no others.
  turns : {run rest : Interval} {others : List Interval} {item : Option T} → e.Pops run item rest
      → (IsNone item → others ≡ []) → IsCanonicalIn n (placed (run_if_any run) others)
      → Turns (placed (run_if_any run) others) item (placed (run_if_any rest) others)
  turns {run = run} {rest = rest} {others = others} {item = None} pops alone known =
      let none = pops-none pops in
      rw (none-if_empty run none.0, none-if_empty rest none.1, alone refl, e.nothing) (
        canonical-none n,
        record { none = ((λ no point. refl), (λ no. refl)); found = tt; rest = λ point. refl },
      )
  turns {run = run} {rest = rest} {others = others} {item = Some value} pops alone known =
      let one = one-if_some run (pops-some pops) in
      let edge = e.edge run in
      let whole = subst (IsCanonicalIn n) (ap (λ own. placed own others) one) known in
      let is = taken n (e.back others) run rest edge (e.shorter pops) (e.below pops) 0
      (e.front others) (record { apart = whole.apart; within = whole.within }) in
      rw one (
        record { apart = is.canonical.apart; within = is.canonical.within },
        record {
          none = ((λ lacks. absurd (cc)), (λ nothing. absurd (not_both _ is.here (nothing edge))));
          found = rw (e.some pops) (e.found is);
          rest = rw (e.some pops) is.removes;
        },
      )

  -- Whether the iterator may be called.
  abbrev Ready : Iter T I → Type 0
  Ready = ElementsReady rank n stream.can_draw stream.may_give

  -- Whether the item is taken from what was left, and the call makes progress.
  abbrev Turned : (Iter T I → Type 0) → Iter T I → Option T → Iter T I → Type 0
  Turned can s item t = record {
    steps : Gives rank n stream.can_draw stream.may_give e.IsFound s item t;
    goes : MakesProgress can (elements_left rank n stream.draws_left) s item t;
  }

  module _ {can : Iter T I → Type 0} {s t : Iter T I} {item : Option T} (ready : Ready s)
      (again : Ready t → can t) where
    -- To show this of a call, it is enough to know what might come before it, and the interval from
    -- which the item is taken.
    turned : {run now : Interval} → e.Pops run item now
        → (t.done ≡ false → stream.can_draw t.ranges)
        → ((rest : List Interval) → outcomes_unless t.done (stream.may_give t.ranges) rest
        → (prior : List Interval) × outcomes_unless s.done (stream.may_give s.ranges) prior
        × (IsCanonicalIn n (between_ends rank s prior) → (others : List Interval)
        × (between_ends rank s prior ≡ placed (run_if_any run) others)
        × (between_ends rank t rest ≡ placed (run_if_any now) others)
        × (IsNone item → others ≡ [])))
        → (IsFinite (stream.draws_left s.ranges) → IsFinite (stream.draws_left t.ranges))
        → (IsFinite (stream.draws_left s.ranges) → length_of now < length_of run
        → size (elements_left rank n stream.draws_left t)
        < size (elements_left rank n stream.draws_left s))
        → Turned can s item t
    turned pops callable priors ends fewer =
        let known = (is_ready rank n stream.can_draw stream.may_give s ready).canonical in
        let turn : (rest : List Interval) (may : outcomes_unless t.done (stream.may_give t.ranges)
        rest)
        → Turns (between_ends rank s (priors rest may).0) item (between_ends rank t rest) =
        λ rest may.
        let prior = priors rest may in
        let canonical = known _ (prior.0, prior.1, refl) in
        let at = prior.2 canonical in
        rw (at.1, at.2) (turns pops at.3 (subst (IsCanonicalIn n) at.1 canonical)) in
        let may_call = elements_ready rank n stream.can_draw stream.may_give t (record {
          callable = callable;
          canonical = λ new at. rw at.2 (turn at.0 at.1).0;
        }) in
        record {
          steps = record {
            ready = may_call;
            takes = λ new at.
                let prior = priors at.0 at.1 in
                (_, (prior.0, prior.1, refl), rw at.2 (turn at.0 at.1).1);
          };
          goes = pops-goes item pops (again may_call) ends fewer;
        }

    -- The item is taken from what is held at this end.
    pub turned-held : t.ranges ≡ s.ranges → t.done ≡ s.done → e.far t ≡ e.far s → ¬ (IsNone item)
        → e.Pops (e.near s) item (e.near t) → Turned can s item t
    turned-held same over other some pops = turned pops
        (rw (same, over) (is_ready rank n stream.can_draw stream.may_give s ready).callable)
        (λ rest may. (
          rest,
          rw (← over, ← same) may,
          λ known. (_, e.apart s rest, rw (← other) (e.apart t rest), λ lacks. absurd (some lacks)),
        ))
        (rw same (λ finite. finite))
        (λ finite fewer. rw (same, over)
        (omega (arith, fewer, e.lengths s, e.lengths t, ap length_of other)))

    -- If nothing is held at this end, the item is taken from the range that is drawn there.
    pub turned-drawn : {ask : I → Type 0} {gone : Interval} (range : RangeInclusive T)
        → s.done ≡ false → t.done ≡ s.done → e.far t ≡ e.far s → e.Pops (e.near s) None gone
        → ((rest : List Interval) → stream.may_give t.ranges rest
        → stream.may_give s.ranges (placed (interval_of rank range ∷ []) rest))
        → (ask t.ranges → stream.can_draw t.ranges)
        → MakesProgress ask stream.draws_left s.ranges (Some range) t.ranges
        → e.Pops (interval_of rank range) item (e.near t) → Turned can s item t
    turned-drawn range undone same other none answers may_draw goes pops =
        let run = interval_of rank range in
        turned pops (λ _. may_draw goes.keeps)
        (λ rest may.
        let others = placed rest (run_if_any (e.far s)) in
        let was = e.drawn s run rest (pops-none none).0 in (
          placed (run ∷ []) rest,
          grind (arith, undone, same, may, answers),
          λ known.
              let parts = canonical-parts 0 (e.front others) (run ∷ e.back others)
              (subst (IsCanonicalIn n) was known).apart in
              let some = parts.1.in_order in (
                others,
                was ∙ ap (λ own. placed own others) (sym (one-if_some run some)),
                rw (← other) (e.apart t rest),
                λ lacks. absurd (omega (arith, some, (e.none pops).0 lacks)),
              ),
        ))
        (λ finite. (goes.on finite).1)
        (λ finite fewer.
        let fits = row_fits (size (stream.draws_left t.ranges)) n
        (size (stream.draws_left s.ranges)) n (goes.on finite).2 (omega arith) in
        rw (same, undone) (omega
        (arith, fewer, e.below pops, fits, e.lengths s, e.lengths t, ap length_of other)))

    -- If nothing is held at this end and the stream has ended, the item is taken from what is held
    -- at the other end.
    pub turned-far : t.done ≡ true → outcomes_unless s.done (stream.may_give s.ranges) []
        → (IsFinite (stream.draws_left s.ranges) → IsFinite (stream.draws_left t.ranges))
        → e.Pops (e.near s) None (e.near t) → e.Pops (e.far s) item (e.far t) → Turned can s item t
    turned-far ended may ends none pops =
        let gone = pops-none none in
        turned pops (λ going. absurd (cc))
        (λ rest may_after.
        let nothing : rest ≡ [] = grind (arith, ended, may_after) in (
          [],
          may,
          λ known. ([], e.alone s gone.0, rw nothing (e.alone t gone.1), λ lacks. refl),
        ))
        ends
        (λ finite fewer. rw ended (omega (arith, fewer, gone.1, e.lengths s, e.lengths t)))
