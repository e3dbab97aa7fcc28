-- Pairs that are put in order and joined, and the ranks between them.
use Rattle.std.proofs.Common.{◌≡◌, ◌∙◌, ℕ, suc, ◌+◌, ◌<◌, ◌≤◌, Bool, true, false, ◌||◌, List, [], ◌∷◌, get_or, max, nat_le, refl, sym, ap, subst, arith}
use Rattle.std.proofs.lemmas.Bool.Decides.{nat_tests}
use Rattle.std.proofs.lemmas.List.Elements.{All-cons, All-head, All-nil, All-tail}
use Rattle.std.specs.List.{All, filter}
use Rattle.std.specs.List.Retain.{DedupsFrom, IsDeduped}
use Rattle.std.specs.List.Sorted.{IsSortedByKey}
use Rattle.std.specs.Ordering.{is_lt}
use Rattle.std.specs.declared.cmp.Ordering.{Ordering}
use Rattle.range_set_blaze.specs.Runs.{Interval, AllEndBelow, IsCanonicalFrom, covers, from_to, members}
use Rattle.range_set_blaze.proofs.MembersLemmas.{members-cons}
use Rattle.rsb_streams.proofs.lemmas.checking.Comparisons.{is_lt-nat}
use Rattle.rsb_streams.proofs.lemmas.sorting.Sorted.{IsInOrder}
use Rattle.ip_sets.specs.Pairs.{MayJoin, span_of, spans_of}
use borrow.Author.Tests.{ltb-false}

-- Two runs that overlap or touch have the ranks of one.
covers-joined : (a b c d e rank : ℕ) → a ≤ b → c ≤ d → a ≤ c → c ≤ b + 1 → e ≡ max b d
    → covers (from_to a e) rank ≡ (covers (from_to a b) rank || covers (from_to c d) rank)
covers-joined a b c d e rank ab cd ac cb is = grind (arith, nat_tests)

-- Three tests have one disjunction, in whichever order they are joined.
or-assoc : (a b c : Bool) → ((a || b) || c) ≡ (a || (b || c))
or-assoc true b c = refl
or-assoc false b c = refl

-- A run that ends before it starts has no rank.
covers-none : (a b rank : ℕ) → b < a → covers (from_to a b) rank ≡ false
covers-none a b rank below = grind (arith, nat_tests)

module _ {T : Type 0} (rank : T → ℕ) (n : ℕ) where
  -- Whether the pair is in order, and within the type.
  pub record IsProper (pair : T × T) : Type 0 where
    pub in_order : rank pair.0 ≤ rank pair.1
    pub in_type : rank pair.1 < n

  -- Whether the pairs start at `low` or later, each no earlier than the one before.
  abbrev pub StartsFrom : ℕ → List (T × T) → Type 0
  StartsFrom low [] = Unit {0}
  StartsFrom low (pair ∷ pairs) = (low ≤ rank pair.0) × StartsFrom (rank pair.0) pairs

  -- Pairs that start at a rank or later start at a lower one or later.
  starts-earlier : (low high : ℕ) (pairs : List (T × T)) → low ≤ high → StartsFrom high pairs
      → StartsFrom low pairs
  starts-earlier low high [] less starts = tt
  starts-earlier low high (pair ∷ pairs) less starts = (omega (arith, less, starts.0), starts.1)

  -- ---- pairs out of order

  -- Pairs that are out of order have no ranks.
  pub members-ordered : (pairs : List (T × T)) (place : ℕ)
      → members (spans_of rank (filter (λ pair. nat_le (rank pair.0) (rank pair.1)) pairs)) place
      ≡ members (spans_of rank pairs) place
  members-ordered [] place = refl
  members-ordered (pair ∷ pairs) place =
      by (members-ordered pairs place) (nat_le (rank pair.0) (rank pair.1)) refl
    where
      by : members (spans_of rank (filter (λ pair. nat_le (rank pair.0) (rank pair.1)) pairs)) place
          ≡ members (spans_of rank pairs) place → (is : Bool) → nat_le (rank pair.0) (rank pair.1) ≡ is
          → members (spans_of rank (filter (λ pair. nat_le (rank pair.0) (rank pair.1))
          (pair ∷ pairs))) place ≡ members (spans_of rank (pair ∷ pairs)) place
      by others true is = rw is (
          members-cons (span_of rank pair) _ place
          ∙ ap (λ has. covers (span_of rank pair) place || has) others
          ∙ sym (members-cons (span_of rank pair) (spans_of rank pairs) place))
      by others false is = rw is (
          let below : rank pair.1 < rank pair.0 = grind (arith, nat_tests, is) in
          others
          ∙ sym (members-cons (span_of rank pair) (spans_of rank pairs) place
          ∙ ap (λ here. here || members (spans_of rank pairs) place)
          (covers-none (rank pair.0) (rank pair.1) place below)))

  -- ---- sorted pairs

  module _ (cmp : T → T → Ordering) (in_order : IsInOrder rank n cmp) where
    -- Whether the pairs are sorted by start.
    abbrev pub StartsAscend : List (T × T) → Type 0
    StartsAscend pairs = IsSortedByKey (λ (pair : T × T). pair.0) cmp pairs

    -- Of two sorted pairs, the second starts no earlier than the first.
    starts-after : (pair next : T × T) → IsProper pair → IsProper next
        → is_lt (cmp next.0 pair.0) ≡ false → rank pair.0 ≤ rank next.0
    starts-after pair next proper follows not_less =
        let ordered = in_order next.0 pair.0 (omega (arith, follows.in_order, follows.in_type))
        (omega (arith, proper.in_order, proper.in_type)) in
        let most = ltb-false (rank next.0) (rank pair.0)
        (sym (is_lt-nat (rank next.0) (rank pair.0)) ∙ sym (ap is_lt ordered) ∙ not_less) in
        omega (arith, most)

    -- Sorted pairs without the first one are sorted.
    ascend-tail : (pair : T × T) (pairs : List (T × T)) → StartsAscend (pair ∷ pairs)
        → StartsAscend pairs
    ascend-tail pair pairs ascend k default low within =
        let same : suc k + 1 ≡ suc (k + 1) = omega arith in
        subst (λ place. is_lt (cmp (get_or (pair ∷ pairs) place default).0
        (get_or pairs k default).0) ≡ false) same
        (ascend (suc k) default (omega arith) (omega arith))

    -- Sorted pairs start at the rank from which the first of them starts, or later.
    pub starts-from : (low : ℕ) (pairs : List (T × T)) → All IsProper pairs → StartsAscend pairs
        → ((pair : T × T) (others : List (T × T)) → pairs ≡ pair ∷ others → low ≤ rank pair.0)
        → StartsFrom low pairs
    starts-from low [] proper ascend from = tt
    starts-from low (pair ∷ pairs) proper ascend from =
        let here = All-head IsProper pair pairs proper in
        let rest = All-tail IsProper pair pairs proper in (
          from pair pairs refl,
          starts-from (rank pair.0) pairs rest (ascend-tail pair pairs ascend)
              (λ next others is.
              let follows = subst (All IsProper) is rest in
              let later = subst (λ each. StartsAscend (pair ∷ each)) is ascend in
              starts-after pair next here (All-head IsProper next others follows)
              (later 0 pair (omega arith) (omega arith))),
        )

  -- ---- joined pairs

  -- Whether what is left of the pairs is canonical from `low` onwards, and has their ranks.
  pub record AreJoined (low : ℕ) (pairs left : List (T × T)) : Type 0 where
    pub canonical : IsCanonicalFrom low (spans_of rank left)
    pub within : AllEndBelow n (spans_of rank left)
    pub same : (place : ℕ) → members (spans_of rank left) place ≡ members (spans_of rank pairs) place

  module _ {S : Type 0} (R : S → T × T → T × T → Bool → S → T × T → T × T → Type 0)
      (joins : (s : S) (next last : T × T) (is_joined : Bool) (t : S) (next' last' : T × T)
      → R s next last is_joined t next' last'
      → (next' ≡ next) × MayJoin rank next last is_joined last') where
    -- Sorted pairs are joined one after the other.
    joined-from : (s : S) (low : ℕ) (last : T × T) (rest left : List (T × T)) → IsProper last
        → All IsProper rest → low ≤ rank last.0 → StartsFrom (rank last.0) rest
        → DedupsFrom R s last rest left → AreJoined low (last ∷ rest) left
    joined-from s low last [] left proper all from starts is = rw is (record {
      canonical = record { starts = from; in_order = proper.in_order; rest = tt };
      within = All-cons (λ (run : Interval). run.last < n) (span_of rank last) [] proper.in_type
          (All-nil (λ (run : Interval). run.last < n));
      same = λ place. refl;
    })
    joined-from s low last (next ∷ rest) left proper all from starts
        (true, t, next', last', called, told) =
        let fact = (joins s next last true t next' last' called).1 in
        let here = All-head IsProper next rest all in
        let others = All-tail IsProper next rest all in
        let start : rank last'.0 ≡ rank last.0 = ap rank fact.start in
        let joined : IsProper last' = record {
          in_order = omega (arith, start, fact.end, proper.in_order);
          in_type = omega (arith, fact.end, proper.in_type, here.in_type);
        } in
        let more = joined-from t low last' rest left joined others (omega (arith, from, start))
        (starts-earlier (rank last'.0) (rank next.0) rest (omega (arith, start, starts.0)) starts.1)
        told in
        record {
          canonical = more.canonical;
          within = more.within;
          same = λ place.
              let both = covers-joined (rank last.0) (rank last.1) (rank next.0) (rank next.1)
              (rank last'.1) place proper.in_order here.in_order starts.0 fact.reached fact.end in
              more.same place ∙ members-cons (span_of rank last') (spans_of rank rest) place
              ∙ ap (λ at. covers (from_to at (rank last'.1)) place
              || members (spans_of rank rest) place) start
              ∙ ap (λ has. has || members (spans_of rank rest) place) both
              ∙ or-assoc (covers (span_of rank last) place) (covers (span_of rank next) place) _
              ∙ ap (λ has. covers (span_of rank last) place || has)
              (sym (members-cons (span_of rank next) (spans_of rank rest) place))
              ∙ sym (members-cons (span_of rank last) (spans_of rank (next ∷ rest)) place);
        }
    joined-from s low last (next ∷ rest) left proper all from starts
        (false, t, next', last', called, told) =
        let fact = joins s next last false t next' last' called in
        let here = All-head IsProper next rest all in
        let others = All-tail IsProper next rest all in
        let more = joined-from t (rank last.1 + 2) next rest told.0 here others
        (omega (arith, fact.1.1)) starts.1
        (subst (λ each. DedupsFrom R t each rest told.0) fact.0 told.1) in
        let is : left ≡ last ∷ told.0 = told.2 ∙ ap (λ each. each ∷ told.0) fact.1.0 in
        rw is (record {
          canonical = record { starts = from; in_order = proper.in_order; rest = more.canonical };
          within = All-cons (λ (run : Interval). run.last < n) (span_of rank last)
              (spans_of rank told.0) proper.in_type more.within;
          same = λ place.
              members-cons (span_of rank last) (spans_of rank told.0) place
              ∙ ap (λ has. covers (span_of rank last) place || has) (more.same place)
              ∙ sym (members-cons (span_of rank last) (spans_of rank (next ∷ rest)) place);
        })

    -- What is left of sorted pairs is canonical, and has their ranks.
    pub joined : (s : S) (pairs left : List (T × T)) → All IsProper pairs → StartsFrom 0 pairs
        → IsDeduped R s pairs left → AreJoined 0 pairs left
    joined s [] left proper starts deduped = rw deduped.told (record {
      canonical = tt;
      within = All-nil (λ (run : Interval). run.last < n);
      same = λ place. refl;
    })
    joined s (pair ∷ pairs) left proper starts deduped =
        joined-from s 0 pair pairs left (All-head IsProper pair pairs proper)
        (All-tail IsProper pair pairs proper) starts.0 starts.1 deduped.told
