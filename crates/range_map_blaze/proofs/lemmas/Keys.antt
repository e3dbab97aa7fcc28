-- The keys of a map, as intervals that may touch, and changes at all members of a set.
use Rattle.std.proofs.Common.{◌≡◌, ◌↔◌, ℕ, Bool, true, false, not, cond, nat_le, nat_lt, ◌&&◌, ◌||◌, ◌+◌, ◌<◌, List, [], ◌∷◌, ◌++◌, Option, Some, None, refl, sym, ap, ◌∙◌, inl, inr, arith, subst}
use Rattle.std.specs.Prelude.{IsTrue}
use Rattle.std.proofs.lemmas.Bool.{cases_lt}
use Rattle.std.proofs.lemmas.Bool.Decides.{nat_tests}
use Rattle.std.proofs.lemmas.List.Elements.{All-cons, All-nil}
use Rattle.std.specs.Option.{is_some}
use Rattle.rsb_integer.specs.Rank.{intervals_of}
use Rattle.rsb_integer.specs.Runs.{Interval, AllEndBelow, AreRuns, covers, members}
use Rattle.rsb_integer.proofs.lemmas.Members.{members-append, members-cons}
use Rattle.rsb_integer.specs.Selection.{count, IsUniversal, Selection}
use Rattle.rsb_storage.specs.Set.{IsSetOf}
use Rattle.rsb_streams.specs.Stream.{Outcomes, ◌⊆◌, joined_runs, just, SomeOutcome}
use Rattle.rsb_streams.specs.Touching.{IsTouchingFrom, IsTouchingIn}
use Rattle.rsb_streams.proofs.lemmas.calling.Results.{settled-same}
use Rattle.range_set_blaze.proofs.lemmas.gathering.SetOperations.{set-of_runs}
use Rattle.range_map_blaze.specs.Map.{keys, runs_of_keys, IsMapFrom, IsMapIn, value_at, IsPut, IsWithin, IsWithout}
use Rattle.range_map_blaze.specs.Storage.{key_ranges_of, pieces_of}
use Rattle.range_map_blaze.proofs.lemmas.Values.{value-past}

module _ {V : Type 0} where
  -- The intervals of a canonical list ascend, and may touch.
  map-touches : (n low : ℕ) (pieces : List (Interval × V)) → IsMapFrom n low pieces
      → IsTouchingFrom low (runs_of_keys pieces)
  map-touches n low [] canonical = tt
  map-touches n low (piece ∷ pieces) canonical = record {
    starts = canonical.0;
    in_order = canonical.1;
    rest = map-touches n (piece.0.last + 1) pieces canonical.4;
  }

  map-ends : (n low : ℕ) (pieces : List (Interval × V)) → IsMapFrom n low pieces
      → AllEndBelow n (runs_of_keys pieces)
  map-ends n low [] canonical = All-nil (λ (run : Interval). run.last < n)
  map-ends n low (piece ∷ pieces) canonical =
      All-cons (λ (run : Interval). run.last < n) piece.0 (runs_of_keys pieces) canonical.2
      (map-ends n (piece.0.last + 1) pieces canonical.4)

  pub keys-touch : (n : ℕ) (pieces : List (Interval × V)) → IsMapIn n pieces
      → IsTouchingIn n (runs_of_keys pieces)
  keys-touch n pieces canonical =
      record { spaced = map-touches n 0 pieces canonical; within = map-ends n 0 pieces canonical }

  -- Their members are the keys.
  pub keys-members : (pieces : List (Interval × V)) (rank : ℕ)
      → members (runs_of_keys pieces) rank ≡ keys pieces rank
  keys-members [] rank = refl
  keys-members (piece ∷ pieces) rank =
      members-cons piece.0 (runs_of_keys pieces) rank
      ∙ by (covers piece.0 rank) refl (keys-members pieces rank)
    where
      by : (test : Bool) → covers piece.0 rank ≡ test
          → members (runs_of_keys pieces) rank ≡ keys pieces rank
          → (covers piece.0 rank || members (runs_of_keys pieces) rank) ≡ keys (piece ∷ pieces) rank
      by true is rest = rw is refl
      by false is rest = rw is rest

-- The ranges of entries have the intervals of the pieces.
pub ranges-keys : {T V : Type 0} (rank : T → ℕ) (seen : V → V) (entries : List (T × (T × V)))
    → intervals_of rank (key_ranges_of entries) ≡ runs_of_keys (pieces_of rank seen entries)
ranges-keys rank seen [] = refl
ranges-keys rank seen (entry ∷ entries) =
    ap (λ runs. (record { first = rank entry.0; last = rank entry.1.0 }) ∷ runs)
    (ranges-keys rank seen entries)

-- A set of the runs of a stream that gives these ranges has the keys as its members.
pub joined-keys : {V : Type 0} (n : ℕ) (pieces : List (Interval × V)) (set : List Interval)
    → IsMapIn n pieces
    → SomeOutcome (just (runs_of_keys pieces)) (λ given. AreRuns n (members given) set)
    → IsSetOf set (keys pieces)
joined-keys n pieces set canonical some rank =
    settled-same (members set rank) (keys pieces rank) (λ fails. some (λ given is are.
    fails (set-of_runs n (members (runs_of_keys pieces)) set
    (λ other past. keys-members pieces other ∙ ap is_some (value-past n 0 pieces other canonical past))
    (subst (λ list. AreRuns n (members list) set) is are) rank ∙ keys-members pieces rank)))

-- ---- questions about all keys

module _ {V : Type 0} (n : ℕ) (pieces : List (Interval × V)) (canonical : IsMapIn n pieces) where
  -- Runs that the stream of keys gives have as many members as there are keys.
  pub count-keys : (runs : List Interval) → joined_runs n (just (runs_of_keys pieces)) runs
      → count n (members runs) ≡ count n (keys pieces)
  count-keys runs may = ap (count n) (λ i rank. joined-keys n pieces runs canonical may rank i)

  -- If all runs that it may give have all values or none of them does, so have the keys.
  pub universal-keys : (given : Outcomes) (answer : Bool)
      → given ⊆ joined_runs n (just (runs_of_keys pieces))
      → SomeOutcome given (λ runs. IsTrue answer ↔ IsUniversal n (members runs))
      → IsTrue answer ↔ IsUniversal n (keys pieces)
  universal-keys given answer within some = (
    (λ is rank below. settled-same (keys pieces rank) true (λ fails. some (λ runs may tells.
        fails (sym (joined-keys n pieces runs canonical (within runs may) rank)
        ∙ tells.0 is rank below)))),
    (λ all. settled-same answer true (λ fails. some (λ runs may tells.
        fails (tells.1 (λ rank below.
        joined-keys n pieces runs canonical (within runs may) rank ∙ all rank below))))),
  )

-- ---- the members of a set, one run after another

members-push : (runs : List Interval) (run : Interval) (rank : ℕ)
    → members (runs ++ run ∷ []) rank ≡ (members runs rank || covers run rank)
members-push runs run rank =
    let both = members-append runs (run ∷ []) rank in
    let one = members-cons run [] rank in
    grind (arith, nat_tests, both, one)

test-or : {V : Type 0} (first second : Bool) (value found : Option V)
    → cond second value (cond first value found) ≡ cond (first || second) value found
test-or true true value found = refl
test-or true false value found = refl
test-or false second value found = refl

module _ {V : Type 0} (old between new : ℕ → Option V) (runs : List Interval) (run : Interval) where
  pub put-run : (value : V) → IsPut old (members runs) value between
      → IsPut between (covers run) value new → IsPut old (members (runs ++ run ∷ [])) value new
  put-run value before put rank =
      put rank
      ∙ ap (cond (covers run rank) (Some value)) (before rank)
      ∙ test-or (members runs rank) (covers run rank) (Some value) (old rank)
      ∙ ap (λ test. cond test (Some value) (old rank)) (sym (members-push runs run rank))

  pub without-run : IsWithout old (members runs) between → IsWithout between (covers run) new
      → IsWithout old (members (runs ++ run ∷ [])) new
  without-run before without rank =
      without rank
      ∙ ap (cond (covers run rank) None) (before rank)
      ∙ test-or (members runs rank) (covers run rank) None (old rank)
      ∙ ap (λ test. cond test None (old rank)) (sym (members-push runs run rank))

test-not : {V : Type 0} (test : Bool) (found : Option V)
    → cond (not test) None found ≡ cond test found None
test-not true found = refl
test-not false found = refl

test-none : {V : Type 0} (left right : Bool) (found : Option V)
    → cond left found found ≡ cond right found found
test-none true true found = refl
test-none true false found = refl
test-none false true found = refl
test-none false false found = refl

-- If the gaps of a set have no value, and all other ranks keep theirs, only the members keep theirs.
pub without-gaps : {V : Type 0} (n : ℕ) (pieces : List (Interval × V)) (selected gaps : Selection)
    (new : ℕ → Option V) → IsMapIn n pieces
    → ((rank : ℕ) → rank < n → gaps rank ≡ not (selected rank))
    → IsWithout (value_at pieces) gaps new → IsWithin (value_at pieces) selected new
without-gaps n pieces selected gaps new canonical lacks without rank =
    without rank
    ∙ elim (cases_lt rank n) [
      | inl below ↦
          ap (λ test. cond test None (value_at pieces rank)) (lacks rank below)
          ∙ test-not (selected rank) (value_at pieces rank)
      | inr past ↦
          let none = value-past n 0 pieces rank canonical past in
          rw none (test-none (gaps rank) (selected rank) None)
    ]

-- At first no values were removed.
pub without-none : {V : Type 0} (old : ℕ → Option V) → IsWithout old (members []) old
without-none old rank = refl

-- A value within the type that is no member lies in a gap.
pub in-type-lacks : (n rank : ℕ) (member : Bool) → rank < n
    → ((nat_le 0 rank && nat_lt rank n) && not member) ≡ not member
in-type-lacks n rank member below = grind (arith, nat_tests, below)
