-- The loop that keeps the keys for which a closure returns true.
use Rattle.std.proofs.Common.{◌≡◌, ℕ, Bool, true, false, cond, not, ◌&&◌, ◌<◌, List, [], ◌∷◌, Option, Some, None, refl, sym, ap, ◌∙◌, arith, subst}
use denote.Param.Always.{always_mut, mut_next}
use denote.Param.Members.{Called, Mut}
use denote.Ref.{Bor}
use Rattle.std.specs.Option.{is_some}
use Rattle.std.specs.Prelude.{IsTrue}
use Rattle.std.proofs.lemmas.Bool.Decides.{nat_tests}
use Rattle.rsb_integer.specs.Runs.{Interval, covers, from_to}
use Rattle.rsb_storage.specs.Set.{only, IsLeast}
use Rattle.range_map_blaze.specs.Elements.{TakesPair}
use Rattle.range_map_blaze.specs.Map.{keys, value_at, IsPut}
use Rattle.range_map_blaze.specs.Retain.{if_kept, AnswersByPair, IsKept, IsPartOf}

-- A rank is in a run of one rank exactly if it is that rank.
one-rank : (rank other : ℕ) → covers (from_to rank rank) other ≡ only rank other
one-rank rank other = grind (arith, nat_tests)

module _ {F T V : Type 0} (rank : T → ℕ) (n : ℕ) (seen : V → V)
    (g : Mut F (Bor T × (Bor V × Unit {0})) Bool) (f : F) (old : List (Interval × V)) where
  -- Whether the closure was called on the keys that are no longer left. The new map has those for
  -- which it returned true.
  pub record IsKeeping (left kept : List (Interval × V)) (now : F) : Type 0 where
    pub rest : (other : ℕ) → IsTrue (keys left other) → value_at left other ≡ value_at old other
    pub absent : (other : ℕ) → IsTrue (keys left other) → value_at kept other ≡ None
    pub within : IsPartOf (value_at kept) (value_at old)
    pub callable : always_mut g now
    pub exact : (keeps : ℕ → V → Bool) → AnswersByPair rank n seen g keeps f
        → AnswersByPair rank n seen g keeps now
        × ((other : ℕ) → value_at kept other
        ≡ cond (keys left other) None (if_kept (keeps other) (value_at old other)))

start-kept : {V : Type 0} (test : V → Bool) (found : Option V)
    → None ≡ cond (is_some found) None (if_kept test found)
start-kept test None = refl
start-kept test (Some value) = refl

-- What a test of one more pair gives.
next-kept : {V : Type 0} (answer test : Bool) (value : V) (found : Option V)
    → cond (answer && test) (Some value) found
    ≡ cond test (cond answer (Some value) found) found
next-kept true true value found = refl
next-kept true false value found = refl
next-kept false true value found = refl
next-kept false false value found = refl

-- What a test says of the keys that are left once one was taken.
still-left : (left taken : Bool) → (left && not taken) ≡ true → (left ≡ true) × (taken ≡ false)
still-left true true is = absurd (cc)
still-left true false is = (refl, refl)
still-left false taken is = absurd (cc)

left-apart : (left taken : Bool) → taken ≡ false → (left && not taken) ≡ left
left-apart true true is = absurd (cc)
left-apart true false is = refl
left-apart false taken is = refl

left-same : (left taken : Bool) → taken ≡ true → (left && not taken) ≡ false
left-same true true is = refl
left-same true false is = absurd (cc)
left-same false taken is = refl

module _ {F T V : Type 0} (rank : T → ℕ) (n : ℕ) (seen : V → V)
    (g : Mut F (Bor T × (Bor V × Unit {0})) Bool) (f : F) (old : List (Interval × V)) where
  -- At first the closure was called on no key.
  pub keeping-none : always_mut g f → IsKeeping rank n seen g f old old [] f
  keeping-none always = record {
    rest = λ other has. refl;
    absent = λ other has. refl;
    within = λ other has. absurd (cc);
    callable = always;
    exact = λ keeps answers. (answers, (λ other. start-kept (keeps other) (value_at old other)));
  }

  module _ (left kept : List (Interval × V)) (now : F) (before : IsKeeping rank n seen g f old left kept now)
      (key : T) (value : V) (rest : List (Interval × V))
      (takes : TakesPair rank (IsLeast n) left (Some (key, value)) rest) where
    abbrev pub at : ℕ
    at = rank key

    here : value_at left at ≡ Some value
    here = takes.value

    has : keys left at ≡ true
    has = ap is_some here

    stored : value_at old at ≡ Some value
    stored = sym (before.rest at has) ∙ here

    -- A key that is left after the call was left before, and is another one.
    later : (other : ℕ) → keys rest other ≡ true → (keys left other ≡ true) × (only at other ≡ false)
    later other is =
        let both = takes.key.rest other in
        still-left (keys left other) (only at other) (sym both ∙ is)

    module _ (answer : Bool) (new : List (Interval × V)) (then : F) (shown : Bor T) (lent : Bor V)
        (is_key : shown.now ≡ key) (is_value : seen lent.now ≡ value)
        (called : Called g now (shown, (lent, tt)) answer then)
        (step : (other : ℕ) → value_at new other
        ≡ cond (answer && only at other) (Some value) (value_at kept other)) where
      -- At another rank nothing changes.
      elsewhere : (other : ℕ) → only at other ≡ false → value_at new other ≡ value_at kept other
      elsewhere other apart =
          step other ∙ next-kept answer (only at other) value (value_at kept other)
          ∙ ap (λ test. cond test (cond answer (Some value) (value_at kept other)) (value_at kept other)) apart

      -- At the key, the value is kept if the closure returned true.
      at-key : (other : ℕ) → only at other ≡ true → value_at new other ≡ cond answer (Some value) None
      at-key other same =
          let equal : at ≡ other = grind (arith, nat_tests, same) in
          step other ∙ next-kept answer (only at other) value (value_at kept other)
          ∙ ap (λ test. cond test (cond answer (Some value) (value_at kept other)) (value_at kept other)) same
          ∙ ap (cond answer (Some value))
          (subst (λ each. value_at kept each ≡ None) equal (before.absent at has))

      kept-old : (test : Bool) (other : ℕ) → only at other ≡ test → IsTrue (is_some (value_at new other))
          → value_at new other ≡ value_at old other
      kept-old false other apart some =
          elsewhere other apart
          ∙ before.within other (sym (ap is_some (elsewhere other apart)) ∙ some)
      kept-old true other same some =
          let equal : at ≡ other = grind (arith, nat_tests, same) in
          at-key other same
          ∙ by answer (sym (ap is_some (at-key other same)) ∙ some)
          ∙ subst (λ each. Some value ≡ value_at old each) equal (sym stored)
        where
          by : (test : Bool) → is_some (cond test (Some value) None) ≡ true
              → cond test (Some value) None ≡ Some value
          by true is = refl
          by false is = absurd (cc)

      exact-next : (keeps : ℕ → V → Bool) → answer ≡ keeps at value
          → ((other : ℕ) → value_at kept other
          ≡ cond (keys left other) None (if_kept (keeps other) (value_at old other)))
          → (test : Bool) (other : ℕ) → only at other ≡ test
          → value_at new other ≡ cond (keys rest other) None (if_kept (keeps other) (value_at old other))
      exact-next keeps said exact false other apart =
          let both = takes.key.rest other in
          let same : keys left other ≡ keys rest other = sym (both ∙ left-apart (keys left other) (only at other) apart) in
          elsewhere other apart ∙ exact other
          ∙ ap (λ left. cond left None (if_kept (keeps other) (value_at old other))) same
      exact-next keeps said exact true other same =
          let both = takes.key.rest other in
          let gone : keys rest other ≡ false = both ∙ left-same (keys left other) (only at other) same in
          let equal : at ≡ other = grind (arith, nat_tests, same) in
          at-key other same
          ∙ ap (λ test. cond test (Some value) None) said
          ∙ subst (λ each. cond (keeps at value) (Some value) None ≡ if_kept (keeps each) (value_at old each))
          equal (ap (if_kept (keeps at)) (sym stored))
          ∙ ap (λ left. cond left None (if_kept (keeps other) (value_at old other))) (sym gone)

      -- The closure was called on one key more.
      pub keeping-next : at < n → IsKeeping rank n seen g f old rest new then
      keeping-next below = record {
        rest = λ other is. takes.rest other is ∙ before.rest other (later other is).0;
        absent = λ other is.
            elsewhere other (later other is).1 ∙ before.absent other (later other is).0;
        within = λ other some. kept-old (only at other) other refl some;
        callable = mut_next g now (shown, (lent, tt)) answer then then called refl before.callable;
        exact = λ keeps answers.
            let exact = before.exact keeps answers in
            let said : answer ≡ keeps at value =
            (exact.0.at ((shown, (lent, tt)) ∷ []) answer then called).0
            (subst (λ each. rank each < n) (sym is_key) below)
            ∙ (λ i. keeps (rank (is_key i)) (is_value i)) in (
              record { at = λ items. (exact.0.at ((shown, (lent, tt)) ∷ items) answer then called).1 },
              (λ other. exact-next keeps said exact.1 (only at other) other refl),
            );
      }

  -- In the end, no key is left.
  pub keeping-all : (kept : List (Interval × V)) (now : F) → IsKeeping rank n seen g f old [] kept now
      → (keeps : ℕ → V → Bool) → AnswersByPair rank n seen g keeps f
      → IsKept keeps (value_at old) (value_at kept)
  keeping-all kept now keeping keeps answers other = (keeping.exact keeps answers).1 other

-- A pair that is put at a key, and one that is not.
module _ {V : Type 0} (kept new : List (Interval × V)) (at : ℕ) (value : V) (answer : Bool) where
  pub put-step : answer ≡ true → IsPut (value_at kept) (covers (from_to at at)) value (value_at new)
      → (other : ℕ)
      → value_at new other ≡ cond (answer && only at other) (Some value) (value_at kept other)
  put-step is put other =
      put other ∙ ap (λ test. cond test (Some value) (value_at kept other)) (one-rank at other)
      ∙ sym (ap (λ test. cond (test && only at other) (Some value) (value_at kept other)) is)

  pub skip-step : answer ≡ false → (other : ℕ)
      → value_at kept other ≡ cond (answer && only at other) (Some value) (value_at kept other)
  skip-step is other =
      sym (ap (λ test. cond (test && only at other) (Some value) (value_at kept other)) is)
