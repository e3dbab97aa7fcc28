-- What the results of tests between two streams mean.
use Rattle.std.proofs.Common.{◌↔◌, ℕ, ◌<◌, Bool, refl, sym, ◌∙◌, inl, inr}
use Rattle.std.proofs.lemmas.Bool.{cases_lt}
use Rattle.std.specs.Prelude.{IsTrue, IsFalse}
use Rattle.rsb_integer.specs.Runs.{members}
use Rattle.rsb_integer.specs.Selection.{Selection, AreDisjoint, IsEmpty, IsSubset, difference, intersection}
use Rattle.rsb_integer.proofs.lemmas.List.{not_both, true_or_false}
use Rattle.rsb_integer.proofs.lemmas.Members.{members-end}
use Rattle.rsb_integer.proofs.lemmas.Runs.{runs-canonical, runs-members}
use Rattle.rsb_streams.specs.Stream.{Outcomes, ◌⊆◌, runs_by_two, SomeOutcome, SomeOutcomes}

-- If a fact of two sets holds exactly if an operation on them is empty, a test for an empty result
-- tests the fact.
pub nothing-tells : (n : ℕ) (operation : Selection → Selection → Selection)
    (Fact : Selection → Selection → Type 0) (P Q Given : Outcomes) (test : Bool)
    → ((left right : Selection) → ((rank : ℕ) → rank < n → IsFalse (operation left right rank))
    ↔ Fact left right)
    → Given ⊆ runs_by_two n operation P Q
    → SomeOutcome Given (λ runs. IsTrue test ↔ IsEmpty (members runs))
    → SomeOutcomes P Q (λ left right. IsTrue test ↔ Fact (members left) (members right))
nothing-tells n operation Fact P Q Given test means given some = λ nothing. some (λ runs at tells.
    given runs at (λ left right might also all.
    nothing left right might also (
      (λ holds. (means (members left) (members right)).0 (λ rank below.
          sym (runs-members n (operation (members left) (members right)) runs all rank below)
          ∙ tells.0 holds rank)),
      (λ fact. tells.1 (λ rank. elim (cases_lt rank n) [
        | inl below ↦
            runs-members n (operation (members left) (members right)) runs all rank below
            ∙ (means (members left) (members right)).1 fact rank below
        | inr past ↦
            members-end n runs rank
            (runs-canonical n (operation (members left) (members right)) runs all).within past
      ])),
    )))

-- The difference of two sets is empty exactly if the left one is a subset of the right one.
pub difference-tells : (n : ℕ) (left right : Selection)
    → ((rank : ℕ) → rank < n → IsFalse (difference left right rank)) ↔ IsSubset n left right
difference-tells n left right = (
  (λ nothing rank below has. elim (true_or_false (right rank)) [
    | inl also ↦ also
    | inr lacks ↦ absurd (not_both (difference left right rank) (rw (has, lacks) refl)
        (nothing rank below))
  ]),
  (λ within rank below. elim (true_or_false (left rank)) [
    | inl has ↦ rw (has, within rank below has) refl
    | inr lacks ↦ rw lacks refl
  ]),
)

-- The intersection of two sets is empty exactly if they are disjoint.
pub intersection-tells : (n : ℕ) (left right : Selection)
    → ((rank : ℕ) → rank < n → IsFalse (intersection left right rank)) ↔ AreDisjoint n left right
intersection-tells n left right = (
  (λ nothing rank below has. elim (true_or_false (right rank)) [
    | inl also ↦ absurd (not_both (intersection left right rank) (rw (has, also) refl)
        (nothing rank below))
    | inr lacks ↦ lacks
  ]),
  (λ apart rank below. elim (true_or_false (left rank)) [
    | inl has ↦ rw (has, apart rank below has) refl
    | inr lacks ↦ rw lacks refl
  ]),
)
