-- What a caller needs about results of results: operations on two results, of any two streams or of
-- two known lists.
use Rattle.std.proofs.Common.{◌≡◌, ◌↔◌, ℕ, Bool, true, false, ◌&&◌, ◌||◌, not, refl, sym, ◌∙◌, inl, inr, List}
use Rattle.std.specs.Prelude.{IsTrue}
use Rattle.rsb_integer.specs.Runs.{Interval, members}
use Rattle.rsb_integer.specs.Selection.{Selection, Agree, difference, exclusive_or, intersection, union}
use Rattle.rsb_integer.proofs.lemmas.List.{not_both, true_or_false}
use Rattle.rsb_integer.proofs.lemmas.Runs.{runs-along, runs-members}
use Rattle.rsb_streams.specs.Stream.{Outcomes, ◌⊆◌, joined_runs, just, runs_by, runs_by_two, SomeOutcomes}
use Rattle.rsb_streams.proofs.lemmas.calling.Results.{members-runs_by_two}

-- Whether the operation gives the same for sets that agree in a type of n values.
abbrev pub RespectsTwo : ℕ → (Selection → Selection → Selection) → Type 0
RespectsTwo n operation = (these others those more : Selection) → Agree n these others
    → Agree n those more → Agree n (operation these those) (operation others more)

-- Union respects equal sets.
pub union-respects : (n : ℕ) → RespectsTwo n union
union-respects n these others those more same also_same rank below =
    rw (same rank below, also_same rank below) refl

-- Intersection respects equal sets.
pub intersection-respects : (n : ℕ) → RespectsTwo n intersection
intersection-respects n these others those more same also_same rank below =
    rw (same rank below, also_same rank below) refl

-- Difference respects equal sets.
pub difference-respects : (n : ℕ) → RespectsTwo n difference
difference-respects n these others those more same also_same rank below =
    rw (same rank below, also_same rank below) refl

-- An operation on the results of two operations is one operation on both streams.
pub runs_by_two-after : (n : ℕ) (outer : Selection → Selection → Selection)
    (one two : Selection → Selection) (P Q Ones Twos : Outcomes) → RespectsTwo n outer
    → Ones ⊆ runs_by n one P → Twos ⊆ runs_by n two Q
    → runs_by_two n outer Ones Twos ⊆ runs_by_two n (λ left right. outer (one left) (two right)) P Q
runs_by_two-after n outer one two P Q Ones Twos respects ones twos runs may = λ nothing.
    may (λ first second at also all.
    ones first at (λ left might one_runs.
    twos second also (λ right too two_runs.
    nothing left right might too
    (runs-along n (outer (members first) (members second))
    (outer (one (members left)) (two (members right))) runs
    (respects (members first) (one (members left)) (members second) (two (members right))
    (runs-members n (one (members left)) first one_runs)
    (runs-members n (two (members right)) second two_runs)) all))))

-- Operations that are the same rank by rank give the same.
pub runs_by_two-same : (n : ℕ) (one two : Selection → Selection → Selection) (P Q : Outcomes)
    → ((these those : Selection) (rank : ℕ) → one these those rank ≡ two these those rank)
    → runs_by_two n one P Q ⊆ runs_by_two n two P Q
runs_by_two-same n one two P Q same runs may = λ nothing. may (λ left right at also all.
    nothing left right at also
    (runs-along n (one (members left) (members right)) (two (members left) (members right))
    runs (λ rank below. same (members left) (members right) rank) all))

-- ---- results on two lists

module _ (n : ℕ) (left right : List Interval) where
  -- The runs of a set built from the two lists.
  abbrev pub of_both : (Selection → Selection → Selection) → Outcomes
  of_both operation = runs_by_two n operation (just left) (just right)

  -- An operation on streams that give only the two lists gives only the runs of the operation on
  -- the lists.
  pub both-of : (operation : Selection → Selection → Selection) (P Q Given : Outcomes)
      → P ⊆ just left → Q ⊆ just right → Given ⊆ runs_by_two n operation P Q
      → Given ⊆ of_both operation
  both-of operation P Q Given these those given runs at = λ nothing.
      given runs at (λ one other may might all. nothing one other (these one may) (those other might)
      all)

  -- An operation on two such results is an operation on the lists.
  pub two-of_both : (outer one two : Selection → Selection → Selection) (Ones Twos : Outcomes)
      → RespectsTwo n outer → Ones ⊆ of_both one → Twos ⊆ of_both two
      → runs_by_two n outer Ones Twos
      ⊆ of_both (λ these those. outer (one these those) (two these those))
  two-of_both outer one two Ones Twos respects ones twos runs may = λ nothing.
      may (λ first second at also all.
      nothing left right refl refl
      (runs-along n (outer (members first) (members second))
      (outer (one (members left) (members right)) (two (members left) (members right))) runs
      (respects (members first) (one (members left) (members right))
      (members second) (two (members left) (members right))
      (members-runs_by_two n one left right first (ones first at))
      (members-runs_by_two n two left right second (twos second also))) all))

  -- The operation that returns the left set gives the runs of the left list.
  pub left-of_both : of_both (λ these those. these) ⊆ joined_runs n (just left)
  left-of_both runs may = λ nothing. may (λ first second at also all. nothing first at all)

  -- If two results are those of the same operation on the lists, the test whether they are equal is
  -- true.
  pub equal-of_both : (operation : Selection → Selection → Selection) (P Q : Outcomes) (test : Bool)
      → P ⊆ of_both operation → Q ⊆ of_both operation
      → SomeOutcomes P Q (λ one two. IsTrue test ↔ Agree n (members one) (members two))
      → IsTrue test
  equal-of_both operation P Q test ones twos tells = elim (true_or_false test) [
    | inl holds ↦ holds
    | inr fails ↦ absurd (tells (λ one two at also means.
        not_both test (means.1 (λ rank below.
        members-runs_by_two n operation left right one (ones one at) rank below
        ∙ sym (members-runs_by_two n operation left right two (twos two also) rank below))) fails))
  ]

-- ---- laws of sets, rank by rank

-- What both have, with what only the left one has, is what the left one has.
pub parts-join : (left right : Bool) → ((left && right) || (left && not right)) ≡ left
parts-join true true = refl
parts-join true false = refl
parts-join false right = refl

-- What is not in the union is in neither of the two.
pub neither-of : (left right : Bool) → not (left || right) ≡ (not left && not right)
neither-of true right = refl
neither-of false right = refl

-- What the union has and the intersection does not is in exactly one of the two.
pub unshared-alone : (left right : Bool)
    → ((left || right) && not (left && right)) ≡ exclusive_or left right
unshared-alone true true = refl
unshared-alone true false = refl
unshared-alone false true = refl
unshared-alone false false = refl
