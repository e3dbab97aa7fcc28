-- The definitions, worked out on small sets of a type of 256 values.
use Rattle.std.proofs.Common.{ℕ, ◌<◌, List, [], ◌∷◌, lit<, lit≤, arith}
use Rattle.std.proofs.lemmas.Bool.Decides.{nat_tests}
use Rattle.std.proofs.lemmas.List.Elements.{All-cons, All-nil}
use Rattle.rsb_integer.specs.Runs.{Interval, covers, members, AreRuns, AllEndBelow, from_to}
use Rattle.rsb_integer.specs.Selection.{complement, union}
use Rattle.rsb_integer.proofs.lemmas.Runs.{runs-from_canonical}

-- If an interval and a list end below 256, so does the list with that interval in front.
abbrev below-cons : (first last : ℕ) (runs : List Interval) → last < 256 → AllEndBelow 256 runs
    → AllEndBelow 256 (from_to first last ∷ runs)
below-cons first last runs ends rest =
    All-cons (λ (run : Interval). run.last < 256) (from_to first last) runs ends rest

-- The empty list ends below 256.
abbrev below-nil : AllEndBelow 256 []
below-nil = All-nil (λ (run : Interval). run.last < 256)

-- {1..=3} with 4..=5 added is {1..=5}, because ranges that touch are one run.
pub touching_ranges_join : AreRuns 256
    (union (members (from_to 1 3 ∷ [])) (covers (from_to 4 5))) (from_to 1 5 ∷ [])
touching_ranges_join = runs-from_canonical 256
    (union (members (from_to 1 3 ∷ [])) (covers (from_to 4 5))) (from_to 1 5 ∷ [])
    (record { starts = lit≤ tt; in_order = lit≤ tt; rest = tt })
    (below-cons 1 5 [] (lit< tt) below-nil)
    (λ rank below. grind (arith, nat_tests))

-- {1..=1} with the reversed range 5..=3 added is unchanged.
pub reversed_adds_nothing : AreRuns 256
    (union (members (from_to 1 1 ∷ [])) (covers (from_to 5 3))) (from_to 1 1 ∷ [])
reversed_adds_nothing = runs-from_canonical 256
    (union (members (from_to 1 1 ∷ [])) (covers (from_to 5 3))) (from_to 1 1 ∷ [])
    (record { starts = lit≤ tt; in_order = lit≤ tt; rest = tt })
    (below-cons 1 1 [] (lit< tt) below-nil)
    (λ rank below. grind (arith, nat_tests))

-- The complement of the empty set is 0..=255.
pub complement_of_nothing : AreRuns 256 (complement (members [])) (from_to 0 255 ∷ [])
complement_of_nothing = runs-from_canonical 256 (complement (members [])) (from_to 0 255 ∷ [])
    (record { starts = lit≤ tt; in_order = lit≤ tt; rest = tt })
    (below-cons 0 255 [] (lit< tt) below-nil)
    (λ rank below. grind (arith, nat_tests))

-- The complement of the universe is empty.
pub complement_of_everything : AreRuns 256 (complement (members (from_to 0 255 ∷ []))) []
complement_of_everything = runs-from_canonical 256 (complement (members (from_to 0 255 ∷ []))) []
    tt below-nil (λ rank below. grind (arith, nat_tests))

-- The gaps of {1..=3, 7..=10} are 0..=0, 4..=6 and 11..=255.
pub gaps_reach_both_ends : AreRuns 256 (complement (members (from_to 1 3 ∷ from_to 7 10 ∷ [])))
    (from_to 0 0 ∷ from_to 4 6 ∷ from_to 11 255 ∷ [])
gaps_reach_both_ends = runs-from_canonical 256
    (complement (members (from_to 1 3 ∷ from_to 7 10 ∷ [])))
    (from_to 0 0 ∷ from_to 4 6 ∷ from_to 11 255 ∷ [])
    (record {
      starts = lit≤ tt;
      in_order = lit≤ tt;
      rest = record {
        starts = lit≤ tt;
        in_order = lit≤ tt;
        rest = record { starts = lit≤ tt; in_order = lit≤ tt; rest = tt };
      };
    })
    (below-cons 0 0 (from_to 4 6 ∷ from_to 11 255 ∷ []) (lit< tt)
    (below-cons 4 6 (from_to 11 255 ∷ []) (lit< tt) (below-cons 11 255 [] (lit< tt) below-nil)))
    (λ rank below. grind (arith, nat_tests))
