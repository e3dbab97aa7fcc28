-- The ranks in at least k of many sets.
use Rattle.std.proofs.Common.{◌≡◌, ℕ, suc, Bool, true, false, ◌&&◌, ◌||◌, cond, ◌+◌, ◌≤◌, nat_le, List, [], ◌∷◌, length, refl, ap, ◌∙◌, arith}
use Rattle.std.proofs.lemmas.Bool.Decides.{nat_tests}
use Rattle.rsb_integer.specs.Selection.{Selection, all_of, any_of, at_least, how_many}

-- Adding 0 does not change a number.
none-more : (many : ℕ) → 0 + many ≡ many
none-more many = omega arith

-- With one more set, at least one contains a rank if and only if that set or one of the others
-- does.
some-more : (here : Bool) (many : ℕ) (others : Bool) → nat_le 1 many ≡ others
    → nat_le 1 (cond here 1 0 + many) ≡ (here || others)
some-more true many others is = grind (arith, nat_tests)
some-more false many others is = ap (nat_le 1) (none-more many) ∙ is

-- The ranks in at least 1 of the sets are those in any of them.
pub at_least-one : (sets : List Selection) (rank : ℕ) → at_least 1 sets rank ≡ any_of sets rank
at_least-one [] rank = refl
at_least-one (set ∷ sets) rank =
    some-more (set rank) (how_many sets rank) (any_of sets rank) (at_least-one sets rank)

-- One more set adds at most 1.
one-most : (here : Bool) (many count : ℕ) → many ≤ count → cond here 1 0 + many ≤ suc count
one-most true many count most = omega (arith, most)
one-most false many count most = omega (arith, most)

-- At most as many sets contain a rank as there are sets.
pub how_many-most : (sets : List Selection) (rank : ℕ) → how_many sets rank ≤ length sets
how_many-most [] rank = omega arith
how_many-most (set ∷ sets) rank =
    one-most (set rank) (how_many sets rank) (length sets) (how_many-most sets rank)

-- Adding 1 to both sides does not change a comparison.
both-more : (count many : ℕ) → nat_le (suc count) (1 + many) ≡ nat_le count many
both-more count many = grind (arith, nat_tests)

-- With one more set, all sets contain a rank if and only if that set and all others do.
all-more : (here : Bool) (count many : ℕ) (others : Bool) → many ≤ count
    → nat_le count many ≡ others → nat_le (suc count) (cond here 1 0 + many) ≡ (here && others)
all-more true count many others most is = both-more count many ∙ is
all-more false count many others most is = grind (arith, nat_tests)

-- If k is the number of sets, the ranks in at least k of them are those in all of them.
pub at_least-all : (sets : List Selection) (rank : ℕ)
    → at_least (length sets) sets rank ≡ all_of sets rank
at_least-all [] rank = refl
at_least-all (set ∷ sets) rank =
    all-more (set rank) (length sets) (how_many sets rank) (all_of sets rank)
    (how_many-most sets rank) (at_least-all sets rank)

-- A rank in at least k + 1 of the sets is in at least k of them.
pub at_least-falls : (k : ℕ) (sets : List Selection) (rank : ℕ)
    → at_least (k + 1) sets rank ≡ true → at_least k sets rank ≡ true
at_least-falls k sets rank more = grind (arith, nat_tests)
