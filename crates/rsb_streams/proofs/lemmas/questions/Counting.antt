-- The iterations of a loop that counts the members of a stream.
use Rattle.std.proofs.Common.{◌≡◌, ℕ, ◌+◌, ◌≤◌, List, [], ◌∷◌, ◌++◌, ◌∙◌, append_assoc, append-nil, sym, subst, arith}
use Rattle.std.proofs.lemmas.List.Sums.{sum_by-append}
use Rattle.std.specs.List.{sum_by}
use Rattle.rsb_integer.specs.Runs.{Interval, length_of, members, IsCanonicalIn}
use Rattle.rsb_integer.specs.Selection.{count}
use Rattle.rsb_integer.proofs.lemmas.Canonical.{canonical-front, canonical-parts}
use Rattle.rsb_integer.proofs.lemmas.Count.{count-members, count-within}
use Rattle.rsb_streams.specs.laws.Stream.{settled_canonical_in}
use Rattle.rsb_streams.specs.Stream.{Outcomes, ◌⊆◌, HasOutcome}

-- What holds before each iteration: the ranges drawn so far, followed by what may come now, might
-- come at first. Their members were counted.
pub record CountedSoFar (first now : Outcomes) (counted : ℕ) : Type 0 where
  pub drawn : List Interval
  pub given : (rest : List Interval) → now rest → first (drawn ++ rest)
  pub number : counted ≡ sum_by length_of drawn

-- A draw returned the run.
module _ (n : ℕ) (first before after : Outcomes) (canonical : first ⊆ IsCanonicalIn n)
    (counted : ℕ) (so_far : CountedSoFar first before counted) (run : Interval)
    (answers : (rest : List Interval) → after rest → before (run ∷ rest))
    (some : HasOutcome after) where
  -- What was drawn so far and the run are canonical.
  drawn-canonical : IsCanonicalIn n (so_far.drawn ++ run ∷ [])
  drawn-canonical = settled_canonical_in n (so_far.drawn ++ run ∷ []) (λ fails. some (λ rest may.
      fails (canonical-front n (so_far.drawn ++ run ∷ []) rest
      (subst (IsCanonicalIn n) (sym (append_assoc so_far.drawn (run ∷ []) rest))
      (canonical (so_far.drawn ++ run ∷ rest)
      (so_far.given (run ∷ rest) (answers rest may)))))))

  -- So the run is in order.
  pub counted-ordered : run.first ≤ run.last
  counted-ordered = (canonical-parts 0 so_far.drawn (run ∷ []) drawn-canonical.apart).1.in_order

  -- The members counted so far and those of the run are at most n.
  pub counted-within : counted + length_of run ≤ n
  counted-within =
      let list = so_far.drawn ++ run ∷ [] in
      let total = count-members n 0 list drawn-canonical.apart drawn-canonical.within in
      let most = count-within n (members list) in
      let sum = sum_by-append length_of so_far.drawn (run ∷ []) in
      let number = so_far.number in
      omega (arith, total, most, sum, number)

  -- The number counted is then the old one and that of the run.
  pub counted-more : (more : ℕ) → more ≡ counted + length_of run → CountedSoFar first after more
  counted-more more is =
      let sum = sum_by-append length_of so_far.drawn (run ∷ []) in
      let number = so_far.number in
      record {
        drawn = so_far.drawn ++ run ∷ [];
        given = λ rest may.
            rw (append_assoc so_far.drawn (run ∷ []) rest)
            (so_far.given (run ∷ rest) (answers rest may));
        number = omega (arith, is, sum, number);
      }

-- If nothing more comes, what was drawn is a list that might come, and all of its members are
-- counted.
pub counted-all : (n : ℕ) (first now : Outcomes) → first ⊆ IsCanonicalIn n → (counted : ℕ)
    → CountedSoFar first now counted → now []
    → (runs : List Interval) × first runs × (counted ≡ count n (members runs))
counted-all n first now canonical counted so_far last =
    let may = subst first (append-nil so_far.drawn) (so_far.given [] last) in
    let lawful = canonical so_far.drawn may in
    (so_far.drawn, may, so_far.number ∙ sym (count-members n 0 so_far.drawn lawful.apart lawful.within))
