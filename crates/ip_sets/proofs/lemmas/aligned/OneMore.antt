-- A maximal block that comes before the maximal blocks of the rest of a set.
use Rattle.std.proofs.Common.{◌≡◌, ◌⊎◌, ℕ, ◌+◌, ◌<◌, ◌≤◌, List, [], ◌∷◌, get_or, refl, sym, ◌∙◌, inl, inr, arith}
use Rattle.std.proofs.lemmas.Bool.{cases_lt}
use Rattle.std.proofs.lemmas.List.Elements.{All-cons, All-head, All-nil}
use Rattle.std.specs.List.{All}
use Rattle.std.specs.Prelude.{IsFalse, IsTrue}
use Rattle.rsb_integer.proofs.lemmas.List.{not_both, true_or_false}
use Rattle.range_set_blaze.specs.Runs.{Interval, members}
use Rattle.range_set_blaze.specs.Selection.{Selection}
use Rattle.range_set_blaze.proofs.MembersLemmas.{covers-bounds, covers-cases, covers-inside, members-head, members-tail}
use Rattle.ip_sets.specs.Blocks.{AreMaximalBlocks, Ascends, AscendsFrom, IsInside, IsMaximalBlock}
use Rattle.ip_sets.proofs.lemmas.aligned.Meeting.{block-ordered}

-- An empty set has no blocks.
pub no-blocks : AreMaximalBlocks (members []) []
no-blocks = record {
  ascending = tt;
  maximal = All-nil (IsMaximalBlock (members []));
  exact = λ rank. refl;
}

-- Whether the block has the least ranks of the set, and `rest` is the set past the block.
pub record IsPast (selected : Selection) (block : Interval) (rest : Selection) : Type 0 where
  pub least : (rank : ℕ) → IsTrue (selected rank) → block.first ≤ rank
  pub gone : (rank : ℕ) → rank ≤ block.last → IsFalse (rest rank)
  pub same : (rank : ℕ) → block.last < rank → rest rank ≡ selected rank

module _ (selected rest : Selection) (block : Interval) (is : IsMaximalBlock selected block)
    (past : IsPast selected block rest) where
  -- The ranks of the rest are past the block.
  rest-past : (rank : ℕ) → IsTrue (rest rank) → block.last < rank
  rest-past rank at = elim (cases_lt block.last rank) [
    | inl later ↦ later
    | inr most ↦ absurd (not_both (rest rank) at (past.gone rank most))
  ]

  -- The blocks of the rest ascend from past the block.
  ascends-past : (blocks : List Interval) → Ascends blocks → All (IsMaximalBlock rest) blocks
      → AscendsFrom (block.last + 1) blocks
  ascends-past [] ascending maximal = tt
  ascends-past (next ∷ blocks) ascending maximal =
      let first = All-head (IsMaximalBlock rest) next blocks maximal in
      let ordered = ascending.1 in
      let here = covers-inside next next.first (omega arith) ordered in
      let later = rest-past next.first (first.inside next.first here) in
      (omega (arith, later), ordered, ascending.2)

  -- A maximal block of the rest is one of the whole set: a block that meets it has no rank in
  -- common with the first block, which would contain it.
  still-maximal : (next : Interval) → IsMaximalBlock rest next → IsMaximalBlock selected next
  still-maximal next of_rest = record {
    is_block = of_rest.is_block;
    inside = λ rank at.
        let in_rest = of_rest.inside rank at in
        sym (past.same rank (rest-past rank in_rest)) ∙ in_rest;
    maximal = λ other rank other_is inside at here.
        let later = rest-past rank (of_rest.inside rank here) in
        let end = (covers-bounds other rank at).1 in
        let inside_rest : IsInside rest other = λ each covered.
        elim (cases_lt block.last each) [
          | inl beyond ↦ past.same each beyond ∙ inside each covered
          | inr most ↦
              let from = past.least each (inside each covered) in
              let within = is.maximal other each other_is inside covered
              (covers-inside block each from most) in
              absurd (omega (arith, later, end, within.1))
        ] in
        of_rest.maximal other rank other_is inside_rest at here;
  }

  -- Before the block, there is nothing in the set, nor in the rest.
  none-before : (rank : ℕ) → rank < block.first → rest rank ≡ selected rank
  none-before rank before =
      let ordered = block-ordered block is.is_block in
      let gone = past.gone rank (omega (arith, before, ordered)) in
      elim (true_or_false (selected rank)) [
        | inl at ↦ let from = past.least rank at in absurd (omega (arith, before, from))
        | inr none ↦ gone ∙ sym none
      ]

  -- Outside the block, the rest is the set.
  same-outside : (rank : ℕ) → (rank < block.first) ⊎ (block.last < rank)
      → rest rank ≡ selected rank
  same-outside rank (inl before) = none-before rank before
  same-outside rank (inr beyond) = past.same rank beyond

  -- The block and the maximal blocks of the rest have exactly the ranks of the set.
  exact-past : (blocks : List Interval) → ((rank : ℕ) → members blocks rank ≡ rest rank)
      → (rank : ℕ) → members (block ∷ blocks) rank ≡ selected rank
  exact-past blocks exact rank = elim (covers-cases block rank) [
    | inl inside ↦
        members-head block blocks rank inside.0 inside.1 ∙ sym (is.inside rank inside.2)
    | inr outside ↦
        members-tail block blocks rank outside.0 ∙ exact rank ∙ same-outside rank outside.0
  ]

  -- So they are the maximal blocks of the set.
  pub one-more : (blocks : List Interval) → AreMaximalBlocks rest blocks
      → AreMaximalBlocks selected (block ∷ blocks)
  one-more blocks are = record {
    ascending = (
      omega arith,
      block-ordered block is.is_block,
      ascends-past blocks are.ascending are.maximal,
    );
    maximal = All-cons (IsMaximalBlock selected) block blocks is (λ place default within.
        still-maximal (get_or blocks place default) (are.maximal place default within));
    exact = exact-past blocks are.exact;
  }
