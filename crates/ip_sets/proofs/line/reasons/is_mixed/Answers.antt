use Rattle.std.proofs.Common.{◌≡◌, ◌∙◌, ◌↔◌, ◌⊎◌, inl, inr, ℕ, Bool, false, List, IsTrue, sym}
use Rattle.std.proofs.lemmas.Bool.{false≢true}
use Rattle.ip_sets.specs.Address.{IsV4, IsV6}
use Rattle.ip_sets.specs.Reason.{IsEnd}
use Rattle.ip_sets.proofs.line.reasons.is_mixed.Goals as goal

-- Of two facts, one does not hold, and the other was tested.
other_one : (First Second : List ℕ → List ℕ → Type 0) (a b first last : List ℕ) (one other : Bool)
    → a ≡ first → b ≡ last → one ≡ false → (IsTrue one ↔ First a b) → (IsTrue other ↔ Second a b)
    → IsTrue other ↔ (First first last ⊎ Second first last)
other_one First Second a b first last one other at_first at_last none h k =
    rw (sym at_first) (rw (sym at_last) (λ is. inr (k.0 is), back))
  where
    back : First a b ⊎ Second a b → IsTrue other
    back (inl is) = absurd (false≢true (sym none ∙ h.1 is))
    back (inr is) = k.1 is

pub returns-else-are_ends : goal.returns-else-are_ends
returns-else-are_ends c = other_one (λ first last. IsEnd 32 IsV4 first × IsEnd 128 IsV6 last)
    (λ first last. IsEnd 128 IsV6 first × IsEnd 32 IsV4 last) c.trimmed-first.result.now
    c.trimmed-last.result.now _ _ c.are_ends.result c.are_ends-else-are_ends.result
    c.trimmed-first.ensures c.trimmed-last.ensures c.if-are_ends.false c.are_ends.ensures
    c.are_ends-else-are_ends.ensures
