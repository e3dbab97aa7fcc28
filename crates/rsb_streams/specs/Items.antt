-- Values that convert into iterators, described by the items that calls to the iterators return.
use Rattle.std.specs.Prelude.{List, Option}
use Rattle.std.specs.Iterator.{Count, Drains, IsFinite}
use Rattle.std.specs.Iterator.Runs.{WholeRun}

-- Whether every iterator that the value converts into may be called, and ends.
abbrev pub IsEnding : {J I : Type 0} → (J → I → Type 0) → (I → Type 0) → (I → Count) → J → Type 0
IsEnding {I = I} becomes can_next remaining value = (iter : I) → becomes value iter
    → can_next iter × IsFinite (remaining iter)

-- Whether the fact holds of all items that the value gave as an iterator.
abbrev pub GaveAll : {J I X : Type 0} → (J → I → Type 0) → (I → Option X → I → Type 0) → J
    → (List X → Type 0) → Type 0
GaveAll {I = I} {X} becomes steps value Fact = (iter : I) × (items : List X) × becomes value iter
    × Drains steps iter items × Fact items

-- The same, stated with `WholeRun`. In this form, a proof search finds what a caller knows about a
-- list or slice that it passed.
abbrev pub GaveRun : {J I X : Type 0} → (J → I → Type 0) → (I → Option X → I → Type 0) → J
    → (List X → Type 0) → Type 0
GaveRun {I = I} becomes steps value Fact = (iter : I) × becomes value iter
    × WholeRun steps iter (λ run. Fact run.items)
