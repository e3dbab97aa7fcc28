-- Streams that a call receives as the items of a value that converts into an iterator.
use Rattle.std.specs.Prelude.{List, Option}
use Rattle.std.specs.Iterator.Runs.{EachRunFrom}

-- Whether the fact holds of whatever items the value has given as an iterator. The proof search
-- finds this for an array or a list. An iterator with a closure in it needs a line of proof.
abbrev pub EachGaveRun : {J I X : Type 0} → (J → I → Type 0) → (I → Option X → I → Type 0) → J
    → (List X → Type 0) → Type 0
EachGaveRun {I = I} becomes steps value Fact = (iter : I) → becomes value iter
    → EachRunFrom steps iter (λ run. Fact run.items)
