-- A list that is passed as an iterator gives all of its items.
use Rattle.std.proofs.Common.{◌≡◌, rules, All, List, ◌∙◌, ap, subst}
use Rattle.std.specs.Iterator.{YieldsFirst, item_count}
use Rattle.std.specs.Iterator.Runs.{EachRunFrom, EveryRun, ItemsAre, Run, WholeRun}
use Rattle.std.specs.Prelude.{Option}
use Rattle.std.specs.Vec.Iter.{into_iter_items, into_iter_steps}
use Rattle.std.specs.declared.ops.RangeInclusive.{RangeInclusive}
use Rattle.std.specs.declared.vec.IntoIter.{IntoIter}
use Rattle.rsb_integer.specs.Rank.{intervals_of}
use Rattle.rsb_integer.specs.Runs.{IsCanonicalIn}
use Rattle.rsb_integer.specs.declared.integer.Integer.{Ghosts as Elements}
use Rattle.rsb_streams.specs.Listed.{listed_may_give}
use Rattle.rsb_streams.specs.declared.draw.Draw.{Ghosts as Stream}

-- Ranges that were taken, as a stream.
abbrev pub taken_stream : {T N : Type 0} → Elements T N → Stream (List (RangeInclusive T)) T N
taken_stream integer = record {
  can_draw = λ s. IsCanonicalIn integer.value_count (intervals_of integer.rank s);
  draw_gives = YieldsFirst (λ s. s);
  draws_left = item_count (λ s. s);
  may_give = listed_may_give integer.rank (λ s. s);
}

module _ {S X : Type 0} (steps : S → Option X → S → Type 0) (items_of : S → List X) where
  -- If an iterator shows its remaining items, a whole run of it gives all of them.
  pub whole-items : (items : List X) (iter : S) (Fact : Run steps → Type 0) → items_of iter ≡ items
      → EveryRun steps (λ run. ItemsAre run (items_of run.from))
      → (whole : WholeRun steps iter Fact) → whole.0.items ≡ items
  whole-items items iter Fact is runs whole =
      (runs whole.0 whole.0.seen).4 whole.2 ∙ ap items_of whole.1 ∙ is

module _ {X Z : Type 0} where
  -- A fact about all that an iterator gave holds of the list that it was built from.
  pub given-list : (items : List X) (iter : IntoIter X Z) (Fact : List X → Type 0)
      → into_iter_items iter ≡ items
      → EveryRun (into_iter_steps {X = X} {Z = Z}) (λ run. ItemsAre run (into_iter_items run.from))
      → WholeRun (into_iter_steps {X = X} {Z = Z}) iter (λ run. Fact run.items) → Fact items
  given-list items iter Fact is runs whole = subst Fact
      (whole-items (into_iter_steps {X = X} {Z = Z}) (λ from. into_iter_items from) items iter
      (λ run. Fact run.items) is runs whole) whole.3

  -- If a fact holds of each item of the list, it holds of each item that the iterator gives.
  pub given-each : (P : X → Type 0) (items : List X) (iter : IntoIter X Z) → All P items
      → into_iter_items iter ≡ items
      → EveryRun (into_iter_steps {X = X} {Z = Z}) (λ run. ItemsAre run (into_iter_items run.from))
      → EachRunFrom (into_iter_steps {X = X} {Z = Z}) iter (λ run. All P run.items)
  given-each P items iter all is runs = search rules
