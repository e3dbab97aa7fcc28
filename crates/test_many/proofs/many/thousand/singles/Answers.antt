use Rattle.std.proofs.Common.{◌≡◌, ◌∷◌, ◌++◌, List, [], All, subst, sym}
use Rattle.std.proofs.lemmas.List.Elements.{All-push}
use Rattle.rsb_integer.specs.Rank.{intervals_of}
use Rattle.rsb_integer.specs.Runs.{IsCanonicalIn}
use Rattle.test_many.proofs.many.thousand.singles.Goals as goal

-- If a fact holds for all items of a list and for one more item, it holds for all after that item
-- is added.
all-after : {X : Type 0} (can : X → Type 0) (before after : List X) (item : X)
    → after ≡ before ++ item ∷ [] → All can before → can item → All can after
all-after can before after item is all one = subst (All can) (sym is)
    (All-push can before item all one)

-- One more stream is ready.
pub loop-start-preserved : goal.loop-start-preserved
loop-start-preserved g c = all-after
    (λ ranges. IsCanonicalIn g.T.Integer.value_count (intervals_of g.T.Integer.rank ranges))
    c.loop-start.streams.items _ c.new-in-loop-start.result c.in_ok-push.ensures.items
    c.loop-start.invariant c.new-in-loop-start.ensures.ready
