-- The iterator that a list of streams converts into.
use Rattle.std.specs.Iterator.Runs.{EveryRun, ItemsAre}
use Rattle.std.specs.Prelude.{◌≡◌, List, All}
use Rattle.std.specs.Vec.Iter.{into_iter_items, into_iter_steps}
use Rattle.std.specs.declared.vec.IntoIter.{IntoIter}

-- Whether the iterator gives these streams in order, and each of them is ready.
pub record GivesStreams {I A : Type 0} (can_draw : I → Type 0) (streams : List I) (iter : IntoIter I A)
    : Type 0 where
  pub items : into_iter_items iter ≡ streams
  pub ready : All can_draw streams
  pub runs : EveryRun (into_iter_steps {X = I} {Z = A}) (λ run. ItemsAre run (into_iter_items run.from))
