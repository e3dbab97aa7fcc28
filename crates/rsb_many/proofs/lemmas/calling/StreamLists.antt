-- What callers of operations on a list of streams need: the operation was on the streams of the
-- list.
use Rattle.std.proofs.Common.{List}
use Rattle.std.specs.Vec.Iter.{into_iter_steps}
use Rattle.rsb_streams.specs.Items.{GaveRun}
use Rattle.rsb_many.proofs.lemmas.inputs.GivenList.{given-list}
use Rattle.rsb_many.specs.StreamList.{GivesStreams}

-- If a fact holds of the streams that a list gave, it holds of the streams of the list.
pub given-streams : {I A : Type 0} (can_draw : I → Type 0) (streams : List I) (Fact : List I → Type 0)
    → GaveRun (GivesStreams {I = I} {A = A} can_draw) (into_iter_steps {X = I} {Z = A}) streams Fact
    → Fact streams
given-streams can_draw streams Fact gave =
    given-list streams gave.0 Fact gave.1.items gave.1.runs gave.2
