use Rattle.std.proofs.Common.{arith}
use Rattle.std.proofs.lemmas.Nat.{mul-le}
use Rattle.std.specs.Iterator.{size}
use Rattle.range_set_blaze.proofs.iter.IterIterator.size_hint.Goals as goal

-- Each range has at least one element.
pub returns : goal.returns
returns g c =
    let left = size (g.I.Draw.draws_left c.args.self.now.ranges) in
    let some = g.met.T.Integer.some_values in
    let more = mul-le left 1 left g.T.Integer.value_count (omega arith) (omega arith) in
    let counts = g.met.I.SortedStarts.drawn.counts c.args.self.now.ranges in
    let within = rw counts at c.size_hint.ensures.lower in
    record {
      lower = λ finite. rw c.if-self.false (omega (arith, more, within finite));
      upper = tt;
      ranges = rw c.if-self.false within;
    }
