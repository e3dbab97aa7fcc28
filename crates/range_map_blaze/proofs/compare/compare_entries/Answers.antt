use Rattle.std.proofs.Common.{◌≤◌, arith, refl}
use Rattle.std.proofs.lemmas.Bool.Decides.{nat_tests}
use Rattle.range_map_blaze.specs.Storage.{pieces_of}
use Rattle.range_map_blaze.proofs.lemmas.Comparing.{equal-left, fewer-left, greater-left, heads-left, less-left, past-left}
use Rattle.range_map_blaze.proofs.compare.compare_entries.Goals as goal

-- At first both maps are left.
pub loop-piece-init : goal.loop-piece-init
loop-piece-init g c =
    let rank = g.T.Integer.rank in
    let seen = g.V.MapValue.seen in
    record {
      whole = pieces_of rank seen c.args.left;
      counterpart = pieces_of rank seen c.args.right;
      starts = c.next_piece-piece.ensures;
      also = c.next_piece-other.ensures;
      one = c.requires.left;
      two = c.requires.right;
      same = refl;
    }

-- If only the right map has ended, the left one is greater.
pub returns-in_default-other : goal.returns-in_default-other
returns-in_default-other g c =
    let rank = g.T.Integer.rank in
    let seen = g.V.MapValue.seen in
    greater-left rank seen c.in-Some.mine (pieces_of rank seen c.loop-piece.left) (pieces_of rank seen c.loop-piece.right)
    (rw (c.in-Some.is, c.in_default-other.is) at c.loop-piece.invariant)

-- If only the left map has ended, it is less.
pub returns-in-Some-other-2 : goal.returns-in-Some-other-2
returns-in-Some-other-2 g c =
    let rank = g.T.Integer.rank in
    let seen = g.V.MapValue.seen in
    less-left rank seen (pieces_of rank seen c.loop-piece.left) c.in-Some-other-2.field-0 (pieces_of rank seen c.loop-piece.right)
    (rw (c.in_default.is, c.in-Some-other-2.is) at c.loop-piece.invariant)

-- If both have ended, they are equal.
pub returns-in-None : goal.returns-in-None
returns-in-None g c =
    let rank = g.T.Integer.rank in
    let seen = g.V.MapValue.seen in
    equal-left rank seen (pieces_of rank seen c.loop-piece.left) (pieces_of rank seen c.loop-piece.right)
    (rw (c.in_default.is, c.in-None.is) at c.loop-piece.invariant)

-- Heads that differ decide.
pub returns-then-is_ne : goal.returns-then-is_ne
returns-then-is_ne g c =
    heads-left g.T.Integer.rank g.V.MapValue.seen (rw (c.in-Some.is, c.in-Some-other.is) at c.loop-piece.invariant)
    c.order_of_heads-heads.ensures c.if-is_ne.ensures

-- Otherwise, the parts past the end of the shorter first piece have the order.
pub loop-piece-preserved : goal.loop-piece-preserved
loop-piece-preserved g c =
    let rank = g.T.Integer.rank in
    let seen = g.V.MapValue.seen in
    let end = rank c.lesser-end.result in
    let least = c.lesser-end.ensures in
    let within : end ≤ rank c.in-Some.mine.run.end = grind (arith, nat_tests, least) in
    let inside : end ≤ rank c.in-Some-other.theirs.run.end = grind (arith, nat_tests, least) in
    past-left rank seen (rw (c.in-Some.is, c.in-Some-other.is) at c.loop-piece.invariant) c.order_of_heads-heads.ensures c.if-is_ne.ensures end
    c.past-piece.result (pieces_of rank seen c.past-piece.new.rest) c.past-other.result
    (pieces_of rank seen c.past-other.new.rest) within inside c.past-piece.ensures c.past-other.ensures

-- They have fewer pieces.
pub loop-piece-smaller : goal.loop-piece-smaller
loop-piece-smaller g c =
    let rank = g.T.Integer.rank in
    let seen = g.V.MapValue.seen in
    rw (c.in-Some.is, c.in-Some-other.is)
    (fewer-left rank seen (rw (c.in-Some.is, c.in-Some-other.is) at c.loop-piece.invariant) c.order_of_heads-heads.ensures c.if-is_ne.ensures
    (rank c.lesser-end.result) c.past-piece.result (pieces_of rank seen c.past-piece.new.rest)
    c.past-other.result (pieces_of rank seen c.past-other.new.rest) c.lesser-end.ensures
    c.past-piece.ensures c.past-other.ensures)
