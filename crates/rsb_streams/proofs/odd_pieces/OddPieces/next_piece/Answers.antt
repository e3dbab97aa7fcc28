use Rattle.std.proofs.Common.{◌<◌, ap, arith, refl}
use Rattle.std.specs.Iterator.{size}
use Rattle.std.specs.Prelude.{Some, None}
use Rattle.rsb_integer.specs.Room.{fits_memory}
use Rattle.rsb_streams.specs.OddPieces.{first_end, with_pending}
use Rattle.rsb_streams.proofs.lemmas.checking.Comparisons.{IsRanked}
use Rattle.rsb_streams.proofs.lemmas.odd.Drawn.{drawn-none}
use Rattle.rsb_streams.proofs.lemmas.odd.Ends.{last-answers, last-goes, rests}
use Rattle.rsb_streams.proofs.lemmas.odd.States.{passed-by, popped-end, popped-left, pushed-none, pushed-some, removed-first}
use Rattle.rsb_streams.proofs.lemmas.odd.OneMore.{apart-answers, apart-goes, both-values, drawn-begins, drawn-passed, gap-answers, gap-goes, next-above, so-begins, so-passed}
use Rattle.rsb_streams.proofs.lemmas.sources.Known.{IsLawful}
use Rattle.rsb_streams.proofs.odd_pieces.OddPieces.next_piece.Given.{Over}
use Rattle.rsb_streams.proofs.odd_pieces.OddPieces.next_piece.Goals as goal
use Rattle.rsb_streams.proofs.odd_pieces.OddPieces.next_piece.Goals.{In-Some}

laws : (g : Over) → IsLawful g.T.Integer g.I.Draw
laws g = record { answers = g.met.I.Draw.answers; sorted = g.met.I.Draw.sorted }

ranked : (g : Over) → IsRanked g.T.Integer.rank g.T.Integer.value_count g.T.PartialOrd.partial_cmp
    g.T.Ord.cmp
ranked g = record { matches = g.met.T.Ord.matches_partial_cmp; in_order = g.met.T.Integer.in_order }

-- At the entry, nothing was drawn.
pub loop-range-init : goal.loop-range-init
loop-range-init g c = record {
  one = c.requires.one;
  so = record {
    undone = c.requires.undone;
    going = c.requires.ready c.requires.undone;
    same = λ pieces at. at;
    nearer = omega arith;
  };
  drew = drawn-none g.T.Integer g.I.Draw (with_pending c.args.self.now c.args.ends.now.items)
      c.requires.undone;
}

-- Fewer ranges are left to draw.
nearer : (g : Over) (c : In-Some g) → size (g.I.Draw.draws_left c.draw.new.self)
    < size (g.I.Draw.draws_left c.loop-range.self.iter)
nearer g c =
    let ends = ((laws g).sorted c.loop-range.self.iter c.loop-range.invariant.so.going.callable).ends in
    (c.in-Some.ensures.goes.on ends).2

pub loop-range-smaller-in_default-pending : goal.loop-range-smaller-in_default-pending
loop-range-smaller-in_default-pending g c = nearer g (goal.at.loop-range-smaller-in_default-pending g c).In-Some

pub loop-range-smaller : goal.loop-range-smaller
loop-range-smaller g c = nearer g (goal.at.loop-range-smaller g c).In-Some

-- A range begins, and none is pending.
pub loop-range-preserved-in_default-pending : goal.loop-range-preserved-in_default-pending
loop-range-preserved-in_default-pending g c =
    let ends = pushed-none c.loop-range.ends.items c.loop-range.invariant.one c.push.new.self.items
    c.into_inner-next.result.1 c.in_default-pending.ensures c.push.ensures.items in
    record {
      one = rw ends refl;
      so = rw ends (so-begins g.T.Integer g.I.Draw (laws g)
          (ranked g) (with_pending c.args.self.now c.args.ends.now.items)
          (with_pending c.loop-range.self c.loop-range.ends.items)
          c.draw.new.self c.into_inner-next.result.0 c.into_inner-next.result.1 c.in-Some.range
          c.loop-range.invariant.so c.in-Some.ensures.steps c.in-Some.ensures.goes
          c.into_inner-next.ensures.start c.into_inner-next.ensures.end c.in_default-pending.ensures);
      drew = rw ends (drawn-begins g.T.Integer g.I.Draw (laws g)
          (ranked g) (with_pending c.args.self.now c.args.ends.now.items)
          (with_pending c.loop-range.self c.loop-range.ends.items)
          c.draw.new.self c.into_inner-next.result.0 c.into_inner-next.result.1 c.in-Some.range
          c.loop-range.invariant.so c.in-Some.ensures.steps c.in-Some.ensures.goes
          c.into_inner-next.ensures.start c.into_inner-next.ensures.end c.loop-range.invariant.drew
          c.in_default-pending.ensures);
    }

-- A range is pending, and the next one starts past it.
pub returns-then-lt-clause-steps : goal.returns-then-lt-clause-steps
returns-then-lt-clause-steps g c =
    let left = removed-first c.loop-range.ends.items c.loop-range.invariant.one
    c.push.new.self.items c.remove.new.self.items c.in-Some-pending.end
    c.into_inner-next.result.1 c.in-Some-pending.ensures c.push.ensures.items
    c.remove.ensures.items in
    rw left (apart-answers g.T.Integer g.I.Draw (laws g)
    (ranked g) (with_pending c.args.self.now c.args.ends.now.items)
    (with_pending c.loop-range.self c.loop-range.ends.items)
    c.draw.new.self c.into_inner-next.result.0 c.into_inner-next.result.1 c.in-Some.range
    c.loop-range.invariant.so c.in-Some.ensures.steps c.in-Some.ensures.goes
    c.into_inner-next.ensures.start c.into_inner-next.ensures.end c.in-Some-pending.end
    c.in-Some-pending.ensures c.loop-range.invariant.drew c.if-lt.ensures c.new.result
    c.new.ensures.exhausted c.new.ensures.start c.new.ensures.end)

pub returns-then-lt-clause-goes : goal.returns-then-lt-clause-goes
returns-then-lt-clause-goes g c =
    let left = removed-first c.loop-range.ends.items c.loop-range.invariant.one
    c.push.new.self.items c.remove.new.self.items c.in-Some-pending.end
    c.into_inner-next.result.1 c.in-Some-pending.ensures c.push.ensures.items
    c.remove.ensures.items in
    rw left (apart-goes g.T.Integer g.I.Draw (laws g)
    (ranked g) (with_pending c.args.self.now c.args.ends.now.items)
    (with_pending c.loop-range.self c.loop-range.ends.items)
    c.draw.new.self c.into_inner-next.result.0 c.into_inner-next.result.1 c.in-Some.range
    c.loop-range.invariant.so c.in-Some.ensures.steps c.in-Some.ensures.goes
    c.into_inner-next.ensures.start c.into_inner-next.ensures.end c.in-Some-pending.end
    c.in-Some-pending.ensures c.new.result)

-- Both ranges have begun, and their ends are values of the type.
pub pass_lesser-requires : goal.pass_lesser-requires
pass_lesser-requires g c =
    let values = both-values g.T.Integer g.I.Draw (laws g)
    (ranked g) (with_pending c.args.self.now c.args.ends.now.items)
    (with_pending c.loop-range.self c.loop-range.ends.items)
    c.draw.new.self c.into_inner-next.result.0 c.into_inner-next.result.1 c.in-Some.range
    c.loop-range.invariant.so c.in-Some.ensures.steps c.in-Some.ensures.goes
    c.into_inner-next.ensures.start c.into_inner-next.ensures.end c.in-Some-pending.end
    c.in-Some-pending.ensures in (
      fits_memory _ (g.met.T.Integer.two_ends_fit c.into_inner-next.result.0),
      (
        values.1,
        (
          values.3,
          pushed-some c.loop-range.ends.items c.loop-range.invariant.one
              c.push.new.self.items c.in-Some-pending.end c.into_inner-next.result.1
              c.in-Some-pending.ensures c.push.ensures.items,
        ),
      ),
    )

-- The draw returns what is before the second range.
pub sub_one-requires : goal.sub_one-requires
sub_one-requires g c =
    next-above g.T.Integer g.I.Draw (laws g)
    (ranked g) (with_pending c.args.self.now c.args.ends.now.items)
    (with_pending c.loop-range.self c.loop-range.ends.items)
    c.draw.new.self c.into_inner-next.result.0 c.into_inner-next.result.1 c.in-Some.range
    c.loop-range.invariant.so c.in-Some.ensures.steps c.in-Some.ensures.goes
    c.into_inner-next.ensures.start c.into_inner-next.ensures.end c.in-Some-pending.end
    c.in-Some-pending.ensures c.if-lt-2.ensures

pub returns-then-lt-2-clause-steps : goal.returns-then-lt-2-clause-steps
returns-then-lt-2-clause-steps g c =
    let passed = passed-by g.T.Integer.rank c.draw.new.self c.in-Some-pending.end
    c.into_inner-next.result.1 c.pass_lesser.new.start c.loop-range.self.done
    (first_end c.pass_lesser.new.ends.items) c.loop-range.invariant.so.undone
    c.pass_lesser.ensures.passed in
    gap-answers g.T.Integer g.I.Draw (laws g)
    (ranked g) (with_pending c.args.self.now c.args.ends.now.items)
    (with_pending c.loop-range.self c.loop-range.ends.items)
    c.draw.new.self c.into_inner-next.result.0 c.into_inner-next.result.1 c.in-Some.range
    c.loop-range.invariant.so c.in-Some.ensures.steps c.in-Some.ensures.goes
    c.into_inner-next.ensures.start c.into_inner-next.ensures.end c.in-Some-pending.end
    c.in-Some-pending.ensures c.if-lt.ensures _ passed c.loop-range.invariant.drew
    c.if-lt-2.ensures c.sub_one.result c.new-then-lt-2.result
    c.sub_one.ensures c.new-then-lt-2.ensures.exhausted c.new-then-lt-2.ensures.start
    c.new-then-lt-2.ensures.end

pub returns-then-lt-2-clause-goes : goal.returns-then-lt-2-clause-goes
returns-then-lt-2-clause-goes g c =
    let passed = passed-by g.T.Integer.rank c.draw.new.self c.in-Some-pending.end
    c.into_inner-next.result.1 c.pass_lesser.new.start c.loop-range.self.done
    (first_end c.pass_lesser.new.ends.items) c.loop-range.invariant.so.undone
    c.pass_lesser.ensures.passed in
    gap-goes g.T.Integer g.I.Draw (laws g)
    (ranked g) (with_pending c.args.self.now c.args.ends.now.items)
    (with_pending c.loop-range.self c.loop-range.ends.items)
    c.draw.new.self c.into_inner-next.result.0 c.into_inner-next.result.1 c.in-Some.range
    c.loop-range.invariant.so c.in-Some.ensures.steps c.in-Some.ensures.goes
    c.into_inner-next.ensures.start c.into_inner-next.ensures.end c.in-Some-pending.end
    c.in-Some-pending.ensures c.if-lt.ensures _ passed c.new-then-lt-2.result

-- Nothing is before the second range.
pub loop-range-preserved : goal.loop-range-preserved
loop-range-preserved g c =
    let passed = passed-by g.T.Integer.rank c.draw.new.self c.in-Some-pending.end
    c.into_inner-next.result.1 c.pass_lesser.new.start c.loop-range.self.done
    (first_end c.pass_lesser.new.ends.items) c.loop-range.invariant.so.undone
    c.pass_lesser.ensures.passed in
    record {
      one = c.pass_lesser.ensures.one;
      so = so-passed g.T.Integer g.I.Draw (laws g)
          (ranked g) (with_pending c.args.self.now c.args.ends.now.items)
          (with_pending c.loop-range.self c.loop-range.ends.items)
          c.draw.new.self c.into_inner-next.result.0 c.into_inner-next.result.1 c.in-Some.range
          c.loop-range.invariant.so c.in-Some.ensures.steps c.in-Some.ensures.goes
          c.into_inner-next.ensures.start c.into_inner-next.ensures.end c.in-Some-pending.end
          c.in-Some-pending.ensures c.if-lt.ensures _ passed c.if-lt-2.ensures;
      drew = drawn-passed g.T.Integer g.I.Draw (laws g)
          (ranked g) (with_pending c.args.self.now c.args.ends.now.items)
          (with_pending c.loop-range.self c.loop-range.ends.items)
          c.draw.new.self c.into_inner-next.result.0 c.into_inner-next.result.1 c.in-Some.range
          c.loop-range.invariant.so c.in-Some.ensures.steps c.in-Some.ensures.goes
          c.into_inner-next.ensures.start c.into_inner-next.ensures.end c.in-Some-pending.end
          c.in-Some-pending.ensures c.if-lt.ensures _ passed c.loop-range.invariant.drew
          c.if-lt-2.ensures;
    }

-- At the end, no range is pending, and nothing more comes.
pub returns-in_err-end-clause-steps : goal.returns-in_err-end-clause-steps
returns-in_err-end-clause-steps g c =
    let none = popped-end c.loop-range.ends.items c.loop-range.invariant.one c.pop.result None
    c.pop.ensures.value c.in_err-end.ensures in
    rw c.from_residual.ensures (rests g.T.Integer g.I.Draw (laws g)
    (with_pending c.args.self.now c.args.ends.now.items)
    (with_pending c.loop-range.self c.loop-range.ends.items)
    c.draw.new.self c.loop-range.invariant.so c.loop-range.invariant.drew
    c.in_default.ensures.steps none (first_end c.pop.new.self.items)
    (ap first_end (popped-left c.loop-range.ends.items c.loop-range.invariant.one
    c.pop.new.self.items c.pop.ensures.rest)))

pub returns-in_err-end-clause-one : goal.returns-in_err-end-clause-one
returns-in_err-end-clause-one g c =
    rw (popped-left c.loop-range.ends.items c.loop-range.invariant.one c.pop.new.self.items
    c.pop.ensures.rest) refl

pub returns-in_err-end-clause-ended : goal.returns-in_err-end-clause-ended
returns-in_err-end-clause-ended g c =
    rw c.from_residual.ensures (popped-left c.loop-range.ends.items c.loop-range.invariant.one
    c.pop.new.self.items c.pop.ensures.rest)

pub returns-in_err-end-clause-goes : goal.returns-in_err-end-clause-goes
returns-in_err-end-clause-goes g c =
    rw c.from_residual.ensures (record { on = λ finite. tt; keeps = tt; rests = λ finite. tt })

-- The pending range comes last.
pub returns-clause-one : goal.returns-clause-one
returns-clause-one g c =
    rw (popped-left c.loop-range.ends.items c.loop-range.invariant.one c.pop.new.self.items
    c.pop.ensures.rest) refl

pub returns-clause-steps : goal.returns-clause-steps
returns-clause-steps g c =
    let last = popped-end c.loop-range.ends.items c.loop-range.invariant.one c.pop.result
    (Some c.in_ok-end.end) c.pop.ensures.value c.in_ok-end.ensures in
    last-answers g.T.Integer g.I.Draw (laws g)
    (with_pending c.args.self.now c.args.ends.now.items)
    (with_pending c.loop-range.self c.loop-range.ends.items)
    c.draw.new.self c.loop-range.invariant.so c.loop-range.invariant.drew
    c.in_default.ensures.steps c.in_ok-end.end c.new-2.result last
    c.new-2.ensures.exhausted c.new-2.ensures.start c.new-2.ensures.end
    (first_end c.pop.new.self.items)
    (ap first_end (popped-left c.loop-range.ends.items c.loop-range.invariant.one
    c.pop.new.self.items c.pop.ensures.rest))

pub returns-clause-goes : goal.returns-clause-goes
returns-clause-goes g c =
    let last = popped-end c.loop-range.ends.items c.loop-range.invariant.one c.pop.result
    (Some c.in_ok-end.end) c.pop.ensures.value c.in_ok-end.ensures in
    last-goes g.T.Integer g.I.Draw
    (with_pending c.args.self.now c.args.ends.now.items)
    (with_pending c.loop-range.self c.loop-range.ends.items)
    c.draw.new.self c.loop-range.invariant.so c.in_ok-end.end c.new-2.result last
    (first_end c.pop.new.self.items)
