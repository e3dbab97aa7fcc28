use Rattle.std.proofs.Common.{arith}
use Rattle.rsb_integer.specs.Runs.{members}
use Rattle.rsb_integer.proofs.lemmas.Count.{count-within}
use Rattle.range_set_blaze.proofs.lemmas.removal.Meeting.{meeting-value, piece-ends, piece-from, piece-order, piece-to, taken-counted, taken-ends, taken-outside}
use Rattle.range_set_blaze.proofs.set.remove_ranges.remove_common.Goals as goal

-- The run starts and ends within the type.
pub common-piece-requires-clause-run : goal.common-piece-requires-clause-run
common-piece-requires-clause-run g c =
    let value = meeting-value _ _ c.requires.kept.canonical _ _ c.requires.order c.requires.meets in
    (omega (arith, value.0, value.1), value.1)

-- The piece lies in the run.
pub cut-requires-clause-from : goal.cut-requires-clause-from
cut-requires-clause-from g c =
    piece-from _ _ c.requires.kept.canonical _ _ c.requires.order c.requires.meets _
    c.common-piece.ensures

pub cut-requires-clause-order : goal.cut-requires-clause-order
cut-requires-clause-order g c =
    piece-order _ _ c.requires.kept.canonical _ _ c.requires.order c.requires.meets _
    c.common-piece.ensures

pub cut-requires-clause-to : goal.cut-requires-clause-to
cut-requires-clause-to g c =
    piece-to _ _ c.requires.kept.canonical _ _ c.requires.order c.requires.meets _
    c.common-piece.ensures

-- Removing the piece allocates only if the run extends past the range.
pub returns-in_err-cut-clause-succeeds : goal.returns-in_err-cut-clause-succeeds
returns-in_err-cut-clause-succeeds g c within =
    let fails = c.in_err-cut.ensures.succeeds
    (piece-ends _ _ c.requires.kept.canonical _ _ c.requires.order c.requires.meets _
    c.common-piece.ensures within) in
    absurd (cc)

-- The piece is non-empty, and its members are counted.
pub subtract_length-requires-clause-some : goal.subtract_length-requires-clause-some
subtract_length-requires-clause-some g c =
    piece-order _ _ c.requires.kept.canonical _ _ c.requires.order c.requires.meets _
    c.common-piece.ensures

pub subtract_length-requires-clause-fits : goal.subtract_length-requires-clause-fits
subtract_length-requires-clause-fits g c =
    let within = count-within g.T.Integer.value_count
    (members c.args.runs.now) in
    omega (arith, within, c.requires.kept.length)

pub subtract_length-requires-clause-counted : goal.subtract_length-requires-clause-counted
subtract_length-requires-clause-counted g c =
    let counted = taken-counted _ _ c.requires.kept.canonical _ _ c.requires.order c.requires.meets _
    c.common-piece.ensures _ c.in_ok-cut.ensures.removed in
    omega (arith, counted, c.requires.kept.length)

-- The piece is removed.
pub returns-clause-narrowed : goal.returns-clause-narrowed
returns-clause-narrowed g c =
    let removed = c.in_ok-cut.ensures.removed in
    record {
      kept = record {
        canonical = removed.canonical;
        length = omega (
          arith,
          removed.counted,
          c.subtract_length.ensures,
          c.requires.kept.length,
        );
      };
      outside = taken-outside _ _ c.requires.kept.canonical _ _ c.requires.order c.requires.meets _
          c.common-piece.ensures _ removed;
      ends = taken-ends _ _ c.requires.kept.canonical _ _ c.requires.order c.requires.meets _
          c.common-piece.ensures _ removed;
    }

pub returns-clause-fewer : goal.returns-clause-fewer
returns-clause-fewer g c =
    let some = piece-order _ _ c.requires.kept.canonical _ _ c.requires.order c.requires.meets _
    c.common-piece.ensures in
    omega (arith, some, c.subtract_length.ensures)
