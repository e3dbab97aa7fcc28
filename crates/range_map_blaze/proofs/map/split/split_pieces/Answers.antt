use Rattle.std.proofs.Common.{refl}
use Rattle.range_map_blaze.proofs.lemmas.Splits.{high-map, high-value, low-map, low-value, zero-high, zero-low, zero-within, zero-without}
use Rattle.range_map_blaze.proofs.map.split.split_pieces.Goals as goal

-- The key is the least.
pub returns-in_default-clause-low : goal.returns-in_default-clause-low
returns-in_default-clause-low g c =
    rw (
      c.in_ok-high.ensures.low,
      zero-low g.T.Integer.value_count c.args.pieces.now c.requires.canonical
          (g.T.Integer.rank c.args.key) (c.in_default.ensures.none refl),
    ) tt

pub returns-in_default-clause-high : goal.returns-in_default-clause-high
returns-in_default-clause-high g c =
    rw (
      c.in_ok-high.ensures.high,
      zero-high g.T.Integer.value_count c.args.pieces.now c.requires.canonical
          (g.T.Integer.rank c.args.key) (c.in_default.ensures.none refl),
    ) c.requires.canonical

pub returns-in_default-clause-below : goal.returns-in_default-clause-below
returns-in_default-clause-below g c =
    rw c.in_ok-high.ensures.low
    (zero-without g.T.Integer.value_count c.args.pieces.now c.requires.canonical
    (g.T.Integer.rank c.args.key) (c.in_default.ensures.none refl))

pub returns-in_default-clause-from : goal.returns-in_default-clause-from
returns-in_default-clause-from g c =
    rw c.in_ok-high.ensures.high
    (zero-within g.T.Integer.value_count c.args.pieces.now c.requires.canonical
    (g.T.Integer.rank c.args.key) (c.in_default.ensures.none refl))

-- It has a key below.
pub returns-clause-low : goal.returns-clause-low
returns-clause-low g c =
    rw c.in_ok-high-2.ensures.low
    (low-map g.T.Integer.value_count c.args.pieces.now c.requires.canonical
    (g.T.Integer.rank c.in-Some.end) (g.T.Integer.rank c.args.key) c.in-Some.ensures.some
    c.requires.value)

pub returns-clause-high : goal.returns-clause-high
returns-clause-high g c =
    rw c.in_ok-high-2.ensures.high
    (high-map g.T.Integer.value_count c.args.pieces.now c.requires.canonical
    (g.T.Integer.rank c.in-Some.end) (g.T.Integer.rank c.args.key) c.in-Some.ensures.some
    c.requires.value)

pub returns-clause-below : goal.returns-clause-below
returns-clause-below g c =
    rw c.in_ok-high-2.ensures.low
    (low-value g.T.Integer.value_count c.args.pieces.now c.requires.canonical
    (g.T.Integer.rank c.in-Some.end) (g.T.Integer.rank c.args.key) c.in-Some.ensures.some
    c.requires.value)

pub returns-clause-from : goal.returns-clause-from
returns-clause-from g c =
    rw c.in_ok-high-2.ensures.high
    (high-value g.T.Integer.value_count c.args.pieces.now c.requires.canonical
    (g.T.Integer.rank c.in-Some.end) (g.T.Integer.rank c.args.key) c.in-Some.ensures.some
    c.requires.value)
