use Rattle.std.proofs.Common.{arith}
use Rattle.rsb_storage.proofs.lemmas.runs.Found.{last-lower, last-value, none-lower, two-before, two-last, two-neither, two-none}
use Rattle.rsb_storage.proofs.lemmas.runs.Storage.{lt-fails}
use Rattle.range_set_blaze.proofs.set.insert.last_up_to.Goals as goal

-- The last run starts within the type.
pub is_below-requires-clause-right : goal.is_below-requires-clause-right
is_below-requires-clause-right g c =
    let two = two-last g.T.Integer.rank _ _ _ _ c.requires.two.2 c.in_ok-last.last c.in_ok-last.was in
    (last-value g.T.Integer.rank _ _ c.requires.canonical _ c.in_ok-last.last two.0).0

-- If it starts at or before the value, it is the run to find.
pub returns-then-not-is_below : goal.returns-then-not-is_below
returns-then-not-is_below g c =
    let two = two-last g.T.Integer.rank _ _ _ _ c.requires.two.2 c.in_ok-last.last c.in_ok-last.was in
    let starts = lt-fails c.is_below.result _ _ c.is_below.ensures c.if-not-is_below.true in
    last-lower _ _ _ _ (omega (arith, c.requires.two.1)) (omega (arith, starts)) two.0

-- If it starts past the value and no run is before it, there is no run to find.
pub returns-in_err-before : goal.returns-in_err-before
returns-in_err-before g c =
    let none = two-none g.T.Integer.rank _ _ _ _ c.requires.two.2 c.in_ok-last.last c.in_ok-last.was
    c.in_err-before.was in
    let later = c.is_below.ensures.0 c.if-not-is_below.false in
    rw c.from_residual-in_err-before.ensures
    (none-lower _ _ _ (omega (arith, later)) none)

-- The run before it starts within the type.
pub is_below-requires-2-clause-right : goal.is_below-requires-2-clause-right
is_below-requires-2-clause-right g c =
    (last-value g.T.Integer.rank _ _ c.requires.canonical _ c.in_ok-before.before
    (two-before g.T.Integer.rank _ _ _ _ c.requires.two.2 c.in_ok-last.last c.in_ok-before.before
    c.in_ok-last.was c.in_ok-before.was)).0

-- If that run starts at or before the value, it is the run to find.
pub returns-then-not-is_below-2 : goal.returns-then-not-is_below-2
returns-then-not-is_below-2 g c =
    let found = two-before g.T.Integer.rank _ _ _ _ c.requires.two.2 c.in_ok-last.last c.in_ok-before.before
    c.in_ok-last.was c.in_ok-before.was in
    let later = c.is_below.ensures.0 c.if-not-is_below.false in
    let starts = lt-fails c.is_below-2.result _ _ c.is_below-2.ensures c.if-not-is_below-2.true in
    last-lower _ _ _ _ (omega (arith, later)) (omega (arith, starts)) found

-- If no run starts below the bound, there is no run to find.
pub returns-in_err-last : goal.returns-in_err-last
returns-in_err-last g c =
    let none = two-neither g.T.Integer.rank _ _ _ _ c.requires.two.2 c.in_err-last.was in
    rw c.from_residual.ensures (none-lower _ _ _ (omega (arith, c.requires.two.1)) none)

pub returns : goal.returns
returns g c = c.up_to.ensures
