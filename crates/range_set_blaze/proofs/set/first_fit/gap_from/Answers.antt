use Rattle.std.proofs.Common.{subst}
use Rattle.std.specs.Option.{MatchOption}
use Rattle.rsb_integer.specs.Selection.{Selection}
use Rattle.rsb_storage.specs.FirstFit.{AllShorter, IsFirstFit}
use Rattle.rsb_storage.specs.Storage.{run_of}
use Rattle.range_set_blaze.proofs.lemmas.fitting.FirstFits.{none-free, past-free, past-later, past-within}
use Rattle.range_set_blaze.proofs.set.first_fit.gap_from.Goals as goal

-- The runs past a free value start after it.
pub first_between-requires-clause-later : goal.first_between-requires-clause-later
first_between-requires-clause-later g c =
    rw c.starting_after.ensures
    (past-later _ c.args.runs.now c.requires.canonical _ c.in_ok-start.ensures.free)

pub first_between-requires-clause-within : goal.first_between-requires-clause-within
first_between-requires-clause-within g c =
    rw c.starting_after.ensures
    (past-within _ c.args.runs.now c.requires.canonical _ c.in_ok-start.ensures.free)

-- If no value from the given one on is free, no gap is long enough.
pub returns-in_err-start : goal.returns-in_err-start
returns-in_err-start g c =
    rw c.from_residual.ensures
    (none-free _ c.args.runs.now c.requires.canonical _ _ c.in_err-start.ensures)

-- From the first free value on, the runs past it leave the same values free as all runs do.
pub returns : goal.returns
returns g c =
    let rank = g.T.Integer.rank in
    let n = g.T.Integer.value_count in
    let len = g.T.SafeLen.SafeLength.number c.args.len in
    subst
    (λ (free : Selection). MatchOption c.first_between.result (AllShorter n free len)
    (λ gap. IsFirstFit n free len (run_of rank gap)))
    (past-free n c.args.runs.now c.requires.canonical (rank c.args.value)
    (rank c.in_ok-start.start) c.in_ok-start.ensures)
    (rw c.starting_after.ensures at c.first_between.ensures)
