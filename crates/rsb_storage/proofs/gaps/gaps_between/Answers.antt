use Rattle.std.proofs.Common.{Some}
use Rattle.rsb_storage.specs.Storage.{run_of}
use Rattle.rsb_storage.proofs.lemmas.windows.FreeParts.{free-members, within-between}
use Rattle.rsb_storage.proofs.lemmas.windows.GapRanges.{left-canonical, ranges-canonical, ranges-members}
use Rattle.rsb_storage.proofs.gaps.gaps_between.Goals as goal

-- The runs that start in the free part lie between its ends.
pub invariant_of-result : goal.invariant_of-result
invariant_of-result g c =
    let rank = g.T.Integer.rank in
    rw c.starting_in.ensures
    (within-between _ c.args.runs.now c.requires.canonical
    (run_of rank c.args.window) (run_of rank c.in-Some.part) c.requires.value c.in-Some.ensures)

-- So the gaps that they leave are canonical.
pub returns-in-Some-clause-canonical : goal.returns-in-Some-clause-canonical
returns-in-Some-clause-canonical g c =
    let laws = g.met.T.Integer in
    ranges-canonical g.T.Integer.rank _ g.T.Integer.value_at laws.ranks _
    (left-canonical g.T.Integer.rank _ g.T.Integer.value_at (Some c.in-Some.part)
    c.starting_in.result (invariant_of-result g c))

-- The gaps have the values of the window that are not members.
pub returns-in-Some-clause-members : goal.returns-in-Some-clause-members
returns-in-Some-clause-members g c =
    let laws = g.met.T.Integer in
    let rank = g.T.Integer.rank in
    ranges-members rank _ g.T.Integer.value_at laws.ranks _ _
    (left-canonical rank _ g.T.Integer.value_at (Some c.in-Some.part) c.starting_in.result
    (invariant_of-result g c))
    (rw c.starting_in.ensures
    (free-members _ c.args.runs.now c.requires.canonical
    (run_of rank c.args.window) (run_of rank c.in-Some.part) c.requires.value c.in-Some.ensures))
