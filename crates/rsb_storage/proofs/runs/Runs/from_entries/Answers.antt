use Rattle.std.proofs.Common.{◌∙◌, ap}
use Rattle.std.proofs.IntoIterSteps.{All-taken}
use Rattle.rsb_storage.proofs.lemmas.gathering.Filled.{made-entries}
use Rattle.rsb_storage.specs.Storage.{runs_of}
use Rattle.rsb_storage.proofs.lemmas.runs.Starts.{canonical-rises}
use Rattle.rsb_storage.proofs.runs.Runs.from_entries.Goals as goal

-- The entries come in order, so the map has exactly these.
pub invariant_of-result : goal.invariant_of-result
invariant_of-result g c =
    let laws = g.met.T.Integer in
    let rank = g.T.Integer.rank in
    let n = g.T.Integer.value_count in
    let rises = canonical-rises n 0 (runs_of rank c.args.entries.items) c.requires.apart c.requires.within in
    let ran = c.in_ok-map.ensures.ran in
    let last = ran.3.2 tt in
    rw (made-entries g.T.Ord.cmp g.met.T.Ord.total rank n laws.in_order laws.exact
    ran.1 c.args.entries.items c.in_ok-map.map ran.4
    (All-taken ran.0 ran.1 (last.0, (ran.3.0, ran.3.1, last.1)) ∙ ran.2.0) rises) rises

pub returns : goal.returns
returns g c =
    let laws = g.met.T.Integer in
    let rank = g.T.Integer.rank in
    let n = g.T.Integer.value_count in
    let rises = canonical-rises n 0 (runs_of rank c.args.entries.items) c.requires.apart c.requires.within in
    let ran = c.in_ok-map.ensures.ran in
    let last = ran.3.2 tt in
    ap (runs_of rank) (made-entries g.T.Ord.cmp g.met.T.Ord.total rank n laws.in_order laws.exact
    ran.1 c.args.entries.items c.in_ok-map.map ran.4
    (All-taken ran.0 ran.1 (last.0, (ran.3.0, ran.3.1, last.1)) ∙ ran.2.0) rises)
