use Rattle.std.proofs.Common.{◌≡◌, ◌+◌, ap, arith, false, rules}
use Rattle.std.specs.Prelude.{IsNone}
use Rattle.rsb_storage.specs.Storage.{run_of}
use Rattle.range_set_blaze.proofs.lemmas.runs.Appended.{appended-canonical}
use Rattle.rsb_storage.proofs.lemmas.runs.Storage.{le-fails}
use Rattle.range_set_blaze.proofs.set.disjoint_union.lies_below.Goals as goal

-- If the lower set is empty, the list is that of the other.
pub returns-in_default : goal.returns-in_default
returns-in_default g c = λ is.
    let none : IsNone c.last.result = search rules in
    rw (← c.low.view_is, ← c.high.view_is, c.last.ensures.none.0 none) c.high.invariant.canonical

-- Otherwise the other set starts past its last run.
pub returns : goal.returns
returns g c = λ is.
    let rank = g.T.Integer.rank in
    let fails : c.reaches.result ≡ false = search rules in
    let past = le-fails c.reaches.result (rank c.known.result) (rank c.in-Some.last.end + 1)
    c.reaches.ensures fails in
    let same = ap rank c.known.ensures.same in
    rw (← c.low.view_is, ← c.high.view_is)
    (appended-canonical g.T.Integer.value_count c.low.inside.runs c.high.inside.runs
    c.low.invariant.canonical c.high.invariant.canonical (run_of rank c.in-Some.last)
    (run_of rank c.in-Some-first.first) c.in-Some.ensures.last c.in-Some-first.ensures
    (omega (arith, past, same)))
