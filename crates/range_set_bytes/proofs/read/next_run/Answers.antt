use Rattle.range_set_bytes.proofs.lemmas.NextRun.{gap-expected, length-expected, others-expected}
use Rattle.range_set_bytes.proofs.read.next_run.Goals as goal

pub next_number-requires-clause-expected : goal.next_number-requires-clause-expected
next_number-requires-clause-expected g c = rw c.from.ensures (gap-expected g.T.Integer.value_count
    c.args.bytes.now c.args.rest.now c.args.previous c.args.after c.args.greatest c.rank_after-from.result
    c.requires.greatest c.rank_after-from.ensures c.least_gap.result c.least_gap.ensures c.requires.expected)

pub next_number-requires-2-clause-expected : goal.next_number-requires-2-clause-expected
next_number-requires-2-clause-expected g c =
    let most = rw c.from.ensures at c.in_ok-gap.ensures.value.1 in
    rw c.from.ensures (length-expected g.T.Integer.value_count
    c.args.bytes.now c.args.rest.now c.args.previous c.args.after c.args.greatest c.rank_after-from.result
    c.requires.greatest c.rank_after-from.ensures c.least_gap.result c.least_gap.ensures
    c.in_ok-gap.gap c.in_ok-gap.middle.now c.in_ok-gap.ensures.value.0 most c.in_ok-gap.ensures.read
    c.requires.expected)

pub returns-clause-others : goal.returns-clause-others
returns-clause-others g c = λ runs expected.
    let most = rw c.from.ensures at c.in_ok-gap.ensures.value.1 in
    let most_more = rw c.from.ensures at c.in_ok-more.ensures.value.1 in
    others-expected g.T.Integer.value_count
    c.args.bytes.now c.args.rest.now c.args.previous c.args.after c.args.greatest c.rank_after-from.result
    c.requires.greatest c.rank_after-from.ensures c.least_gap.result c.least_gap.ensures
    c.in_ok-gap.gap c.in_ok-gap.middle.now c.in_ok-gap.ensures.value.0 most c.in_ok-gap.ensures.read
    runs expected c.in_ok-more.more c.in_ok-more.rest.now most_more c.in_ok-more.ensures.read
