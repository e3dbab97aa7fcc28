use Rattle.std.proofs.Common.{◌∙◌, ap, nat_le, rules, sym}
use Rattle.std.proofs.lemmas.Fn.{always_returns_same}
use Rattle.range_set_blaze.specs.Runs.{members}
use Rattle.ip_sets.specs.Pairs.{spans_of}
use Rattle.ip_sets.proofs.lemmas.listing.Searched.{ends_before, ends-partitioned, next-decides, none-decides}
use Rattle.ip_sets.proofs.set.searching.any_has.Goals as goal

-- The first run that does not end before the address decides.
pub returns-in-Some : goal.returns-in-Some
returns-in-Some g c =
    let rank = g.T.Integer.rank in
    let runs = c.args.runs.now in
    let place = c.number-number.result in
    let run = c.in-Some.run'.now in
    let found = c.in-Some.ensures.lookup in
    let point = c.partition_point.ensures.partitioned (ends_before rank place)
    (always_returns_same _ _ _ (λ a r f' k. search rules))
    (ends-partitioned rank place 0 runs c.requires.apart) in
    ap (λ start. nat_le start place)
    (c.number.ensures.rank ∙ ap (λ (pair : _). rank pair.0) found.1)
    ∙ sym (next-decides rank place 0 runs c.partition_point.result run c.requires.apart point found.3.0)
    ∙ ap (members (spans_of rank runs)) c.number-number.ensures.rank

-- All runs end before the address.
pub returns-in-None : goal.returns-in-None
returns-in-None g c =
    let rank = g.T.Integer.rank in
    let runs = c.args.runs.now in
    let place = c.number-number.result in
    let point = c.partition_point.ensures.partitioned (ends_before rank place)
    (always_returns_same _ _ _ (λ a r f' k. search rules))
    (ends-partitioned rank place 0 runs c.requires.apart) in
    sym (none-decides rank place 0 runs c.partition_point.result c.requires.apart point
    c.in-None.ensures.lookup.3)
    ∙ ap (members (spans_of rank runs)) c.number-number.ensures.rank
