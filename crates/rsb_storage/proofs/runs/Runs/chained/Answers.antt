use Rattle.std.proofs.Common.{◌≡◌, ◌∙◌, ◌++◌, ap, map-id, rules, subst, sym}
use Rattle.std.proofs.lemmas.Iterator.{items_from_drains, YieldsList-from_map}
use Rattle.std.proofs.lemmas.Iterator.Consumers.{YieldsList-at, YieldsList-from_chain, YieldsList-from_rest}
use Rattle.std.proofs.lemmas.List.{map-append}
use Rattle.rsb_storage.specs.Storage.{entry_run, runs_of}
use Rattle.rsb_storage.specs.Starts.{StartsAscendFrom}
use Rattle.rsb_storage.proofs.lemmas.gathering.Filled.{made-entries}
use Rattle.rsb_storage.proofs.lemmas.runs.Starts.{canonical-rises}
use Rattle.rsb_storage.proofs.runs.Runs.chained.Given.{Over}
use Rattle.rsb_storage.proofs.runs.Runs.chained.Goals as goal

-- The entries come in order, so the map has exactly these.
made : (g : Over) (c : goal.In_ok-map g) → runs_of g.T.Integer.rank c.in_ok-map.map.entries
    ≡ c.args.low.now ++ c.args.high.now
made g c =
    let laws = g.met.T.Integer in
    let rank = g.T.Integer.rank in
    let n = g.T.Integer.value_count in
    let low = c.low.inside.map.entries in
    let high = c.high.inside.map.entries in
    let ran = c.in_ok-map.ensures.ran in
    let same : runs_of rank (low ++ high) ≡ c.args.low.now ++ c.args.high.now =
    map-append (entry_run rank) low high
    ∙ λ i. c.low.view_is i ++ c.high.view_is i in
    let items = items_from_drains ran.0 ran.1
    (YieldsList-from_map _ (λ entry. entry)
    (YieldsList-at c.map-entries.ensures.source
    (YieldsList-from_chain
    (YieldsList-at c.chain.ensures.first (YieldsList-from_rest low c.iter.ensures.rest))
    (YieldsList-at c.chain.ensures.second (YieldsList-from_rest high c.iter-2.ensures.rest))
    c.chain.ensures.first_done c.chain.ensures.second_done))
    c.map-entries.ensures.closure (λ x r q k. search rules)) in
    ap (runs_of rank) (made-entries g.T.Ord.cmp g.met.T.Ord.total rank n laws.in_order laws.exact
    ran.0 (low ++ high) c.in_ok-map.map ran.2 (sym (map-id ran.0) ∙ items ∙ map-id (low ++ high))
    (subst (StartsAscendFrom n 0) (sym same)
    (canonical-rises n 0 (c.args.low.now ++ c.args.high.now) c.requires.apart c.requires.within)))
    ∙ same

pub invariant_of-result : goal.invariant_of-result
invariant_of-result g c =
    subst (StartsAscendFrom g.T.Integer.value_count 0) (sym (made g c))
    (canonical-rises g.T.Integer.value_count 0 (c.args.low.now ++ c.args.high.now)
    c.requires.apart c.requires.within)

pub returns : goal.returns
returns g c = made g c
