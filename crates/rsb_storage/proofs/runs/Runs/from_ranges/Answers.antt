use Rattle.std.proofs.Common.{◌≡◌, ◌∙◌, ap, map, map-id, rules, subst, sym}
use Rattle.std.proofs.lemmas.Iterator.{items_from_drains, YieldsList-from_map}
use Rattle.std.proofs.lemmas.Iterator.Adapters.{YieldsList-from_vec}
use Rattle.std.proofs.lemmas.Iterator.Consumers.{YieldsList-at}
use Rattle.rsb_integer.specs.Rank.{intervals_of}
use Rattle.rsb_storage.specs.Storage.{runs_of}
use Rattle.rsb_storage.specs.Starts.{StartsAscendFrom}
use Rattle.rsb_storage.proofs.lemmas.gathering.Filled.{made-entries}
use Rattle.rsb_storage.proofs.lemmas.gathering.InOrder.{bounds_of, runs_of-bounds}
use Rattle.rsb_storage.proofs.lemmas.runs.Starts.{canonical-rises}
use Rattle.rsb_storage.proofs.runs.Runs.from_ranges.Given.{Over}
use Rattle.rsb_storage.proofs.runs.Runs.from_ranges.Goals as goal

-- The entries come in order, so the map has exactly these.
made : (g : Over) (c : goal.In_ok-map g) → runs_of g.T.Integer.rank c.in_ok-map.map.entries
    ≡ intervals_of g.T.Integer.rank c.args.ranges.items
made g c =
    let laws = g.met.T.Integer in
    let rank = g.T.Integer.rank in
    let n = g.T.Integer.value_count in
    let ranges = c.args.ranges.items in
    let ran = c.in_ok-map.ensures.ran in
    let same = runs_of-bounds rank 0 ranges c.requires.apart in
    let items = items_from_drains ran.0 ran.1
    (YieldsList-from_map _ bounds_of
    (YieldsList-at c.map-entries.ensures.source
    (YieldsList-from_vec {s = c.into_iter.result} ranges c.into_iter.ensures.rest
    (c.into_iter.ensures.len ∙ c.args.ranges.ok.0)))
    c.map-entries.ensures.closure (λ x r q k. search rules)) in
    ap (runs_of rank) (made-entries g.T.Ord.cmp g.met.T.Ord.total rank n laws.in_order laws.exact
    ran.0 (map bounds_of ranges) c.in_ok-map.map ran.2 (sym (map-id ran.0) ∙ items)
    (subst (StartsAscendFrom n 0) (sym same)
    (canonical-rises n 0 (intervals_of rank ranges) c.requires.apart c.requires.within)))
    ∙ same

pub invariant_of-result : goal.invariant_of-result
invariant_of-result g c =
    subst (StartsAscendFrom g.T.Integer.value_count 0) (sym (made g c))
    (canonical-rises g.T.Integer.value_count 0 (intervals_of g.T.Integer.rank c.args.ranges.items)
    c.requires.apart c.requires.within)

pub returns : goal.returns
returns g c = made g c
