use Rattle.std.proofs.Common.{◌≡◌, ◌∙◌, ap, map-id, rules, sym}
use Rattle.std.proofs.lemmas.Iterator.{items_from_drains, YieldsList-from_map}
use Rattle.std.proofs.lemmas.Iterator.Consumers.{YieldsList-at, YieldsList-from_rest}
use Rattle.rsb_storage.specs.Storage.{runs_of}
use Rattle.rsb_storage.proofs.lemmas.gathering.Filled.{made-entries}
use Rattle.rsb_storage.proofs.runs.Runs.copied.Given.{Over}
use Rattle.rsb_storage.proofs.runs.Runs.copied.Goals as goal

-- The entries come in order, so the new map has exactly these.
made : (g : Over) (c : goal.In_ok-map g) → c.in_ok-map.map.entries ≡ c.self.inside.map.entries
made g c =
    let laws = g.met.T.Integer in
    let entries = c.self.inside.map.entries in
    let ran = c.in_ok-map.ensures.ran in
    let items = items_from_drains ran.0 ran.1
    (YieldsList-from_map _ (λ entry. entry)
    (YieldsList-at c.map-entries.ensures.source
    (YieldsList-from_rest entries c.iter.ensures.rest))
    c.map-entries.ensures.closure (λ x r q k. search rules)) in
    made-entries g.T.Ord.cmp g.met.T.Ord.total g.T.Integer.rank g.T.Integer.value_count
    laws.in_order laws.exact ran.0 entries c.in_ok-map.map ran.2
    (sym (map-id ran.0) ∙ items ∙ map-id entries) c.self.invariant

pub invariant_of-result : goal.invariant_of-result
invariant_of-result g c = rw (made g c) c.self.invariant

pub returns : goal.returns
returns g c = ap (runs_of g.T.Integer.rank) (made g c) ∙ c.self.view_is
