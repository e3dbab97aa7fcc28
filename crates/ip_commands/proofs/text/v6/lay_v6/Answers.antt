use Rattle.std.proofs.Common.{◌≡◌, ◌∙◌, ◌++◌, ◌∷◌, [], ap, append_assoc, refl, sym}
use Rattle.std.specs.Net.Addr.{ipv6_segments}
use Rattle.std.specs.Net.Text.{hex_groups_text, ipv4_text}
use Rattle.std.specs.Prelude.{codes}
use Rattle.ip_sets.specs.Address.{v6_text}
use Rattle.ip_commands.proofs.lemmas.Text.{groups-text, laid-then, mapped-text, text-of-bits}
use Rattle.ip_commands.proofs.text.v6.lay_v6.Goals as goal

-- The address is IPv4-mapped.
pub returns-in-Some-clause-laid : goal.returns-in-Some-clause-laid
returns-in-Some-clause-laid c =
    let old = c.args.page.now.items in
    let end = c.args.end ∷ [] in
    let octets = c.octets.result in
    let address = c.from_bits-address.result in
    let text : codes "::ffff:" ++ ipv4_text octets ≡ v6_text c.args.address =
    ap (λ each. codes "::ffff:" ++ ipv4_text each) (c.octets.ensures ∙ c.in-Some.ensures.value)
    ∙ sym (mapped-text (ipv6_segments address) (c.in-Some.ensures.found.0 refl))
    ∙ text-of-bits address c.args.address c.from_bits-address.ensures in
    laid-then old c.lay.new.page.items c.lay_octets.new.page.items (codes "::ffff:")
    (ipv4_text octets ++ end) c.lay.ensures c.lay_octets.ensures.laid
    ∙ ap (λ v. old ++ v) (sym (append_assoc (codes "::ffff:") (ipv4_text octets) end)
    ∙ ap (λ v. v ++ end) text)

-- The address is not IPv4-mapped.
pub returns-in-None-clause-laid : goal.returns-in-None-clause-laid
returns-in-None-clause-laid c =
    let old = c.args.page.now.items in
    let end = c.args.end ∷ [] in
    let address = c.from_bits-address.result in
    let text : hex_groups_text c.segments.result ≡ v6_text c.args.address =
    ap hex_groups_text c.segments.ensures
    ∙ sym (groups-text (ipv6_segments address) (λ is. cc (c.in-None.ensures.found.1 is)))
    ∙ text-of-bits address c.args.address c.from_bits-address.ensures in
    laid-then old c.lay_segments.new.page.items c.push.new.self.items
    (hex_groups_text c.segments.result) end c.lay_segments.ensures.laid c.push.ensures.items
    ∙ ap (λ v. old ++ (v ++ end)) text
