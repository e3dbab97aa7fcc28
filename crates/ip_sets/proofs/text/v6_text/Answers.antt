use Rattle.std.proofs.Common.{◌≡◌, ◌∙◌, arith}
use Rattle.std.proofs.lemmas.Result.{IfOk-weaker}
use Rattle.std.specs.Net.Addr.{ipv6_segments}
use Rattle.std.specs.Net.Text.{ipv6_text}
use Rattle.std.specs.String.{string_bytes}
use Rattle.ip_sets.specs.Address.{v6_text}
use Rattle.ip_sets.specs.Line.{MeansV6}
use Rattle.ip_sets.proofs.lemmas.spelling.Means.{v6_means, v6_text_of}
use Rattle.ip_sets.proofs.text.v6_text.Goals as goal

pub returns-clause-text : goal.returns-clause-text
returns-clause-text g c =
    let address = c.from_bits.result in
    IfOk-weaker c.to_string.result
    (λ text. string_bytes text ≡ ipv6_text (ipv6_segments address))
    (λ text. string_bytes text ≡ v6_text c.args.address)
    (λ text is. is ∙ v6_text_of address c.args.address c.from_bits.ensures)
    c.to_string.ensures.ok

pub returns-clause-reads_back : goal.returns-clause-reads_back
returns-clause-reads_back g c =
    let address = c.from_bits.result in
    IfOk-weaker c.to_string.result
    (λ text. string_bytes text ≡ ipv6_text (ipv6_segments address))
    (λ text. MeansV6 (string_bytes text) c.args.address c.args.address)
    (λ text is. v6_means address c.args.address (string_bytes text) (omega arith)
    c.from_bits.ensures (is ∙ v6_text_of address c.args.address c.from_bits.ensures))
    c.to_string.ensures.ok
