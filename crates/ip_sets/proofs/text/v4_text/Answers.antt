use Rattle.std.proofs.Common.{◌≡◌, ◌∙◌, arith}
use Rattle.std.proofs.lemmas.Result.{IfOk-weaker}
use Rattle.std.specs.Net.Addr.{ipv4_octets}
use Rattle.std.specs.Net.Text.{ipv4_text}
use Rattle.std.specs.String.{string_bytes}
use Rattle.ip_sets.specs.Address.{v4_text}
use Rattle.ip_sets.specs.Line.{MeansV4}
use Rattle.ip_sets.proofs.lemmas.spelling.Means.{v4_means, v4_text_of}
use Rattle.ip_sets.proofs.text.v4_text.Goals as goal

pub returns-clause-text : goal.returns-clause-text
returns-clause-text g c =
    let address = c.from_bits.result in
    IfOk-weaker c.to_string.result
    (λ text. string_bytes text ≡ ipv4_text (ipv4_octets address))
    (λ text. string_bytes text ≡ v4_text c.args.address)
    (λ text is. is ∙ v4_text_of address c.args.address c.from_bits.ensures)
    c.to_string.ensures.ok

pub returns-clause-reads_back : goal.returns-clause-reads_back
returns-clause-reads_back g c =
    let address = c.from_bits.result in
    IfOk-weaker c.to_string.result
    (λ text. string_bytes text ≡ ipv4_text (ipv4_octets address))
    (λ text. MeansV4 (string_bytes text) c.args.address c.args.address)
    (λ text is. v4_means address c.args.address (string_bytes text) (omega arith)
    c.from_bits.ensures (is ∙ v4_text_of address c.args.address c.from_bits.ensures))
    c.to_string.ensures.ok
