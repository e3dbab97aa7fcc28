use Rattle.std.proofs.Common.{◌≡◌, ◌∙◌, [], ◌∷◌, ◌++◌, ap, append_assoc, arith, sym}
use Rattle.std.proofs.lemmas.Result.{IfOk-weaker}
use Rattle.std.specs.Fmt.{decimal}
use Rattle.std.specs.Net.Addr.{ipv4_octets}
use Rattle.std.specs.Net.Text.{ipv4_text}
use Rattle.std.specs.String.{string_bytes}
use Rattle.ip_sets.specs.Address.{v4_text}
use Rattle.ip_sets.specs.AddressRange.{block_end, block_start}
use Rattle.ip_sets.specs.Line.{MeansV4}
use Rattle.ip_sets.proofs.lemmas.spelling.Means.{v4_block_means, v4_text_of}
use Rattle.ip_sets.proofs.text.v4_block_text.Goals as goal

pub returns-clause-text : goal.returns-clause-text
returns-clause-text g c =
    let address = c.from_bits-address.result in
    let n = c.args.address in
    let digits = decimal c.args.length in
    IfOk-weaker c.format.result
    (λ text. string_bytes text ≡ ipv4_text (ipv4_octets address) ++ 47 ∷ digits)
    (λ text. string_bytes text ≡ v4_text n ++ 47 ∷ [] ++ digits)
    (λ text is. is
    ∙ ap (λ front. front ++ 47 ∷ digits) (v4_text_of address n c.from_bits-address.ensures)
    ∙ sym (append_assoc (v4_text n) (47 ∷ []) digits))
    c.format.ensures.ok

pub returns-clause-reads_back : goal.returns-clause-reads_back
returns-clause-reads_back g c =
    let address = c.from_bits-address.result in
    let n = c.args.address in
    let size = c.args.length in
    IfOk-weaker c.format.result
    (λ text. string_bytes text ≡ ipv4_text (ipv4_octets address) ++ 47 ∷ decimal size)
    (λ text. MeansV4 (string_bytes text) (block_start 32 size n) (block_end 32 size n))
    (λ text is. v4_block_means address n size (string_bytes text) (omega arith) c.requires
    c.from_bits-address.ensures
    (is ∙ ap (λ front. front ++ 47 ∷ decimal size)
    (v4_text_of address n c.from_bits-address.ensures)))
    c.format.ensures.ok
