use Rattle.std.proofs.Common.{◌≡◌, ◌∙◌, [], ◌∷◌, ◌++◌, ap, append_assoc, arith, sym}
use Rattle.std.proofs.lemmas.Result.{IfOk-weaker}
use Rattle.std.specs.Fmt.{decimal}
use Rattle.std.specs.Net.Addr.{ipv6_segments}
use Rattle.std.specs.Net.Text.{ipv6_text}
use Rattle.std.specs.String.{string_bytes}
use Rattle.ip_sets.specs.Address.{v6_text}
use Rattle.ip_sets.specs.AddressRange.{block_end, block_start}
use Rattle.ip_sets.specs.Line.{MeansV6}
use Rattle.ip_sets.proofs.lemmas.spelling.Means.{v6_block_means, v6_text_of}
use Rattle.ip_sets.proofs.text.v6_block_text.Goals as goal

pub returns-clause-text : goal.returns-clause-text
returns-clause-text g c =
    let address = c.from_bits-address.result in
    let n = c.args.address in
    let digits = decimal c.args.length in
    IfOk-weaker c.format.result
    (λ text. string_bytes text ≡ ipv6_text (ipv6_segments address) ++ 47 ∷ digits)
    (λ text. string_bytes text ≡ v6_text n ++ 47 ∷ [] ++ digits)
    (λ text is. is
    ∙ ap (λ front. front ++ 47 ∷ digits) (v6_text_of address n c.from_bits-address.ensures)
    ∙ sym (append_assoc (v6_text n) (47 ∷ []) digits))
    c.format.ensures.ok

pub returns-clause-reads_back : goal.returns-clause-reads_back
returns-clause-reads_back g c =
    let address = c.from_bits-address.result in
    let n = c.args.address in
    let size = c.args.length in
    IfOk-weaker c.format.result
    (λ text. string_bytes text ≡ ipv6_text (ipv6_segments address) ++ 47 ∷ decimal size)
    (λ text. MeansV6 (string_bytes text) (block_start 128 size n) (block_end 128 size n))
    (λ text is. v6_block_means address n size (string_bytes text) (omega arith) c.requires
    c.from_bits-address.ensures
    (is ∙ ap (λ front. front ++ 47 ∷ decimal size)
    (v6_text_of address n c.from_bits-address.ensures)))
    c.format.ensures.ok
