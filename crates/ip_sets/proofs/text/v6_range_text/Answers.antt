use Rattle.std.proofs.Common.{◌≡◌, ◌∙◌, [], ◌∷◌, ◌++◌, ap, append_assoc, arith, sym}
use Rattle.std.proofs.lemmas.Result.{IfOk-weaker}
use Rattle.std.specs.Net.Addr.{ipv6_segments}
use Rattle.std.specs.Net.Text.{ipv6_text}
use Rattle.std.specs.String.{string_bytes}
use Rattle.ip_sets.specs.Address.{v6_text}
use Rattle.ip_sets.specs.Line.{MeansV6}
use Rattle.ip_sets.proofs.lemmas.spelling.Means.{v6_span_means, v6_text_of}
use Rattle.ip_sets.proofs.text.v6_range_text.Goals as goal

pub returns-clause-text : goal.returns-clause-text
returns-clause-text g c =
    let start = c.from_bits-first.result in
    let end = c.from_bits-last.result in
    let first = c.args.first in
    let last = c.args.last in
    IfOk-weaker c.format.result
    (λ text. string_bytes text
    ≡ ipv6_text (ipv6_segments start) ++ 45 ∷ ipv6_text (ipv6_segments end))
    (λ text. string_bytes text ≡ v6_text first ++ 45 ∷ [] ++ v6_text last)
    (λ text is. is
    ∙ ap (λ front. front ++ 45 ∷ ipv6_text (ipv6_segments end))
    (v6_text_of start first c.from_bits-first.ensures)
    ∙ ap (λ back. v6_text first ++ 45 ∷ back) (v6_text_of end last c.from_bits-last.ensures)
    ∙ sym (append_assoc (v6_text first) (45 ∷ []) (v6_text last)))
    c.format.ensures.ok

pub returns-clause-reads_back : goal.returns-clause-reads_back
returns-clause-reads_back g c =
    let start = c.from_bits-first.result in
    let end = c.from_bits-last.result in
    let first = c.args.first in
    let last = c.args.last in
    IfOk-weaker c.format.result
    (λ text. string_bytes text
    ≡ ipv6_text (ipv6_segments start) ++ 45 ∷ ipv6_text (ipv6_segments end))
    (λ text. MeansV6 (string_bytes text) first last)
    (λ text is. v6_span_means start end first last (string_bytes text) (omega arith)
    (omega arith) c.requires c.from_bits-first.ensures c.from_bits-last.ensures
    (is ∙ ap (λ front. front ++ 45 ∷ ipv6_text (ipv6_segments end))
    (v6_text_of start first c.from_bits-first.ensures)
    ∙ ap (λ back. v6_text first ++ 45 ∷ back) (v6_text_of end last c.from_bits-last.ensures)))
    c.format.ensures.ok
