use Rattle.std.proofs.Common.{◌∙◌, ℕ, List, ap, eqb, length, sym, true≢false}
use Rattle.ip_sets.proofs.lemmas.spelling.Lines.{bad_line}
use Rattle.ip_sets.proofs.line.parse_line.Goals as goal

-- The line has a text that writes no addresses.
pub returns-in_err-addresses : goal.returns-in_err-addresses
returns-in_err-addresses c =
    let text = c.content-text.result.now in
    rw c.from_residual.ensures
    (bad_line c.args.line.now text c.content-text.ensures
    (λ is. true≢false (sym (ap (λ (all : List ℕ). eqb (length all) 0) is) ∙ sym c.is_empty.ensures
    ∙ c.if-is_empty.false))
    c.in_default.ensures c.in_default-range.ensures c.in_err-addresses.ensures)
