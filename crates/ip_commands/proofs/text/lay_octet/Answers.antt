use Rattle.std.proofs.Common.{◌∙◌, ◌++◌, ◌∷◌, [], ap, arith, sym}
use Rattle.ip_commands.proofs.lemmas.Text.{one-digit, three-digits, two-digits}
use Rattle.ip_commands.proofs.text.lay_octet.Goals as goal

-- One digit.
pub returns-then-octet-lt10-clause-laid : goal.returns-then-octet-lt10-clause-laid
returns-then-octet-lt10-clause-laid c =
    c.lay.ensures
    ∙ ap (λ digits. c.args.page.now.items ++ (digits ++ c.args.end ∷ []))
    (sym (one-digit c.args.octet (omega arith)))

-- Two digits.
pub returns-then-octet-lt100-clause-laid : goal.returns-then-octet-lt100-clause-laid
returns-then-octet-lt100-clause-laid c =
    c.lay-then-octet-lt100.ensures
    ∙ ap (λ digits. c.args.page.now.items ++ (digits ++ c.args.end ∷ []))
    (sym (two-digits c.args.octet (omega arith) (omega arith)))

-- Three digits.
pub returns-clause-laid : goal.returns-clause-laid
returns-clause-laid c =
    c.lay-2.ensures
    ∙ ap (λ digits. c.args.page.now.items ++ (digits ++ c.args.end ∷ []))
    (sym (three-digits c.args.octet (omega arith) (omega arith)))
