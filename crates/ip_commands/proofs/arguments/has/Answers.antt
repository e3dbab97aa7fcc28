use Rattle.std.proofs.Common.{◌∙◌, ◌-◌, ◌∷◌, drop, length, refl, sym, ap, take}
use Rattle.std.specs.Prelude.{codes}
use Rattle.ip_commands.proofs.lemmas.CommandLine.{first-rest, some-left, some-mapped}
use Rattle.ip_commands.proofs.arguments.has.Goals as goal

-- The word is an address, and files follow.
pub returns-in-Ok-clause-request : goal.returns-in-Ok-clause-request
returns-in-Ok-clause-request c =
    let parts = first-rest (λ word. word.now) c.args.words.now _ c.in-len1-up.len_at_least in (
      _,
      ap (λ words. codes "has" ∷ words) parts,
      c.in-Ok.ensures.value,
      some-left _ (sym c.if-is_empty.false ∙ c.is_empty.ensures),
      refl,
    )

-- The word is not an address.
pub returns-in-Err-clause-misuse : goal.returns-in-Err-clause-misuse
returns-in-Err-clause-misuse c =
    let words = c.args.words.now in
    let parts = first-rest (λ word. word.now) words _ c.in-len1-up.len_at_least in (
      _,
      ap (λ each. codes "has" ∷ each) parts,
      some-mapped (λ word. word.now) (take (length words - 1) (drop 1 words))
          (some-left _ (sym c.if-is_empty.false ∙ c.is_empty.ensures)),
      c.in-Err.ensures.value,
    )
