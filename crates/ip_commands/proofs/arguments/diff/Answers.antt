use Rattle.std.proofs.Common.{◌∷◌, ap}
use Rattle.std.specs.Prelude.{codes}
use Rattle.ip_commands.proofs.lemmas.CommandLine.{third-word}
use Rattle.ip_commands.proofs.arguments.diff.Goals as goal

-- There is a third word.
pub returns-in-len1-up-clause-misuse : goal.returns-in-len1-up-clause-misuse
returns-in-len1-up-clause-misuse c =
    let third = third-word c.args.words.now _ c.in-len2-up.len_at_least c.in-len1-up.len_at_least in
    (third.0, third.1, third.2, ap (λ words. codes "diff" ∷ words) third.3)
