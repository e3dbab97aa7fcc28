-- Written by tools/c/narrow from proofs/u64_sets/text/text_of_set/Answers.antt.
use Rattle.std.proofs.Common.{ℕ, List, Option, IfSome, ◌≡◌, subst}
use Rattle.std.specs.String.{string_bytes}
use Rattle.range_set_c.proofs.lemmas.SetText.{text-written}
use Rattle.range_set_c.proofs.u128_sets.text.text_of_set.Goals as goal

-- `Display` writes the text of the set.
pub returns : goal.returns
returns c =
    subst (λ (text : Option (List ℕ)).
    IfSome text (λ bytes. string_bytes c.in_ok-text.text ≡ bytes))
    (text-written c.args.set.now) c.in_ok-text.ensures.ok
