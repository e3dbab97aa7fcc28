use Rattle.std.proofs.Common.{not, rules, tests}
use Rattle.std.proofs.lemmas.Iterator.Search.{any_from_yields_List}
use Rattle.std.proofs.lemmas.Iterator.Splits.{YieldsList-from_slice_split}
use Rattle.std.specs.Char.{is_ascii_digit}
use Rattle.ip_sets.specs.Reason.{leads_with_zero}
use Rattle.ip_sets.proofs.line.reasons.has_leading_zero.Goals as goal

-- Each number is tested.
pub returns : goal.returns
returns c = any_from_yields_List leads_with_zero _ _ _ c.any.ensures.ran
    (YieldsList-from_slice_split _ (λ byte. not (is_ascii_digit byte)) c.args.text.now
    c.split.ensures.rest c.split.ensures.done c.split.ensures.closure
    (λ x b q. search (rules, tests)))
    (λ x b q. search (rules, tests))
