-- Written by tools/c/narrow from proofs/u64_sets/text/rsb_u64_from_text/Answers.antt.
use Rattle.std.proofs.Common.{◌∙◌, length, sym, subst}
use Rattle.std.proofs.lemmas.Bool.{eqb-true}
use Rattle.std.proofs.lemmas.List.{nil_from_length}
use Rattle.range_set_c.specs.SetText.{IsRead}
use Rattle.range_set_c.specs.declared.u128_sets.kept.Kept.{Kept}
use Rattle.range_set_c.proofs.lemmas.SetText.{nothing-read}
use Rattle.range_set_c.proofs.u128_sets.text.rsb_u128_from_text.Goals as goal

-- Empty text lists no ranges.
pub returns-then-is_empty-clause-read : goal.returns-then-is_empty-clause-read
returns-then-is_empty-clause-read c changed =
    let none = eqb-true (length c.args.text.now) 0 (sym c.is_empty.ensures ∙ c.if-is_empty.true) in
    let nothing = nil_from_length c.args.text.now none in
    subst (λ (kept : Kept). IsRead 128 c.args.text.now kept.set) (sym c.empty.ensures)
    (nothing-read 128 c.args.text.now nothing)
