use Rattle.std.proofs.Common.{◌+◌, ◌∷◌, ◌∙◌, ap, drop, eqb, sym, take}
use Rattle.std.proofs.lemmas.List.{take_rest}
use Rattle.ip_sets.proofs.lemmas.spelling.Parts.{first_part, one_part, three_parts}
use Rattle.ip_sets.proofs.line.parts.parts_of.Goals as goal

pub returns-in-None : goal.returns-in-None
returns-in-None c = one_part (λ byte. eqb byte c.args.separator) c.args.text.now
    (sym c.in-None.ensures.place)

pub returns-in-None-place : goal.returns-in-None-place
returns-in-None-place c =
    let text = c.args.text.now in
    let i = c.in-Some.i in
    let second = one_part (λ byte. eqb byte c.args.separator) (drop (i + 1) text)
    (sym (rw take_rest at c.in-None-place.ensures.place)) in
    rw take_rest
    (first_part (λ byte. eqb byte c.args.separator) text i (sym c.in-Some.ensures.place)
    ∙ ap (λ all. take i text ∷ all) second)

pub returns-in-Some-place : goal.returns-in-Some-place
returns-in-Some-place c =
    three_parts (λ byte. eqb byte c.args.separator) c.args.text.now c.in-Some.i
    c.in-Some-place.field-0 (sym c.in-Some.ensures.place)
    (sym (rw take_rest at c.in-Some-place.ensures.place))
