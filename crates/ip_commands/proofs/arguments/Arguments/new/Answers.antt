use Rattle.std.proofs.Common.{◌≡◌, ◌∙◌, ◌∷◌, ◌++◌, drop, drop-cons, map, sym, ap, suc, subst, take}
use Rattle.std.proofs.lemmas.List.{map-append, take-append-drop}
use Rattle.ip_commands.specs.CommandLine.{IsWordFault}
use Rattle.ip_commands.proofs.lemmas.Files.{passed-on}
use Rattle.ip_commands.proofs.arguments.Arguments.new.Goals as goal

-- A word has a fault.
pub returns-in_err-add-clause-fault : goal.returns-in_err-add-clause-fault
returns-in_err-add-clause-fault g c =
    let text = g.S.AsStr.text in
    let words = c.args.words.now in
    let at = c.loop-word.word-index in
    let before = map text (take at words) in
    let after = map text (drop (suc at) words) in
    let parts : map text words ≡ before ++ c.as_str.result.now ∷ after =
    ap (map text) (sym (take-append-drop at words)
    ∙ ap (λ more. take at words ++ more)
    (drop-cons words at c.word-item.result c.loop-word-test.true))
    ∙ map-append text (take at words) (_ ∷ drop (suc at) words)
    ∙ ap (λ word. before ++ word ∷ after) (ap text (sym c.word-item.is) ∙ sym c.as_str.ensures) in
    passed-on c.from_residual.result _ (IsWordFault (map text words)) c.from_residual.ensures.1
    (subst (λ each. IsWordFault each c.in_err-add.field-0.0) (sym parts)
    (c.in_err-add.ensures.fault before after c.loop-word.invariant))
