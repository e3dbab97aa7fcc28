use Rattle.std.proofs.Common.{◌∙◌, ◌∷◌, ◌++◌, inl, inr, map, sym, ap, refl, subst}
use Rattle.std.proofs.lemmas.List.{map_push}
use Rattle.ip_commands.specs.CommandLine.{IsMisuse, IsWordFault}
use Rattle.ip_commands.proofs.lemmas.CommandLine.{first-unknown, more-mark, more-operand, more-option}
use Rattle.ip_commands.proofs.lemmas.Files.{passed-on}
use Rattle.ip_commands.proofs.arguments.Arguments.add.Goals as goal
use Rattle.ip_commands.proofs.arguments.Arguments.add.Goals.{then-self-via-then-self, then-self-via-else-self+then-not-is_dashed}

-- The word is an operand.
pub returns-then-self-clause-arguments : goal.returns-then-self-clause-arguments
returns-then-self-clause-arguments g c words are =
    more-operand words c.args.word.now c.args.self.now _ are
    (elim c.then-self.branch [
      | then-self-via-then-self w ↦ inl w.if-self.true
      | then-self-via-else-self+then-not-is_dashed w ↦
          inr (sym w.is_dashed.ensures ∙ w.if-not-is_dashed.true)
    ])
    (ap (λ items. map (λ word. word.now) items) c.in_ok-push.ensures.items
    ∙ map_push (λ word. word.now) c.args.self.now.operands.items _) refl refl

-- The word is `--`.
pub returns-then-eq-clause-arguments : goal.returns-then-eq-clause-arguments
returns-then-eq-clause-arguments g c words are =
    more-mark words c.args.word.now c.args.self.now _ are c.if-self.false
    (sym c.eq.ensures ∙ c.if-eq.true) refl refl refl

-- The word is an option that is unknown.
pub returns-in_err-self-clause-fault : goal.returns-in_err-self-clause-fault
returns-in_err-self-clause-fault g c before after are =
    let words = before ++ c.args.word.now ∷ after in
    let unknown = c.in_err-self.ensures.unknown in
    passed-on c.from_residual-in_err-self.result _ (IsWordFault words)
    c.from_residual-in_err-self.ensures.1 (subst (IsMisuse words) (sym unknown.1)
    (first-unknown before c.args.word.now c.args.self.now c.args.self.now are after c.if-self.false
    (sym c.eq.ensures ∙ c.if-eq.false) (sym c.is_dashed.ensures ∙ c.if-not-is_dashed.false)
    unknown.0))

-- The word is an option that is known.
pub returns-clause-arguments : goal.returns-clause-arguments
returns-clause-arguments g c words are =
    more-option words c.args.word.now c.args.self.now _ are c.if-self.false
    (sym c.eq.ensures ∙ c.if-eq.false) (sym c.is_dashed.ensures ∙ c.if-not-is_dashed.false)
    c.in_ok-self.ensures.known refl c.in_ok-self.ensures.form c.in_ok-self.ensures.families
    c.in_ok-self.ensures.question c.in_ok-self.ensures.fail_empty c.in_ok-self.ensures.skip_bad refl
