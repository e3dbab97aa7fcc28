use Rattle.std.proofs.Common.{refl, subst, sym, ◌∙◌, ap}
use Rattle.std.proofs.lemmas.Iterator.{items_from_collect}
use Rattle.std.proofs.lemmas.Iterator.Consumers.{YieldsList-from_first}
use Rattle.std.proofs.lemmas.Result.{IfOk-weaker}
use Rattle.rsb_integer.specs.Rank.{intervals_of}
use Rattle.rsb_integer.specs.Runs.{members, AreRuns}
use Rattle.rsb_commands.proofs.interpreter.ranges_of.Goals as goal

pub returns : goal.returns
returns g c =
    let rank = g.T.Integer.rank in
    let runs = members c.args.set.now in
    IfOk-weaker c.collect.result _ _
    (λ ranges all. subst (λ is. AreRuns g.T.Integer.value_count runs is)
    (sym (ap (intervals_of rank) all ∙ c.ranges-2.ensures.ranges)) c.ranges-2.ensures.runs)
    (items_from_collect _ c.collect.ensures.ran (YieldsList-from_first (λ x. x) (λ s. s) _ refl))
