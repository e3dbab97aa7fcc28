use Rattle.std.proofs.Common.{◌++◌, ◌∷◌, [], ap, ◌∙◌}
use Rattle.std.proofs.lemmas.List.Elements.{All-push}
use Rattle.rsb_many.proofs.stream_list.Streams.push.Goals as goal

-- On an error the list is as before.
pub invariant_of-self : goal.invariant_of-self
invariant_of-self g c = rw c.in_err-push.ensures.items c.self.invariant

-- The new stream is ready, like the streams before it.
pub invariant_of-self-2 : goal.invariant_of-self-2
invariant_of-self-2 g c = rw c.in_ok-push.ensures.items
    (All-push g.I.Draw.can_draw c.self.inside.list.items c.args.stream c.self.invariant c.requires)

pub returns-clause-added : goal.returns-clause-added
returns-clause-added g c =
    c.in_ok-push.ensures.items ∙ ap (λ before. before ++ c.args.stream ∷ []) c.self.view_is
