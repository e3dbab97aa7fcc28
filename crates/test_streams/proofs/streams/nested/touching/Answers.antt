use Rattle.rsb_streams.proofs.lemmas.sources.Lawful.{canonical-touching_source}
use Rattle.std.proofs.Common.{sym, subst}
use Rattle.test_streams.proofs.streams.nested.touching.Goals as goal

pub new-requires : goal.new-requires
new-requires g c = λ stream same.
    let drawn = g.met.I.SortedStarts.drawn in
    let can = subst g.I.Draw.can_draw (sym same) c.requires in
    canonical-touching_source g.T.Integer g.I.Draw g.I.Iterator
    (record { answers = g.met.I.Draw.answers; sorted = g.met.I.Draw.sorted }) drawn stream
    (drawn.callable stream can) (g.met.I.DrawDisjoint.canonical stream can)
