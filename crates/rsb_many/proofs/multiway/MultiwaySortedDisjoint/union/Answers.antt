use Rattle.rsb_many.proofs.lemmas.inputs.HandedIn.{gave-each}
use Rattle.rsb_many.specs.KMerge.{kmerge, BeginsKMerge}
use Rattle.rsb_many.specs.MultiwayBegun.{BeginsUnion}
use Rattle.rsb_many.specs.MultiwayResults.{MakesMultiwayUnion}
use Rattle.rsb_many.specs.MultiwayUnion.{multiway_union}
use Rattle.rsb_many.proofs.multiway.MultiwaySortedDisjoint.union.Goals as goal

-- The union is of the streams of the merge.
pub returns-clause-made : goal.returns-clause-made
returns-clause-made g c = gave-each g.Self.IntoIterator.into_iter_gives
    g.Self.IntoIter.Iterator.next_gives c.args.self
    (λ streams. BeginsKMerge g.T.Integer g.I.Draw (kmerge g.T.Integer g.I.Draw) streams
    c.in_ok-merge.merge)
    (λ streams. MakesMultiwayUnion g.T.Integer g.I.Draw (multiway_union g.T.Integer g.I.Draw) streams
    c.of.result)
    (λ streams begins. (c.of.ensures.begun streams begins).made) c.in_ok-merge.ensures.begun

-- It draws nothing more from them.
pub returns-clause-begun : goal.returns-clause-begun
returns-clause-begun g c = gave-each g.Self.IntoIterator.into_iter_gives
    g.Self.IntoIter.Iterator.next_gives c.args.self
    (λ streams. BeginsKMerge g.T.Integer g.I.Draw (kmerge g.T.Integer g.I.Draw) streams
    c.in_ok-merge.merge)
    (λ streams. BeginsUnion g.T.Integer g.I.Draw (multiway_union g.T.Integer g.I.Draw) streams
    c.of.result)
    c.of.ensures.begun c.in_ok-merge.ensures.begun
