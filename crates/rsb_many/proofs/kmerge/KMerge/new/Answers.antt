use Rattle.std.proofs.Common.{subst, sym, All}
use Rattle.std.proofs.lemmas.Result.{IfOk-weaker}
use Rattle.rsb_many.proofs.lemmas.inputs.HandedIn.{collected-each, collected-run, gave-ok}
use Rattle.rsb_many.specs.KMerge.{kmerge, BeginsKMerge, MakesKMerge}
use Rattle.rsb_many.proofs.kmerge.KMerge.new.Goals as goal

-- A fact about all streams that were passed holds of the streams of the list.
pub over-requires : goal.over-requires
over-requires g c =
    let ran = c.in_ok-streams.ensures.ran in
    subst (All g.I.Draw.can_draw) (sym ran.4.0)
    (collected-each g.K.IntoIterator.into_iter_gives g.K.IntoIter.Iterator.next_gives c.args.inputs
    ran.0 ran.1 ran.2 ran.3 (All g.I.Draw.can_draw) c.requires.can)

-- The merge is of the streams that were passed.
pub returns : goal.returns
returns g c =
    let ran = c.in_ok-streams.ensures.ran in
    let row = kmerge g.T.Integer g.I.Draw in
    let begun = IfOk-weaker c.over.result _ _ (λ merge begun.
    collected-run g.K.IntoIterator.into_iter_gives g.K.IntoIter.Iterator.next_gives
    c.args.inputs ran.0 ran.1 ran.2 ran.3
    (λ streams. BeginsKMerge g.T.Integer g.I.Draw row streams merge)
    (subst (λ streams. BeginsKMerge g.T.Integer g.I.Draw row streams merge) ran.4.0 begun))
    c.over.ensures.begun in
    record {
      ready = c.over.ensures.ready;
      made = gave-ok g.K.IntoIterator.into_iter_gives g.K.IntoIter.Iterator.next_gives c.args.inputs
          c.over.result (λ streams merge. BeginsKMerge g.T.Integer g.I.Draw row streams merge)
          (λ streams merge. MakesKMerge g.T.Integer g.I.Draw row streams merge)
          (λ streams merge begins. begins.made) begun;
      begun = begun;
    }
