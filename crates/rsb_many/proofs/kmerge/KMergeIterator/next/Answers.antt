use Rattle.std.proofs.Common.{subst, sym}
use Rattle.std.specs.Iterator.{MakesProgress}
use Rattle.rsb_many.specs.KMerge.{kmerge, KMergeReady}
use Rattle.rsb_many.proofs.lemmas.merging.OneAnswer.{head-goes, head-known, none-goes, none-known}
use Rattle.rsb_streams.proofs.lemmas.sources.Known.{IsLawful}
use Rattle.rsb_many.proofs.kmerge.KMergeIterator.next.Given.{Over}
use Rattle.rsb_many.proofs.kmerge.KMergeIterator.next.Goals as goal

laws : (g : Over) → IsLawful g.T.Integer g.I.Draw
laws g = record {
  answers = g.met.I.Draw.answers;
  sorted = g.met.I.Draw.sorted;
}

pub returns-in_err-head-clause-steps : goal.returns-in_err-head-clause-steps
returns-in_err-head-clause-steps g c =
    subst (λ item. (kmerge g.T.Integer g.I.Draw).draw_gives c.args.self.now item
    (record { inputs = c.take.new.self })) (sym c.from_residual.ensures)
    (none-known g.T.Integer g.I.Draw (laws g) c.args.self.now
    (record { inputs = c.take.new.self }) c.refill.new.self c.requires c.refill.ensures
    c.in_err-head.ensures.taken c.in_err-head.ensures.compared c.in_err-head.ensures.counted)

pub returns-in_err-head-clause-goes : goal.returns-in_err-head-clause-goes
returns-in_err-head-clause-goes g c =
    subst (λ item. MakesProgress (KMergeReady {A = g.row.A.Denot} g.T.Integer g.I.Draw)
    (kmerge {A = g.row.A.Denot} g.T.Integer g.I.Draw).draws_left c.args.self.now item
    (record { inputs = c.take.new.self })) (sym c.from_residual.ensures)
    (none-goes g.T.Integer g.I.Draw (laws g) c.args.self.now
    (record { inputs = c.take.new.self }) c.refill.new.self c.requires c.refill.ensures
    c.in_err-head.ensures.taken)

pub returns-clause-steps : goal.returns-clause-steps
returns-clause-steps g c = head-known g.T.Integer g.I.Draw (laws g) c.args.self.now
    (record { inputs = c.take.new.self }) c.refill.new.self c.requires c.refill.ensures
    c.in_ok-head.head c.in_ok-head.ensures.taken c.range.result c.range.ensures
    c.in_ok-head.ensures.compared c.in_ok-head.ensures.counted

pub returns-clause-goes : goal.returns-clause-goes
returns-clause-goes g c = head-goes g.T.Integer g.I.Draw (laws g) c.args.self.now
    (record { inputs = c.take.new.self }) c.refill.new.self c.requires c.refill.ensures
    c.in_ok-head.head c.in_ok-head.ensures.taken c.range.result
