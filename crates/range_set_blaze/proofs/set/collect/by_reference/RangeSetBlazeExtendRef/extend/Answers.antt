use Rattle.std.proofs.Common.{arith, ◌∷◌, []}
use Rattle.std.proofs.lemmas.Bool.Decides.{nat_tests}
use Rattle.std.proofs.lemmas.List.{map-append}
use Rattle.rsb_integer.proofs.lemmas.AnyOf.{any_of-one_more}
use Rattle.range_set_blaze.specs.Algebra.{AddsValues}
use Rattle.range_set_blaze.specs.Lent.{pointed_to}
use Rattle.rsb_storage.specs.Set.{only}
use Rattle.rsb_many.proofs.lemmas.inputs.HandedIn.{ended-run}
use denote.Ref.{Bor}
use Rattle.range_set_blaze.proofs.set.collect.by_reference.RangeSetBlazeExtendRef.extend.Goals as goal

-- The values added so far are those before this one, and this one.
pub loop-value-preserved : goal.loop-value-preserved
loop-value-preserved g c = record {
  adds = λ point.
      let before = c.loop-value.invariant.adds point in
      let added = c.in_ok-insert.ensures.members point in
      let one_more = any_of-one_more (λ (value : g.row.T.Denot). only (g.T.Integer.rank value))
      (pointed_to c.loop-value.yielded) c.in-Some.value.now point in
      rw (map-append (λ (item : Bor g.row.T.Denot). item.now) c.loop-value.yielded (c.in-Some.value ∷ []))
      (grind (arith, nat_tests, before, added, one_more));
}

-- The values that were added are those that the calls gave by reference.
pub returns-clause-runs : goal.returns-clause-runs
returns-clause-runs g c =
    ended-run g.J.IntoIterator.into_iter_gives g.J.IntoIter.Iterator.next_gives c.args.values
    (λ items. AddsValues g.T.Integer.rank c.args.self.now (pointed_to items) c.loop-value.self)
    c.into_iter-value-iterator.result c.loop-value.value-iterator c.next.new.self c.loop-value.yielded
    c.into_iter-value-iterator.ensures.into_iter_gives c.loop-value.yielded_by c.in-None.ensures.steps
    c.loop-value.invariant
