use Rattle.std.proofs.Common.{[], arith, refl}
use Rattle.rsb_integer.specs.Runs.{members}
use Rattle.rsb_integer.proofs.lemmas.Count.{count-within}
use Rattle.range_set_blaze.proofs.lemmas.retaining.Retained.{fewer-to_come, next-asked, next-joined, next-maximal, retaining-next}
use Rattle.range_set_blaze.proofs.set.retain.retain_runs.Goals as goal
use Rattle.range_set_blaze.proofs.set.retain.retain_runs.Goals.{then-not-f, else-not-f}

-- At first the closure was called on no run.
pub loop-next-init : goal.loop-next-init
loop-next-init g c = record {
  done = [];
  kept = [];
  todo = c.args.runs.now;
  old_parts = refl;
  new_parts = refl;
  sub = refl;
  next_is = c.first-next.ensures;
  canonical = c.requires.kept.canonical;
  counted = c.requires.kept.length;
  asked = [];
  listed = refl;
  callable = λ always. always;
  calls = refl;
  exact = λ keeps answers. (answers, refl);
}

-- The closure may be called on the next run.
pub f-requires : goal.f-requires
f-requires g c =
    let range = c.new.ensures in
    c.requires.callable.at _ _ (next-asked _ _ _ _ _ c.in-Some.is c.loop-next.invariant _
    c.requires.kept.canonical range.start range.end range.exhausted)

-- The next run is still one of the runs of the map.
pub subtract_length-requires : goal.subtract_length-requires
subtract_length-requires g c =
    let counted = c.loop-next.invariant.counted in
    let within = count-within g.T.Integer.value_count
    (members c.loop-next.runs) in
    let joined = next-joined _ _ _ _ _ c.in-Some.is c.loop-next.invariant in
    record {
      some = (next-maximal _ _ _ _ _ c.in-Some.is c.loop-next.invariant).in_order;
      fits = omega (arith, within, counted);
      counted = omega (arith, joined.counted, counted);
    }

pub remove-requires : goal.remove-requires
remove-requires g c =
    let maximal = next-maximal _ _ _ _ _ c.in-Some.is c.loop-next.invariant in
    omega (arith, maximal.in_order, maximal.in_type)

pub after-next-requires : goal.after-next-requires
after-next-requires g c = (next-maximal _ _ _ _ _ c.in-Some.is c.loop-next.invariant).in_type

-- The closure has been called on one run more.
pub loop-next-preserved : goal.loop-next-preserved
loop-next-preserved g c =
    let range = c.new.ensures in
    let after = retaining-next _ _ _ _ _ c.in-Some.is c.loop-next.invariant c.f.result in
    elim c.if-not-f.branch [
      | then-not-f w ↦
          after _ _ _ _ _ (rw (w.if-not-f.true, w.runs-is) w.remove.ensures)
          (rw (w.if-not-f.true, w.length-is) w.subtract_length.ensures)
          range.start range.end range.exhausted c.after-next.ensures c.f.ensures
      | else-not-f w ↦
          after _ _ _ _ _ (rw (w.if-not-f.false, w.runs-is) refl)
          (rw (w.if-not-f.false, w.length-is) (omega arith))
          range.start range.end range.exhausted c.after-next.ensures c.f.ensures
    ]

pub loop-next-smaller : goal.loop-next-smaller
loop-next-smaller g c =
    let maximal = next-maximal _ _ _ _ _ c.in-Some.is c.loop-next.invariant in
    rw c.in-Some.is (fewer-to_come _ _ _ _ _ maximal.in_order maximal.in_type
    c.after-next.ensures)
