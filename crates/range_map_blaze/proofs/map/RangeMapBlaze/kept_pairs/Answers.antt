use Rattle.std.proofs.Common.{◌∷◌, [], refl}
use Rattle.range_map_blaze.proofs.lemmas.Retaining.{keeping-next, put-step, skip-step}
use Rattle.range_map_blaze.proofs.map.RangeMapBlaze.kept_pairs.Goals as goal

-- The closure may be called on any key and value.
pub f-requires : goal.f-requires
f-requires g c = (c.loop-key.invariant.0.at (_ ∷ [])).0

-- The key is kept if the closure returned true.
pub loop-key-preserved-in-Continue-1 : goal.loop-key-preserved-in-Continue-1
loop-key-preserved-in-Continue-1 g c =
    let rank = g.T.Integer.rank in
    let n = g.T.Integer.value_count in
    let seen = g.V.MapValue.seen in
    let key = c.in-Some.key in
    let value = seen c.in-Some.value.now in
    let takes = c.in-Some.ensures.steps in
    let next = keeping-next rank n seen g.F.FnMut c.args.f c.args.self.now c.loop-key.key-iterator
    c.loop-key.kept c.loop-key.f c.loop-key.invariant.1 key value c.next.new.self takes c.f.result
    c.put_copy.new.self c.f.new.self _ _ refl refl c.f.ensures
    (put-step c.loop-key.kept c.put_copy.new.self (rank key) value c.f.result c.if-f.true
    c.in_ok-put_copy.ensures) takes.key.found.in_type in (next.callable, next)

-- Otherwise it is left out.
pub loop-key-preserved : goal.loop-key-preserved
loop-key-preserved g c =
    let rank = g.T.Integer.rank in
    let n = g.T.Integer.value_count in
    let seen = g.V.MapValue.seen in
    let key = c.in-Some.key in
    let value = seen c.in-Some.value.now in
    let takes = c.in-Some.ensures.steps in
    let next = keeping-next rank n seen g.F.FnMut c.args.f c.args.self.now c.loop-key.key-iterator
    c.loop-key.kept c.loop-key.f c.loop-key.invariant.1 key value c.next.new.self takes c.f.result
    c.loop-key.kept c.f.new.self _ _ refl refl c.f.ensures
    (skip-step c.loop-key.kept c.loop-key.kept (rank key) value c.f.result c.if-f.false)
    takes.key.found.in_type in (next.callable, next)
