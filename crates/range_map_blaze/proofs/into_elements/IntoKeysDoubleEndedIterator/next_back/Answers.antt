use Rattle.std.proofs.Common.{◌∙◌, Some, refl, subst, sym}
use Rattle.rsb_storage.specs.Storage.{run_of}
use Rattle.range_map_blaze.specs.Elements.{held_owned}
use Rattle.range_map_blaze.specs.Map.{IsMapIn}
use Rattle.range_map_blaze.specs.Storage.{pieces_of}
use Rattle.range_map_blaze.proofs.lemmas.Taken.{keys-go, left-map, taken-in_type, taken-order, took-last}
use Rattle.range_map_blaze.proofs.into_elements.IntoKeysDoubleEndedIterator.next_back.Goals as goal

-- The last piece is non-empty, and within the type.
pub without_last_owned-requires-clause-order : goal.without_last_owned-requires-clause-order
without_last_owned-requires-clause-order g c =
    let rank = g.T.Integer.rank in
    let n = g.T.Integer.value_count in
    let seen = g.V.MapValue.seen in
    let piece = c.in_ok-piece.piece in
    taken-order rank n c.args.self.now (run_of rank piece.run, seen piece.value) piece.run.end
    (subst (IsMapIn n) c.self.view_is c.self.invariant)
    (held_owned rank seen c.last_owned.new.front) (pieces_of rank seen c.last_owned.new.entries)
    (sym c.self.view_is ∙ c.in_ok-piece.ensures.taken)

pub without_last_owned-requires-clause-value : goal.without_last_owned-requires-clause-value
without_last_owned-requires-clause-value g c =
    let rank = g.T.Integer.rank in
    let n = g.T.Integer.value_count in
    let seen = g.V.MapValue.seen in
    let piece = c.in_ok-piece.piece in
    taken-in_type rank n c.args.self.now (run_of rank piece.run, seen piece.value) piece.run.end
    (subst (IsMapIn n) c.self.view_is c.self.invariant)
    (held_owned rank seen c.last_owned.new.front) (pieces_of rank seen c.last_owned.new.entries)
    (sym c.self.view_is ∙ c.in_ok-piece.ensures.taken)

-- What is left is canonical.
pub invariant_of-self-2 : goal.invariant_of-self-2
invariant_of-self-2 g c =
    let rank = g.T.Integer.rank in
    let n = g.T.Integer.value_count in
    let seen = g.V.MapValue.seen in
    let piece = c.in_ok-piece.piece in
    left-map rank n c.args.self.now (run_of rank piece.run, seen piece.value) piece.run.end
    (subst (IsMapIn n) c.self.view_is c.self.invariant)
    (held_owned rank seen c.last_owned.new.front) (pieces_of rank seen c.last_owned.new.entries)
    (sym c.self.view_is ∙ c.in_ok-piece.ensures.taken)
    (held_owned rank seen c.without_last_owned.result) c.without_last_owned.ensures

-- The last key of the last piece is taken.
pub returns-clause-steps : goal.returns-clause-steps
returns-clause-steps g c =
    let rank = g.T.Integer.rank in
    let n = g.T.Integer.value_count in
    let seen = g.V.MapValue.seen in
    let piece = c.in_ok-piece.piece in
    (took-last rank n c.args.self.now (run_of rank piece.run, seen piece.value) piece.run.end
    (subst (IsMapIn n) c.self.view_is c.self.invariant)
    (held_owned rank seen c.last_owned.new.front) (pieces_of rank seen c.last_owned.new.entries)
    (sym c.self.view_is ∙ c.in_ok-piece.ensures.taken)
    (held_owned rank seen c.without_last_owned.result) c.without_last_owned.ensures refl).key

pub returns-clause-goes : goal.returns-clause-goes
returns-clause-goes g c =
    let piece = c.in_ok-piece.piece in
    keys-go (Some piece.run.end) (Some piece.run.end) refl
    (λ point found. (found.in_type, found.here)) (returns-clause-steps g c)
