use Rattle.std.proofs.Common.{◌∙◌, ◌++◌, Some, refl, subst, sym}
use Rattle.rsb_storage.specs.Storage.{run_of}
use Rattle.range_map_blaze.specs.Elements.{held_owned}
use Rattle.range_map_blaze.specs.Map.{IsMapIn}
use Rattle.range_map_blaze.specs.Storage.{pieces_of}
use Rattle.range_map_blaze.proofs.lemmas.Taken.{keys-go, took-first}
use Rattle.range_map_blaze.proofs.into_elements.IntoKeysIterator.next.Goals as goal

-- The first key of the first piece is taken.
pub returns-clause-steps : goal.returns-clause-steps
returns-clause-steps g c =
    let rank = g.T.Integer.rank in
    let n = g.T.Integer.value_count in
    let seen = g.V.MapValue.seen in
    let piece = c.in_ok-piece.piece in
    (took-first rank n c.args.self.now (run_of rank piece.run, seen piece.value) piece.run.start
    (subst (IsMapIn n) c.self.view_is c.self.invariant)
    (pieces_of rank seen c.first_owned.new.entries ++ held_owned rank seen c.first_owned.new.back)
    (held_owned rank seen c.without_first_owned.result) (sym c.self.view_is ∙ c.in_ok-piece.ensures.taken)
    c.without_first_owned.ensures refl).key

pub returns-clause-goes : goal.returns-clause-goes
returns-clause-goes g c =
    let piece = c.in_ok-piece.piece in
    keys-go (Some piece.run.start) (Some piece.run.start) refl
    (λ point found. (found.in_type, found.here)) (returns-clause-steps g c)
