use Rattle.std.proofs.Common.{rules}
use Rattle.test_many.proofs.many.over_any.lacking_any.Goals as goal

-- An element type without references outlives every borrow.
pub into_iter-iterator-requires-lives-I-Iterator :
    goal.into_iter-iterator-requires-lives-I-Iterator
into_iter-iterator-requires-lives-I-Iterator g c κs within =
    λ a mem. let none = c.type_bounds.static-T a mem in search rules
