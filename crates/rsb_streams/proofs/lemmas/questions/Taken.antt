-- What a loop over a stream took from it, by calls of `next`.
use Rattle.std.proofs.Common.{List, [], ◌∷◌, sym, subst}
use Rattle.std.specs.Prelude.{Option, Some, None}
use Rattle.std.specs.Iterator.{Count, Yields}
use Rattle.std.specs.declared.ops.RangeInclusive.{RangeInclusive}
use Rattle.rsb_integer.specs.Rank.{intervals_of}
use Rattle.rsb_integer.specs.declared.integer.Integer.{Ghosts as Elements}
use Rattle.rsb_streams.specs.Rows.{IsAnswered}
use Rattle.rsb_streams.specs.Stream.{IsDrawn}
use Rattle.rsb_streams.specs.declared.draw.Draw.{Ghosts as Stream}

-- What calls of `next` gave until `None` is a list that might come.
pub list-taken : {S T N : Type 0} (integer : Elements T N) (stream : Stream S T N)
    {can_next : S → Type 0} {next_gives : S → Option (RangeInclusive T) → S → Type 0}
    {remaining : S → Count}
    → IsDrawn stream.can_draw stream.draw_gives stream.draws_left can_next next_gives remaining
    → IsAnswered integer stream → (items : List (RangeInclusive T)) (s t u : S)
    → Yields next_gives s items t → can_next t → next_gives t None u
    → stream.may_give s (intervals_of integer.rank items)
list-taken integer stream drawn answers [] s t u all ready end =
    subst (λ each. stream.may_give each []) (sym all)
    (answers t u None (drawn.ends t u ready end))
list-taken integer stream drawn answers (item ∷ items) s t u all ready end =
    answers s all.0 (Some item) (drawn.gives s all.0 item all.1) (intervals_of integer.rank items)
    (list-taken integer stream drawn answers items all.0 t u all.2 ready end)
