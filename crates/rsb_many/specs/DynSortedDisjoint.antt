-- Streams whose ranges were collected, one stream after the other.
use Rattle.std.specs.Prelude.{◌≡◌, List, [], ◌∷◌, ◌++◌}
use Rattle.rsb_streams.specs.Stream.{◌⊆◌, Outcomes}

-- Whether `now` is `before` followed by one more stream, which gives only what `of` may give.
pub record TakesOneMore {S : Type 0} (may_give : S → Outcomes) (of : Outcomes) (before now : List S)
    : Type 0 where
  pub taken : S
  pub last : now ≡ before ++ taken ∷ []
  pub gives : may_give taken ⊆ of
