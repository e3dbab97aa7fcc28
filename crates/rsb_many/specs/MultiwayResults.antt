-- What operations on any number of streams return: the result is ready, and gives only runs of what
-- the operation selects from what the streams give.
use Rattle.std.specs.Prelude.{ℕ, List, length}
use Rattle.rsb_integer.specs.Selection.{Selection, all_of, any_of, odd_of}
use Rattle.rsb_integer.specs.declared.integer.Integer.{Ghosts as Elements}
use Rattle.rsb_streams.specs.Stream.{◌⊆◌, IsReadyAnd, Outcomes}
use Rattle.rsb_streams.specs.declared.draw.Draw.{Ghosts as Stream}
use Rattle.rsb_many.specs.Many.{may_give_at, runs_by_all}

-- Whether a stream gives only runs of the set that the operation makes of what the streams give.
abbrev pub GivesByAll : {S : Type 0} → (List Selection → Selection) → ℕ → (S → Outcomes) → List S
    → Outcomes → Type 0
GivesByAll operation n may_give streams given =
    given ⊆ runs_by_all n operation (length streams) (may_give_at may_give streams)

module _ {T N I O : Type 0} (integer : Elements T N) (stream : Stream I T N) (row : Stream O T N)
    (streams : List I) (result : O) where
  -- Whether the result is the union of the streams.
  abbrev pub MakesMultiwayUnion : Type 0
  MakesMultiwayUnion = IsReadyAnd row.can_draw result
      (GivesByAll any_of integer.value_count stream.may_give streams (row.may_give result))

  -- Whether the result is the intersection of the streams.
  abbrev pub MakesMultiwayIntersection : Type 0
  MakesMultiwayIntersection = IsReadyAnd row.can_draw result
      (GivesByAll all_of integer.value_count stream.may_give streams (row.may_give result))

  -- Whether the result is what lies in an odd number of the streams.
  abbrev pub MakesMultiwaySymmetricDifference : Type 0
  MakesMultiwaySymmetricDifference = IsReadyAnd row.can_draw result
      (GivesByAll odd_of integer.value_count stream.may_give streams (row.may_give result))
