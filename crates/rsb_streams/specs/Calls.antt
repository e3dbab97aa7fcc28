-- Streams of which only the results of calls are known.
use Rattle.std.specs.Prelude.{◌≡◌, ◌⊎◌, ℕ, List, Option, Some, None, OnSome}
use Rattle.std.specs.Iterator.{IsFinite, IsNearerEnd, Yields}
use Rattle.std.specs.declared.iter.Iterator.{Ghosts as Iteration}
use Rattle.std.specs.declared.ops.RangeInclusive.{RangeInclusive}
use Rattle.rsb_integer.specs.Rank.{intervals_of}
use Rattle.rsb_integer.specs.Runs.{Interval}
use Rattle.rsb_integer.specs.declared.integer.Integer.{Ghosts as Elements}
use Rattle.rsb_streams.specs.Stream.{Outcomes}
use Rattle.rsb_streams.specs.declared.draw.Draw.{Ghosts as Stream}

module _ {S T : Type 0} (rank : T → ℕ) (call : S → Option (RangeInclusive T) → S → Type 0) where
  -- The lists that calls from `s` may give until they return `None`, or until no call can return a
  -- range.
  abbrev pub gives_by : S → Outcomes
  gives_by s runs = (ranges : List (RangeInclusive T)) × (t : S) × (runs ≡ intervals_of rank ranges)
      × Yields call s ranges t
      × (((u : S) × call t None u)
      ⊎ ((range : RangeInclusive T) (u : S) → ¬ (call t (Some range) u)))

module _ {I T : Type 0} (rank : T → ℕ) (iterator : Iteration I (RangeInclusive T)) where
  -- What the contract of `next` states about a call.
  pub record Call (s : I) (item : Option (RangeInclusive T)) (t : I) : Type 0 where
    pub gives : iterator.next_gives s item t
    pub nearer : IsFinite (iterator.remaining s)
        → OnSome item (IsNearerEnd iterator.can_next iterator.remaining s t)

  -- The lists that calls may give.
  abbrev pub calls_give : I → Outcomes
  calls_give = gives_by rank Call

  -- Whether the iterator may be called and ends, and whatever its calls have given at any point
  -- satisfies the law.
  pub record IsSource (law : List Interval → Type 0) (s : I) : Type 0 where
    pub callable : iterator.can_next s
    pub finite : IsFinite (iterator.remaining s)
    pub fronts : (ranges : List (RangeInclusive T)) (t : I) → Yields Call s ranges t
        → law (intervals_of rank ranges)

  -- Whether every iterator that the value converts into is such a source.
  abbrev pub GivesOnly : {J : Type 0} → (J → I → Type 0) → (List Interval → Type 0) → J → Type 0
  GivesOnly becomes law value = (iter : I) → becomes value iter → IsSource law iter

  -- What the iterator that the value converts into may give.
  abbrev pub gives_as : {J : Type 0} → (J → I → Type 0) → J → Outcomes
  gives_as becomes value runs = (iter : I) × becomes value iter × calls_give iter runs

-- An iterator as a stream, if its calls give only what satisfies the law.
abbrev pub calls : {I T N : Type 0} → Elements T N → Iteration I (RangeInclusive T)
    → (List Interval → Type 0) → Stream I T N
calls integer iterator law = record {
  can_draw = IsSource integer.rank iterator law;
  draw_gives = Call integer.rank iterator;
  draws_left = iterator.remaining;
  may_give = calls_give integer.rank iterator;
}
