-- What is still to come from a source to which a range may be put back.
use Rattle.std.proofs.Common.{◌≡◌, ◌+◌, ◌<◌, Bool, true, false, ◌∷◌, refl, sym, ap, subst, arith}
use Rattle.std.specs.Iterator.{Count, IsFinite, MakesProgress, count_map, count_unless, size}
use Rattle.std.specs.Option.{option_len}
use Rattle.std.specs.Prelude.{Option, Some, None, IfNone, MatchOption, OnSome, is_none}
use Rattle.std.specs.declared.ops.RangeInclusive.{RangeInclusive}
use Rattle.rsb_integer.specs.declared.integer.Integer.{Ghosts as Elements}
use Rattle.rsb_integer.specs.Rank.{interval_of}
use Rattle.rsb_streams.specs.PutBack.{put_back}
use Rattle.rsb_streams.specs.Rows.{IsSorted}
use Rattle.rsb_streams.specs.laws.Stream.{sorted-lower}
use Rattle.rsb_streams.specs.declared.draw.Draw.{Ghosts as Stream}
use Rattle.rsb_streams.specs.declared.put_back.PutBack.{PutBack}

-- The flag for the end is set exactly if the draw returned `None`.
pub told : {A : Type 0} (item : Option A) (ended : Bool) → ended ≡ is_none item
    → MatchOption item (ended ≡ true) (λ _. ended ≡ false)
told None ended is = is
told (Some x) ended is = is

module _ {T N I : Type 0} (integer : Elements T N) (source : Stream I T N)
    (sorted : IsSorted integer source) where
  -- Whether the source is ready.
  abbrev Ready : PutBack T I → Type 0
  Ready = (put_back integer source).can_draw

  -- The number of ranges that are left, by what is held and whether the source has ended.
  abbrev left_by : Option (RangeInclusive T) → Bool → I → Count
  left_by held done i = count_map (λ count. count + option_len held) (count_unless done (source.draws_left i))

  -- If nothing is held and the source has not ended, a draw makes progress as the source does.
  goes-by : (held after : Option (RangeInclusive T)) (done ended : Bool) (i j : I)
      (item : Option (RangeInclusive T)) → held ≡ None → after ≡ None → done ≡ false
      → ended ≡ is_none item → MakesProgress source.can_draw source.draws_left i item j
      → (IsFinite (left_by held done i) → OnSome item
      (Ready (record { held = after; iter = j; done = ended }) × IsFinite (left_by after ended j)
      × (size (left_by after ended j) < size (left_by held done i))))
      × OnSome item (Ready (record { held = after; iter = j; done = ended }))
      × (IsFinite (left_by held done i) → IfNone item (IsFinite (left_by after ended j)))
  goes-by (Some range) after done ended i j item none over undone end goes = absurd (cc)
  goes-by None (Some range) done ended i j item none over undone end goes = absurd (cc)
  goes-by None None true ended i j item none over undone end goes = absurd (cc)
  goes-by None None false true i j (Some range) none over undone end goes = absurd (cc)
  goes-by None None false false i j None none over undone end goes = absurd (cc)
  goes-by None None false true i j None none over undone end goes =
      ((λ finite. tt), tt, (λ finite. tt))
  goes-by None None false false i j (Some range) none over undone end goes =
      let ready : Ready (record { held = None; iter = j; done = false }) = record {
        callable = λ is. goes.keeps;
        sorted = (sorted j goes.keeps).all;
      } in (
        (λ finite. let fewer = goes.on finite in (ready, fewer.1, omega (arith, fewer.2))),
        ready,
        (λ finite. tt),
      )

  -- A draw makes progress as the source does.
  pub drawn-goes : (s : PutBack T I) (after : Option (RangeInclusive T)) (ended : Bool) (j : I)
      (item : Option (RangeInclusive T)) → s.held ≡ None → after ≡ None → s.done ≡ false
      → ended ≡ is_none item → MakesProgress source.can_draw source.draws_left s.iter item j
      → MakesProgress Ready (put_back integer source).draws_left s item
      (record { held = after; iter = j; done = ended })
  drawn-goes s after ended j item none over undone end goes =
      let parts = goes-by s.held after s.done ended s.iter j item none over undone end goes in
      record { on = parts.0; keeps = parts.1; rests = parts.2 }

  -- If a range is held and the stream is ready, it is also ready without the range.
  held-ready : (i : I) (done : Bool) (range : RangeInclusive T)
      → Ready (record { held = Some range; iter = i; done = done })
      → Ready (record { held = None; iter = i; done = done })
  held-ready i done range ready = record {
    callable = ready.callable;
    sorted = λ runs may.
        let all = ready.sorted (interval_of integer.rank range ∷ runs)
        (record { rest = runs; given = may; is = refl }) in
        sorted-lower integer.value_count (interval_of integer.rank range).first 0 runs (omega arith)
        all.rest;
  }

  -- A draw that returns the held range makes progress.
  pub held-goes : (s : PutBack T I) (after : Option (RangeInclusive T)) (range : RangeInclusive T)
      → s.held ≡ Some range → after ≡ None → Ready s
      → MakesProgress Ready (put_back integer source).draws_left s (Some range)
      (record { held = after; iter = s.iter; done = s.done })
  held-goes s after range is none ready =
      let now = held-ready s.iter s.done range
      (subst (λ held. Ready (record { held = held; iter = s.iter; done = s.done })) is ready) in
      subst (λ each. MakesProgress Ready (put_back integer source).draws_left s (Some range)
      (record { held = each; iter = s.iter; done = s.done })) (sym none)
      (record {
        on = λ finite. (now, finite, let more = ap option_len is in omega (arith, more));
        keeps = now;
        rests = λ finite. tt;
      })
