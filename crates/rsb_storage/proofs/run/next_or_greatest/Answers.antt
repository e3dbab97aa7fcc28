use Rattle.std.proofs.Common.{◌≡◌, ℕ, ◌+◌, ◌-◌, ◌<◌, min, Option, Some, None, refl, arith}
use Rattle.std.specs.Prelude.{◌↔◌, IfSome, IsNone}
use Rattle.std.specs.Option.{unwrap_or}
use Rattle.rsb_streams.proofs.lemmas.checking.Comparisons.{next-value}
use Rattle.rsb_storage.proofs.run.next_or_greatest.Goals as goal

-- A next value has the next rank. If there is none, the value itself has the last rank of the type.
next-rank : {T : Type 0} (rank : T → ℕ) (n : ℕ) (value : T) (next : Option T) → rank value < n
    → (IsNone next ↔ (rank value + 1 ≡ n)) → IfSome next (λ next. rank next ≡ rank value + 1)
    → rank (unwrap_or next value) ≡ min (rank value + 1) (n - 1)
next-rank rank n value None within none next = omega (arith, none.0 refl)
next-rank rank n value (Some other) within none next =
    let later = next-value n (rank value) (rank other) within
    (λ last. let no = none.1 last in absurd (cc)) next in omega (arith, later, next)

pub returns : goal.returns
returns g c =
    let next = c.checked_add_one.ensures in
    rw c.unwrap_or.ensures (next-rank g.T.Integer.rank g.T.Integer.value_count c.args.value
    c.checked_add_one.result next.value next.none next.next)
