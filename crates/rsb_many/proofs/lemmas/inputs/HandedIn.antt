-- A value that is passed as an iterator: its items are those of one run of calls up to `None`.
use Rattle.std.proofs.Common.{true, List, refl}
use Rattle.std.proofs.iter.runs.Made.{run, seen, to_end}
use Rattle.std.specs.Iterator.{DrainsIf, Yields}
use Rattle.std.proofs.lemmas.Result.{IfOk-weaker}
use Rattle.std.specs.Prelude.{⊤, length, IfOk, Option, None, Result}
use Rattle.rsb_streams.specs.Items.{GaveAll, GaveRun}
use Rattle.rsb_many.specs.HandedIn.{EachGaveRun}

module _ {J I X : Type 0} (becomes : J → I → Type 0) (steps : I → Option X → I → Type 0)
    (value : J) where
  -- If a fact holds of the items of a run, so does each fact that follows from it.
  pub gave-each : (Fact Other : List X → Type 0) → ((items : List X) → Fact items → Other items)
      → GaveRun becomes steps value Fact → GaveRun becomes steps value Other
  gave-each Fact Other follows gave = (
    gave.0,
    gave.1,
    (gave.2.0, gave.2.1, gave.2.2, follows gave.2.0.items gave.2.3),
  )

  -- The same holds in the result of a call that returned `Ok`.
  pub gave-ok : {Y E : Type 0} (result : Result Y E) (Fact Other : List X → Y → Type 0)
      → ((items : List X) (made : Y) → Fact items made → Other items made)
      → IfOk result (λ made. GaveRun becomes steps value (λ items. Fact items made))
      → IfOk result (λ made. GaveRun becomes steps value (λ items. Other items made))
  gave-ok result Fact Other follows = IfOk-weaker result
      (λ made. GaveRun becomes steps value (λ items. Fact items made))
      (λ made. GaveRun becomes steps value (λ items. Other items made))
      (λ made. gave-each (λ items. Fact items made) (λ items. Other items made)
      (λ items. follows items made))

  -- Items that came before `None` are the items of a whole run.
  pub ended-run : (Fact : List X → Type 0) (iter last next : I) (items : List X)
      → becomes value iter → Yields steps iter items last → steps last None next → Fact items
      → GaveRun becomes steps value Fact
  ended-run Fact iter last next items is came ended fact = (
    iter,
    is,
    (run steps iter items true (to_end steps iter items (next, (last, came, ended))), refl, refl, fact),
  )

  -- So are all items that a value gave.
  pub gave-run : (Fact : List X → Type 0) → GaveAll becomes steps value Fact
      → GaveRun becomes steps value Fact
  gave-run Fact gave = ended-run Fact gave.0 gave.3.1.0 gave.3.0 gave.1 gave.2 gave.3.1.1 gave.3.1.2
      gave.4

  module _ (iter : I) (items : List X) (is : becomes value iter) (drains : DrainsIf steps ⊤ iter items)
    where
      -- A fact that holds of each run's items holds of all that was collected.
      pub collected-each : (Fact : List X → Type 0) → EachGaveRun becomes steps value Fact → Fact items
      collected-each Fact each = each iter is
          (run steps iter items true
          (to_end steps iter items ((drains.2 tt).0, (drains.0, drains.1, (drains.2 tt).1))))
          (seen (length items)) refl

      -- What was collected is the items of one whole run.
      pub collected-run : (Fact : List X → Type 0) → Fact items → GaveRun becomes steps value Fact
      collected-run Fact fact =
          ended-run Fact iter drains.0 (drains.2 tt).0 items is drains.1 (drains.2 tt).1 fact
