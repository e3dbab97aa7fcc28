-- Which event of an input comes first, as its head shows.
use Rattle.std.proofs.Common.{◌≡◌, ℕ, Bool, true, false, cond, List, [], ◌∷◌, refl, sym, ◌∙◌, IsFalse, None, Option, Some}
use Rattle.std.specs.Prelude.{IfSome}
use Rattle.rsb_integer.specs.Runs.{Interval}
use Rattle.rsb_streams.specs.Stream.{outcomes_unless, Outcomes}
use Rattle.rsb_many.specs.Drawn.{has_begun}
use Rattle.rsb_many.specs.Heads.{key_of, run_of_head}
use Rattle.rsb_many.specs.Inputs.{is_over}
use Rattle.rsb_many.specs.Keys.{comes_before}
use Rattle.rsb_many.specs.Many.{gives_of}
use Rattle.rsb_many.specs.Sweep.{events_of_rest, key_of_event, rest_by, End, Event, Start}
use Rattle.rsb_many.specs.declared.heads.Head.{Head}
use Rattle.rsb_many.proofs.lemmas.inputs.OneInput.{held_of}
use Rattle.rsb_many.proofs.lemmas.heap.Keys.{comes_before-as}
use Rattle.rsb_many.proofs.lemmas.inputs.Rests.{not_before-nothing}
use Rattle.rsb_many.proofs.lemmas.events.Steps.{IsNotBefore}

module _ {T : Type 0} (rank : T → ℕ) where
  -- If the start of a head's range was reported, its key is that of the end.
  pub key-started : (head : Head T) (place : ℕ) → head.started ≡ true → head.input ≡ place
      → key_of rank head ≡ key_of_event (End (rank head.end) place)
  key-started head place is same = λ i. record {
    at = cond (is i) (rank head.end) (rank head.start);
    is_end = is i;
    input = same i;
  }

  -- Otherwise its key is that of the start.
  pub key-unstarted : (head : Head T) (place : ℕ) → head.started ≡ false → head.input ≡ place
      → key_of rank head ≡ key_of_event (Start (run_of_head rank head) place)
  key-unstarted head place is same = λ i. record {
    at = cond (is i) (rank head.end) (rank head.start);
    is_end = is i;
    input = same i;
  }

  -- If a head does not come before an event, neither does the first event of its range.
  head-not_before : (event : Event) (head : Head T) (place : ℕ) (begun : Bool)
      (runs : List Interval) → head.input ≡ place → begun ≡ head.started
      → IsFalse (comes_before (key_of rank head) (key_of_event event))
      → IsNotBefore (events_of_rest place (rest_by begun (run_of_head rank head ∷ runs))) event
  head-not_before event head place true runs same is later =
      comes_before-as (sym (key-started head place (sym is) same)) refl ∙ later
  head-not_before event head place false runs same is later =
      comes_before-as (sym (key-unstarted head place (sym is) same)) refl ∙ later

  -- If the head of an input does not come before an event, nor does any event of the input, unless a
  -- range is due.
  pub first-not_before : (event : Event) (found : Option (Head T)) (due : Bool) (place : ℕ)
      (may_give : Outcomes) → due ≡ false
      → IfSome found (λ head. (head.input ≡ place)
      × IsFalse (comes_before (key_of rank head) (key_of_event event)))
      → (runs : List Interval)
      → gives_of (record {
        held = held_of rank found;
        undrawn = outcomes_unless (is_over found due) may_give;
      }) runs
      → IsNotBefore (events_of_rest place (rest_by (has_begun found) runs)) event
  first-not_before event None due place may_give is later runs gives =
      let rest : gives.0 ≡ [] = rw is at gives.1 in
      let nothing : runs ≡ [] = gives.2 ∙ rest in
      rw nothing (not_before-nothing false place event)
  first-not_before event (Some head) due place may_give is later runs gives =
      rw gives.2 (head-not_before event head place head.started gives.0 later.0 refl later.1)
