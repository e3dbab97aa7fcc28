-- Events that were passed, one after the other.
use Rattle.std.proofs.Common.{◌≡◌, inl, inr, ℕ, nat_eq, List, [], ◌∷◌, ◌++◌, map, append_assoc, refl, sym, ap, subst, ◌∙◌, arith}
use Rattle.std.proofs.lemmas.List.{append-nil, map-append}
use Rattle.rsb_integer.specs.Runs.{Interval}
use Rattle.rsb_integer.proofs.lemmas.List.{true_or_false}
use Rattle.rsb_streams.specs.Lookahead.{undrawn_input, Ends, Input, Uses}
use Rattle.rsb_streams.specs.Stream.{just}
use Rattle.rsb_streams.proofs.lemmas.lookahead.EachCall.{uses-nothing, uses-then}
use Rattle.rsb_many.specs.Many.{HoldOneAtMost}
use Rattle.rsb_many.specs.MultiwaySweep.{AsksAt}
use Rattle.rsb_many.specs.Sweep.{End, Event, Start}
use Rattle.rsb_many.specs.SweepPieces.{ends_at, PassesAll, PassesSome, Telling, UsesTo}
use Rattle.rsb_many.proofs.lemmas.inputs.Places.{at-place, nat_eq-differs, nat_eq-itself}

-- The ends of an input's ranges in two lists of events are those in the first and those in the
-- second.
ends_at-append : (place : ℕ) (events others : List Event)
    → ends_at place (events ++ others) ≡ ends_at place events ++ ends_at place others
ends_at-append place [] others = refl
ends_at-append place (Start range input ∷ events) others = ends_at-append place events others
ends_at-append place (End last input ∷ events) others =
    let rest = ends_at-append place events others in
    elim (true_or_false (nat_eq input place)) [
      | inl here ↦ rw here (ap (λ ends. last ∷ ends) rest)
      | inr there ↦ rw there rest
    ]

-- If an input uses ranges that end at some ranks and then at others, it uses ranges that end at all
-- of these.
uses_to-then : (first second third : Input) (lasts others : List ℕ) → UsesTo lasts first second
    → UsesTo others second third → UsesTo (lasts ++ others) first third
uses_to-then first second third lasts others before after = record {
  used = before.used ++ after.used;
  uses = uses-then first second third before.used after.used before.uses after.uses;
  ends = map-append (λ (run : Interval). run.last) before.used after.used
      ∙ (ap (λ ends. ends ++ map (λ (run : Interval). run.last) after.used) before.ends
      ∙ ap (λ ends. lasts ++ ends) after.ends);
}

-- An input that uses nothing uses ranges that end at no rank.
uses_to-none : (before now : Input) → Uses before [] now → UsesTo [] before now
uses_to-none before now uses = record { used = []; uses = uses; ends = refl }

-- When a sweep gives an event, each input uses the range that the event ends, if it has one.
asks-uses : (before now : ℕ → Input) (event : Event) → AsksAt before event now → (place : ℕ)
    → UsesTo (ends_at place (event ∷ [])) (before place) (now place)
asks-uses before now (Start range input) asks =
    λ place. uses_to-none (before place) (now place) (asks.uses place)
asks-uses before now (End last input) asks = at-place
    (λ place. UsesTo (ends_at place (End last input ∷ [])) (before place) (now place)) input
    (rw (nat_eq-itself input) (record {
      used = asks.run ∷ [];
      uses = asks.here.uses;
      ends = ap (λ each. each ∷ []) asks.ends;
    }))
    (λ place differs. rw (nat_eq-differs input place differs)
    (uses_to-none (before place) (now place) (asks.elsewhere place differs)))

-- If some events were passed, and the sweep gives one more, those and this one were passed.
pub passes-more : (first second third : Telling) (event : Event) → PassesSome first second
    → ((rest : List Event) → third.events rest → second.events (event ∷ rest))
    → AsksAt second.inputs event third.inputs → HoldOneAtMost third.inputs
    → PassesSome first third
passes-more first second third event before told asks holds = record {
  passed = before.passed ++ event ∷ [];
  come = λ rest may. subst first.events (sym (append_assoc before.passed (event ∷ []) rest))
      (before.come (event ∷ rest) (told rest may));
  uses = λ place. subst (λ ends. UsesTo ends (first.inputs place) (third.inputs place))
      (sym (ends_at-append place before.passed (event ∷ [])))
      (uses_to-then (first.inputs place) (second.inputs place) (third.inputs place)
      (ends_at place before.passed) (ends_at place (event ∷ [])) (before.uses place)
      (asks-uses second.inputs third.inputs event asks place));
  holds = holds;
}

-- If some events were passed and the sweep ends, all events were passed.
pub passes-end : (first second third : Telling) → PassesSome first second → second.events []
    → ((place : ℕ) → Ends (second.inputs place) (third.inputs place)) → PassesAll first third
passes-end first second third before none ends = record {
  passes = record {
    passed = before.passed;
    come = λ rest is. subst (λ each. first.events (before.passed ++ each)) (sym is)
        (before.come [] none);
    uses = λ place. subst (λ lasts. UsesTo lasts (first.inputs place) (undrawn_input (just [])))
        (append-nil (ends_at place before.passed))
        (uses_to-then (first.inputs place) (second.inputs place) (undrawn_input (just []))
        (ends_at place before.passed) [] (before.uses place)
        (uses_to-none (second.inputs place) (undrawn_input (just [])) (ends place).uses));
    holds = λ place. omega arith;
  };
  over = λ place. (ends place).over;
}

-- If nothing changes, no events were passed.
pub passes-none : (telling : Telling) → HoldOneAtMost telling.inputs → PassesSome telling telling
passes-none telling holds = record {
  passed = [];
  come = λ rest may. may;
  uses = λ place. uses_to-none (telling.inputs place) (telling.inputs place)
      (uses-nothing (telling.inputs place));
  holds = holds;
}

-- If some events were passed, and then others, all of these were passed.
pub passes-then : (first second third : Telling) → PassesSome first second
    → PassesSome second third → PassesSome first third
passes-then first second third before after = record {
  passed = before.passed ++ after.passed;
  come = λ rest may. subst first.events (sym (append_assoc before.passed after.passed rest))
      (before.come (after.passed ++ rest) (after.come rest may));
  uses = λ place. subst (λ ends. UsesTo ends (first.inputs place) (third.inputs place))
      (sym (ends_at-append place before.passed after.passed))
      (uses_to-then (first.inputs place) (second.inputs place) (third.inputs place)
      (ends_at place before.passed) (ends_at place after.passed) (before.uses place)
      (after.uses place));
  holds = after.holds;
}
