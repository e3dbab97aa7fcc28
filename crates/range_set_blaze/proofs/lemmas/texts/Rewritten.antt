-- Every set of whole numbers has a text.
use Rattle.std.proofs.Common.{◌≡◌, ℕ, ℤ, List, [], ◌∷◌, Option, Some, refl, sym, ap, ◌∙◌, subst}
use Rattle.std.specs.Fmt.{◌++?◌, comma_space, debug_items}
use Rattle.std.specs.Option.{IfSome}
use Rattle.rsb_integer.specs.Runs.{Interval}
use Rattle.rsb_range_text.specs.Numbers.{AreNumbers}
use Rattle.range_set_blaze.specs.Written.{ends_text, run_text, runs_text}

module _ {T : Type 0} (rank : T → ℕ) (n : ℕ) (value_at : ℕ → T) (number : T → ℤ)
    (fits : ℤ → Type 0) (written : T → Option (List ℕ))
    (numbers : AreNumbers rank n number fits written) where
  abbrev text_at : ℕ → Option (List ℕ)
  text_at place = written (value_at place)

  -- Each run has a text.
  run-text : (run : Interval) → (text : List ℕ) × (run_text text_at run ≡ Some text)
  run-text run = (
    _,
    λ i. ends_text (numbers.decimal (value_at run.first) i) (numbers.decimal (value_at run.last) i),
  )

  -- Each list of runs has a text.
  items-text : (lead : List ℕ) (runs : List Interval)
      → (text : List ℕ) × (debug_items (run_text text_at) lead runs ≡ Some text)
  items-text lead [] = ([], refl)
  items-text lead (run ∷ runs) =
      let here = run-text run in
      let rest = items-text comma_space runs in
      (_, λ i. Some lead ++? here.1 i ++? rest.1 i)

  pub text-exists : (runs : List Interval)
      → (text : List ℕ) × (runs_text text_at runs ≡ Some text)
  text-exists runs = items-text [] runs

  -- What `to_string` returns for a set is the text of its runs.
  pub text-is : (runs : List Interval) (text : List ℕ)
      → IfSome (runs_text text_at runs) (λ bytes. text ≡ bytes)
      → runs_text text_at runs ≡ Some text
  text-is runs text told =
      let found = text-exists runs in
      found.1
      ∙ ap Some (sym (subst (λ (some : Option (List ℕ)). IfSome some (λ bytes. text ≡ bytes))
      found.1 told))
