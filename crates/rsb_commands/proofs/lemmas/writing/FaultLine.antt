-- What several calls of `write_str` append to a text.
use Rattle.std.proofs.Common.{◌≡◌, ◌∙◌, ℕ, List, [], ◌∷◌, ◌++◌, sym, ap, subst, append_assoc}
use Rattle.std.proofs.lemmas.List.{append-nil}
use Rattle.std.specs.Fmt.{WritesInCalls}
use Rattle.std.specs.List.{FoldsTo, concat}
use Rattle.arrayvec.specs.ArrayString.{ArrayString}

-- Whether one call appends what it is given.
abbrev pub Takes : ArrayString → List ℕ → ArrayString → Type 0
Takes old part new = new.bytes ≡ old.bytes ++ part

appended_by_calls : (old : ArrayString) (parts : List (List ℕ)) (new : ArrayString)
    → FoldsTo Takes old parts new → Takes old (concat parts) new
appended_by_calls old [] new calls = ap (λ text. text.bytes) (sym calls)
    ∙ sym (append-nil old.bytes)
appended_by_calls old (part ∷ parts) new calls = appended_by_calls calls.0 parts new calls.2
    ∙ ap (λ bytes. bytes ++ concat parts) calls.1
    ∙ append_assoc old.bytes part (concat parts)

-- Calls that write a text append it.
pub appended : (old : ArrayString) (text : List ℕ) (new : ArrayString)
    → WritesInCalls Takes old text new → Takes old text new
appended old text new wrote = subst (λ whole. Takes old whole new) wrote.whole
    (appended_by_calls old wrote.parts new wrote.calls)
