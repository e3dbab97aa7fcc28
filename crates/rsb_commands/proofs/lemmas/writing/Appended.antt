-- The bytes that a writer takes, one part after the other.
use Rattle.std.proofs.Common.{◌≡◌, ◌∙◌, ℕ, List, [], ◌++◌, take, drop, Option, Some, None, refl, sym, ap, append_assoc}
use Rattle.std.proofs.lemmas.List.{append-nil, take-append-drop}
use Rattle.std.specs.Io.KnownBytes.{Appends, Keeps}

-- If nothing changes, the known bytes are kept.
pub Keeps-itself : (known : Option (List ℕ)) → Keeps known known
Keeps-itself None = tt
Keeps-itself (Some xs) = refl

-- If nothing changes, nothing was written.
pub Appends-nothing : (known : Option (List ℕ)) → Appends known known []
Appends-nothing None = tt
Appends-nothing (Some xs) = sym (append-nil xs)

-- If two parts were written one after the other, both together were written.
pub Appends-then : (old mid new : Option (List ℕ)) (xs ys : List ℕ)
    → Appends old mid xs → Appends mid new ys → Appends old new (xs ++ ys)
Appends-then None mid new xs ys first second = tt
Appends-then (Some before) None new xs ys first second = absurd first
Appends-then (Some before) (Some between) None xs ys first second = absurd second
Appends-then (Some before) (Some between) (Some after) xs ys first second =
    second ∙ ap (λ v. v ++ ys) first ∙ append_assoc before xs ys

-- Whether all of the text except `rest` was written.
pub record HasWritten (old new : Option (List ℕ)) (text rest : List ℕ) : Type 0 where
  pub front : List ℕ
  pub parts : text ≡ front ++ rest
  pub written : Appends old new front

-- If the first n bytes of the rest are written too, what follows them is left.
pub has_written_more : (old mid new : Option (List ℕ)) (text rest : List ℕ) (n : ℕ)
    → HasWritten old mid text rest → Appends mid new (take n rest)
    → HasWritten old new text (drop n rest)
has_written_more old mid new text rest n before more = record {
  front = before.front ++ take n rest;
  parts = before.parts ∙ ap (λ v. before.front ++ v) (sym (take-append-drop n rest))
      ∙ sym (append_assoc before.front (take n rest) (drop n rest));
  written = Appends-then old mid new before.front (take n rest) before.written more;
}
