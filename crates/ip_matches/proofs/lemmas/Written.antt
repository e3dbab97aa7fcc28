-- The bytes that a writer takes, one part after the other.
use Rattle.std.proofs.Common.{◌≡◌, ◌∙◌, ℕ, List, [], ◌∷◌, ◌++◌, take, drop, Option, Some, None, Result, Ok, Err, refl, sym, ap, append_assoc, subst}
use Rattle.std.proofs.lemmas.List.{append-nil, take-append-drop}
use Rattle.std.specs.Io.KnownBytes.{Appends}
use Rattle.std.specs.Result.{IsErrAnd}
use Rattle.ip_matches.specs.Transfer.{HasWritten, Sends, Writes, WritesPart}

-- If nothing changes, nothing was written.
pub Appends-nothing : (known : Option (List ℕ)) → Appends known known []
Appends-nothing None = tt
Appends-nothing (Some xs) = sym (append-nil xs)

-- If two parts were written one after the other, both together were written.
pub Appends-then : (old mid new : Option (List ℕ)) (xs ys : List ℕ)
    → Appends old mid xs → Appends mid new ys → Appends old new (xs ++ ys)
Appends-then None mid new xs ys first second = tt
Appends-then (Some before) None new xs ys first second = absurd first
Appends-then (Some before) (Some between) None xs ys first second = absurd second
Appends-then (Some before) (Some between) (Some after) xs ys first second =
    second ∙ ap (λ v. v ++ ys) first ∙ append_assoc before xs ys

-- At first, all is left.
pub written_none : (known : Option (List ℕ)) (bytes : List ℕ) → HasWritten known known bytes bytes
written_none known bytes = record {
  front = [];
  parts = refl;
  written = Appends-nothing known;
}

-- At the end, nothing is left.
pub written_all : (old new : Option (List ℕ)) (bytes : List ℕ) → HasWritten old new bytes []
    → Appends old new bytes
written_all old new bytes written =
    subst (Appends old new) (sym (written.parts ∙ append-nil written.front)) written.written

-- What was left, and more bytes, were written except for what waits now.
pub written_on : (old mid new : Option (List ℕ)) (whole from rest tail : List ℕ)
    → HasWritten old mid whole from → HasWritten mid new (from ++ tail) rest
    → HasWritten old new (whole ++ tail) rest
written_on old mid new whole from rest tail before after = record {
  front = before.front ++ after.front;
  parts = ap (λ v. v ++ tail) before.parts
      ∙ append_assoc before.front from tail
      ∙ ap (λ v. before.front ++ v) after.parts
      ∙ sym (append_assoc before.front after.front rest);
  written = Appends-then old mid new before.front after.front before.written after.written;
}

-- Only a part of what was left, and of more bytes, was written.
pub part_on : (old mid new : Option (List ℕ)) (whole from tail : List ℕ)
    → HasWritten old mid whole from → WritesPart mid new (from ++ tail)
    → WritesPart old new (whole ++ tail)
part_on old mid new whole from tail before after = record {
  rest = after.rest;
  some = after.some;
  written = written_on old mid new whole from after.rest tail before after.written;
}

-- Only a part of what was left was written.
pub part_last : (old mid new : Option (List ℕ)) (whole from : List ℕ)
    → HasWritten old mid whole from → WritesPart mid new from → WritesPart old new whole
part_last old mid new whole from before after =
    subst (WritesPart old new) (append-nil whole)
    (part_on old mid new whole from [] before
    (subst (WritesPart mid new) (sym (append-nil from)) after))

-- What was left was written.
pub all_last : (old mid new : Option (List ℕ)) (whole from : List ℕ)
    → HasWritten old mid whole from → Appends mid new from → Appends old new whole
all_last old mid new whole from before after =
    subst (Appends old new) (sym before.parts)
    (Appends-then old mid new before.front from before.written after)

-- The first n bytes of what is left were written too.
pub written_more : (old mid new : Option (List ℕ)) (whole rest : List ℕ) (n : ℕ)
    → HasWritten old mid whole rest → Appends mid new (take n rest)
    → HasWritten old new whole (drop n rest)
written_more old mid new whole rest n before more = record {
  front = before.front ++ take n rest;
  parts = before.parts ∙ ap (λ v. before.front ++ v) (sym (take-append-drop n rest))
      ∙ sym (append_assoc before.front (take n rest) (drop n rest));
  written = Appends-then old mid new before.front (take n rest) before.written more;
}

-- What waited was written, and the bytes wait now.
pub waits_after : (old new : Option (List ℕ)) (waited bytes waits : List ℕ) → Appends old new waited
    → waits ≡ bytes → HasWritten old new (waited ++ bytes) waits
waits_after old new waited bytes waits written is = record {
  front = waited;
  parts = ap (λ v. waited ++ v) (sym is);
  written = written;
}

-- Only a part of what waited was written, and so only a part of it and more bytes.
pub part_before : (old new : Option (List ℕ)) (waited bytes : List ℕ) → WritesPart old new waited
    → WritesPart old new (waited ++ bytes)
part_before old new waited bytes part = record {
  rest = part.rest ++ bytes;
  some = some_more part.rest bytes part.some;
  written = record {
    front = part.written.front;
    parts = ap (λ v. v ++ bytes) part.written.parts
        ∙ append_assoc part.written.front part.rest bytes;
    written = part.written.written;
  };
}
  where
    some_more : (xs ys : List ℕ) → (xs ≡ [] → ⊥) → xs ++ ys ≡ [] → ⊥
    some_more [] ys some is = absurd (some refl)
    some_more (x ∷ xs) ys some is = absurd cc

-- The bytes were laid in two parts.
pub sends_both : {R E : Type 0} (result : Result R E) (old mid new : Option (List ℕ))
    (first second third waits last : List ℕ)
    → HasWritten old mid (first ++ second) waits → Sends mid new (waits ++ third) last result
    → Sends old new (first ++ (second ++ third)) last result
sends_both (Ok done) old mid new first second third waits last before after =
    subst (λ all. HasWritten old new all last) (append_assoc first second third)
    (written_on old mid new (first ++ second) waits last third before after)
sends_both (Err fault) old mid new first second third waits last before after =
    subst (WritesPart old new) (append_assoc first second third)
    (part_on old mid new (first ++ second) waits third before after)

-- The bytes were written at once, after what waited.
pub sends_at_once : {R E : Type 0} (result : Result R E) (old mid new : Option (List ℕ))
    (waited bytes waits : List ℕ) → Appends old mid waited → waits ≡ [] → Writes mid new result bytes
    → Sends old new (waited ++ bytes) waits result
sends_at_once (Ok done) old mid new waited bytes waits before empty after = record {
  front = waited ++ bytes;
  parts = sym (ap (λ v. (waited ++ bytes) ++ v) empty ∙ append-nil (waited ++ bytes));
  written = Appends-then old mid new waited bytes before after;
}
sends_at_once (Err fault) old mid new waited bytes waits before empty after =
    part_on old mid new waited [] bytes
    (record { front = waited; parts = sym (append-nil waited); written = before }) after

-- Only a part of the bytes was written.
pub sends_part : {R E : Type 0} (result : Result R E) (fault : E) (old new : Option (List ℕ))
    (bytes waits : List ℕ) → IsErrAnd result (λ each. each ≡ fault) → WritesPart old new bytes
    → Sends old new bytes waits result
sends_part (Ok done) fault old new bytes waits told part = absurd told
sends_part (Err each) fault old new bytes waits told part = part
