-- Lines that are read from an input, of which the bytes may be known.
use Rattle.std.proofs.Common.{◌≡◌, ◌∙◌, ℕ, ◌+◌, ◌-◌, ◌<◌, ◌≤◌, List, [], ◌∷◌, ◌++◌, Option, Some, None, Result, Ok, Err, drop, length, refl, sym, ap, subst, arith, length-drop}
use Rattle.std.proofs.lemmas.List.{drop-append-le, drop-drop, take-append-drop}
use Rattle.std.specs.Io.{StartsWith}
use Rattle.std.specs.Io.BufRead.{DropsConsumable, DropsThrough, drop_through, take_through}
use Rattle.std.specs.Io.KnownBytes.{IsAtEnd, Keeps}
use Rattle.std.specs.Prelude.{IfErr, IfSome, OnOk}
use Rattle.std.specs.Result.{IsErrAnd}

-- What holds of bytes that are known to be these holds of the known bytes.
pub IfSome-from : (known : Option (List ℕ)) (Fact : List ℕ → Type 0)
    → ((bytes : List ℕ) → known ≡ Some bytes → Fact bytes) → IfSome known Fact
IfSome-from None Fact holds = tt
IfSome-from (Some bytes) Fact holds = holds bytes refl

-- A reader that shows the start of its bytes has that start and the others.
pub shown_front : (before : Option (List ℕ)) (shown rest : List ℕ) → before ≡ Some rest
    → IfSome before (λ known. StartsWith known shown) → shown ++ drop (length shown) rest ≡ rest
shown_front None shown rest is front = absurd cc is
shown_front (Some known) shown rest is front =
    let same : known ≡ rest = cc is in
    ap (λ start. start ++ drop (length shown) rest)
    (sym (subst (λ bytes. StartsWith bytes shown) same front))
    ∙ take-append-drop (length shown) rest

-- If a reader consumes some of what it shows, the rest of that is left, and the others.
pub shown_consumed : (before rested after : Option (List ℕ)) (limit : Option ℕ)
    (shown rest : List ℕ) (count : ℕ) → before ≡ Some rest
    → IfSome before (λ known. StartsWith known shown) → Keeps before rested
    → IfSome before (λ _. IfSome limit (λ most. length shown ≤ most))
    → DropsConsumable rested after limit count → count ≤ length shown
    → after ≡ Some (drop count shown ++ drop (length shown) rest)
shown_consumed None rested after limit shown rest count is front keeps room drops within =
    absurd cc is
shown_consumed (Some known) None after limit shown rest count is front keeps room drops within =
    absurd keeps
shown_consumed (Some known) (Some left) after limit shown rest count is front keeps room drops within =
    let same : known ≡ rest = cc is in
    let all = shown_front (Some known) shown rest is front in
    drops (enough limit room)
    ∙ ap (λ bytes. Some (drop count bytes)) (keeps ∙ same ∙ sym all)
    ∙ ap Some (drop-append-le count shown (drop (length shown) rest) within)
  where
    enough : (limit : Option ℕ) → IfSome limit (λ most. length shown ≤ most)
        → IfSome limit (λ most. count ≤ most)
    enough None room = tt
    enough (Some most) room = omega arith

-- What is left past the first bytes of the end of the bytes is the end of the bytes too.
pub rest_on : (bytes rest : List ℕ) (n : ℕ) → length rest ≤ length bytes
    → rest ≡ drop (length bytes - length rest) bytes → n ≤ length rest
    → drop n rest ≡ drop (length bytes - length (drop n rest)) bytes
rest_on bytes rest n within is few =
    let place : length bytes - length rest + n ≡ length bytes - length (drop n rest) =
    omega (arith, length-drop n rest, within, few) in
    ap (drop n) is ∙ drop-drop n (length bytes - length rest) bytes ∙ ap (λ k. drop k bytes) place

-- A fault is passed on as it is.
pub err_same : {T E : Type 0} (result : Result T E) (fault : E) (Fact : E → Type 0)
    → IsErrAnd result (λ each. each ≡ fault) → Fact fault → IfErr result Fact
err_same (Ok value) fault Fact told holds = absurd told
err_same (Err each) fault Fact told holds = subst Fact (sym told) holds

-- What follows from what a fault is holds of it.
pub err_weaker : {T E : Type 0} (result : Result T E) (Is Fact : E → Type 0) → IsErrAnd result Is
    → ((fault : E) → Is fault → Fact fault) → IfErr result Fact
err_weaker (Ok value) Is Fact told holds = absurd told
err_weaker (Err fault) Is Fact told holds = holds fault told

-- What holds holds after a success.
pub ok_holds : {T E : Type 0} (result : Result T E) (P : Type 0) → P → OnOk result P
ok_holds (Ok value) P holds = holds
ok_holds (Err fault) P holds = tt

-- The line that was read into an empty buffer, and the bytes that are left.
pub read_line : (before after : Option (List ℕ)) (buffer line rest : List ℕ) → before ≡ Some rest
    → buffer ≡ [] → IfSome before (λ known. line ≡ buffer ++ take_through 10 known)
    → DropsThrough before after 10
    → (line ≡ take_through 10 rest) × (after ≡ Some (drop_through 10 rest))
read_line None after buffer line rest is empty bytes drops = absurd cc is
read_line (Some known) after buffer line rest is empty bytes drops =
    let same : known ≡ rest = cc is in (
      bytes ∙ ap (λ front. front ++ take_through 10 known) empty ∙ ap (take_through 10) same,
      drops ∙ ap (λ left. Some (drop_through 10 left)) same,
    )

-- At the end of the input no byte is left.
pub none_left : (before : Option (List ℕ)) (rest : List ℕ) → before ≡ Some rest → IsAtEnd before
    → rest ≡ []
none_left None rest is end = absurd cc is
none_left (Some known) rest is end =
    let same : known ≡ rest = cc is in
    sym same ∙ end
