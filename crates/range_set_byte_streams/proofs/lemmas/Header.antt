-- The header, byte by byte.
use Rattle.std.proofs.Common.{◌≡◌, ◌≢◌, ◌∙◌, ℕ, ◌+◌, ◌<◌, List, [], ◌∷◌, ◌++◌, drop, get_or, length, take, Option, Some, None, refl, sym, ap, subst, append_assoc, arith}
use Rattle.std.proofs.Math.Seq.{drop-append_seam, take-append_seam}
use Rattle.std.proofs.lemmas.List.{get_or-append-add, get_or_append_left, length-append, length-take, take_more}
use Rattle.std.specs.Io.KnownBytes.{Consumes, Keeps}
use Rattle.rsb_integer.specs.Runs.{Interval}
use Rattle.range_set_bytes.specs.Fault.{HasReason}
use Rattle.range_set_bytes.specs.Format.{bytes_of, bytes_of_runs, header}
use Rattle.range_set_bytes.specs.Leb128.{leb128}
use Rattle.range_set_bytes.specs.declared.fault.Fault.{Fault}
use Rattle.range_set_bytes.specs.declared.fault.Reason.{Reason}
use Rattle.range_set_bytes.specs.declared.fault.Reason.TheVariants.{CutShort}
use Rattle.range_set_bytes.proofs.lemmas.Header.{header-fault, header-first}
use Rattle.range_set_byte_streams.specs.Source.{IsPast, Shows, StopsAt}
use Rattle.range_set_byte_streams.proofs.lemmas.Source.{consumed, kept, past-front, shown-end, shown-parts, Begins}

-- Nothing of the header was consumed.
pub header-none : (known : Option (List ℕ)) (head : List ℕ) → Consumes known known (take 0 head)
header-none None head = tt
header-none (Some bytes) head = refl

-- A byte more of the header was consumed.
pub header-more : (known old mid : Option (List ℕ)) (head : List ℕ) (place byte : ℕ)
    → place < length head → byte ≡ get_or head place 0
    → ((rest : List ℕ) → old ≡ Some rest → Begins rest byte mid)
    → Consumes known old (take place head) → Consumes known mid (take (place + 1) head)
header-more None old mid head place byte within is next before = tt
header-more (Some bytes) None mid head place byte within is next before = absurd before
header-more (Some bytes) (Some rest) mid head place byte within is next before =
    let begins = next rest refl in
    subst (λ (now : Option (List ℕ)). Consumes (Some bytes) now (take (place + 1) head)) (sym begins.left)
    (before ∙ ap (λ (tail : List ℕ). take place head ++ tail) begins.parts
    ∙ sym (append_assoc (take place head) (byte ∷ []) begins.after)
    ∙ ap (λ (last : ℕ). (take place head ++ last ∷ []) ++ begins.after) is
    ∙ ap (λ (front : List ℕ). front ++ begins.after) (sym (take_more head place 0 within)))

module _ (n : ℕ) (bytes : List ℕ) (known old now : Option (List ℕ)) (place : ℕ) (is : known ≡ Some bytes)
    (before : Consumes known old (take place (header n))) (short : place < 6) (keeps : Keeps old now) where
  abbrev front : List ℕ
  front = take place (header n)

  pub parts : (rest : List ℕ) × (bytes ≡ front ++ rest) × (old ≡ Some rest)
  parts = consumed known old bytes front is before

  abbrev rest : List ℕ
  rest = parts.0

  front-length : length front ≡ place
  front-length = omega (arith, length-take place (header n))

  left : now ≡ Some rest
  left = kept old now rest parts.2 keeps

  long : length bytes ≡ place + length rest
  long = omega (arith, ap length parts.1, length-append front rest, front-length)

  -- What was consumed is past.
  pub header-past : IsPast bytes now
  header-past = past-front bytes front rest now parts.1 left

  next-byte : get_or bytes place 0 ≡ get_or rest 0 0
  next-byte =
      let start : length front + 0 ≡ place = omega (arith, front-length) in
      ap (λ (all : List ℕ). get_or all place 0) parts.1
      ∙ ap (λ (k : ℕ). get_or (front ++ rest) k 0) (sym start)
      ∙ get_or-append-add front rest 0 0

  -- The bytes of each set begin with the byte of the header.
  set-byte : (runs : List Interval) (more : List ℕ) → bytes ≡ bytes_of n runs ++ more
      → get_or (header n) place 0 ≡ get_or bytes place 0
  set-byte runs more whole =
      let tail = leb128 (length runs) ++ bytes_of_runs 0 runs in
      let all : bytes ≡ header n ++ (tail ++ more)
      = whole ∙ ap (λ (set : List ℕ). set ++ more) (header-first n runs) ∙ append_assoc (header n) tail more in
      sym (get_or_append_left (header n) (tail ++ more) 0 place (omega arith))
      ∙ ap (λ (all : List ℕ). get_or all place 0) (sym all)

  set-long : (runs : List Interval) (more : List ℕ) → bytes ≡ bytes_of n runs ++ more
      → place < length bytes
  set-long runs more whole =
      let tail = leb128 (length runs) ++ bytes_of_runs 0 runs in
      let all : bytes ≡ header n ++ (tail ++ more)
      = whole ∙ ap (λ (set : List ℕ). set ++ more) (header-first n runs) ∙ append_assoc (header n) tail more in
      omega (arith, ap length all, length-append (header n) (tail ++ more))

  -- The byte there is not that of the header.
  pub header-stops : (fault : Fault) → fault.place ≡ place
      → (0 < length rest → get_or (header n) place 0 ≢ get_or rest 0 0)
      → HasReason n bytes fault.reason place → StopsAt bytes now n fault
  header-stops fault at differs reason = record {
    alone = λ runs more writable whole.
        let some = set-long runs more whole in
        differs (omega (arith, long)) (set-byte runs more whole ∙ next-byte);
    fault_is = header-fault n bytes place
        (ap (take place) parts.1 ∙ ap (λ (k : ℕ). take k (front ++ rest)) (sym front-length)
        ∙ take-append_seam front rest)
        (omega (arith, long)) short fault at
        (λ less same. differs (omega (arith, long, less)) (same ∙ next-byte)) reason;
    left = left ∙ ap Some (sym (drop-append_seam front rest)
        ∙ ap (λ (k : ℕ). drop k (front ++ rest)) (front-length ∙ sym at)
        ∙ ap (drop fault.place) (sym parts.1));
  }

  -- No byte is left.
  pub header-cut : (limit : Option ℕ) → Shows old limit None → (fault : Fault)
      → record { place = place; reason = CutShort } ≡ fault → StopsAt bytes now n fault
  header-cut limit shows fault same =
      let none : rest ≡ [] = shown-end old limit rest parts.2 shows in
      header-stops fault (ap (λ (f : Fault). f.place) (sym same))
      (λ some. absurd (omega (arith, some, ap length none)))
      (subst (λ (f : Fault). HasReason n bytes f.reason place) same
      (omega (arith, long, ap length none)))

  -- The next byte is not that of the header.
  pub header-other : (limit : Option ℕ) (byte : ℕ) (reason : Reason) → Shows old limit (Some byte)
      → byte ≢ get_or (header n) place 0
      → (place < length bytes → HasReason n bytes reason place) → (fault : Fault)
      → record { place = place; reason = reason } ≡ fault → StopsAt bytes now n fault
  header-other limit byte reason shows other has fault same =
      let next : rest ≡ byte ∷ drop 1 rest = shown-parts old limit rest byte parts.2 shows in
      header-stops fault (ap (λ (f : Fault). f.place) (sym same))
      (λ some is. other (sym (is ∙ ap (λ (all : List ℕ). get_or all 0 0) next)))
      (subst (λ (f : Fault). HasReason n bytes f.reason place) same
      (has (omega (arith, long, ap length next))))
