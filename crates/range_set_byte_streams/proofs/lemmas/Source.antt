-- The bytes of a reader, one by one.
use Rattle.std.proofs.Common.{◌≡◌, ◌∙◌, ℕ, ◌+◌, ◌≤◌, List, [], ◌∷◌, ◌++◌, drop, length, Option, Some, None, refl, sym, ap, subst, arith}
use Rattle.std.proofs.Math.Seq.{drop-append-add}
use Rattle.std.specs.Io.{StartsWith}
use Rattle.std.specs.Io.BufRead.{DropsConsumable}
use Rattle.std.specs.Io.KnownBytes.{Consumes, Keeps}
use Rattle.std.specs.Prelude.{IfSome, slice_get}
use Rattle.range_set_byte_streams.specs.Source.{IsPast, Shows}

-- ---- what is kept

pub keeps-self : (known : Option (List ℕ)) → Keeps known known
keeps-self None = tt
keeps-self (Some bytes) = refl

pub keeps-then : (old mid new : Option (List ℕ)) → Keeps old mid → Keeps mid new → Keeps old new
keeps-then None mid new first second = tt
keeps-then (Some xs) None new first second = absurd first
keeps-then (Some xs) (Some ys) None first second = absurd second
keeps-then (Some xs) (Some ys) (Some zs) first second = second ∙ first

pub kept : (old new : Option (List ℕ)) (bytes : List ℕ) → old ≡ Some bytes → Keeps old new
    → new ≡ Some bytes
kept None new bytes is same = absurd cc is
kept (Some xs) None bytes is same = absurd same
kept (Some xs) (Some ys) bytes is same = ap Some same ∙ is

pub consumed : (old new : Option (List ℕ)) (bytes front : List ℕ) → old ≡ Some bytes
    → Consumes old new front → (rest : List ℕ) × (bytes ≡ front ++ rest) × (new ≡ Some rest)
consumed None new bytes front is parts = absurd cc is
consumed (Some xs) None bytes front is parts = absurd parts
consumed (Some xs) (Some ys) bytes front is parts =
    let same : xs ≡ bytes = cc is in
    (ys, sym same ∙ parts, refl)

pub consumed-of : (known new : Option (List ℕ)) (bytes front : List ℕ) → known ≡ Some bytes
    → Consumes (Some bytes) new front → Consumes known new front
consumed-of known new bytes front is parts =
    subst (λ (old : Option (List ℕ)). Consumes old new front) (sym is) parts

pub consumes-some : (new : Option (List ℕ)) (bytes front rest : List ℕ) → new ≡ Some rest
    → bytes ≡ front ++ rest → Consumes (Some bytes) new front
consumes-some None bytes front rest is parts = absurd cc is
consumes-some (Some ys) bytes front rest is parts =
    let same : ys ≡ rest = cc is in
    parts ∙ ap (λ (tail : List ℕ). front ++ tail) (sym same)

-- ---- the next byte

-- The first byte of what a reader shows is the next one.
shown-byte : (bytes shown : List ℕ) → StartsWith bytes shown → (length shown ≡ 0 → bytes ≡ [])
    → slice_get bytes 0 ≡ slice_get shown 0
shown-byte [] [] front end = refl
shown-byte (x ∷ xs) [] front end = absurd (let none = end refl in cc)
shown-byte [] (y ∷ ys) front end = absurd cc front
shown-byte (x ∷ xs) (y ∷ ys) front end = ap Some (cc front)

some-shown : (limit : Option ℕ) (shown : List ℕ) → IfSome limit (λ most. length shown ≤ most)
    → IfSome (slice_get shown 0) (λ _. IfSome limit (λ most. 1 ≤ most))
some-shown limit [] room = tt
some-shown None (x ∷ xs) room = tt
some-shown (Some most) (x ∷ xs) room = omega arith

pub shown-first : (old mid : Option (List ℕ)) (limit next : Option ℕ) (shown : List ℕ) → Keeps old mid
    → IfSome mid (λ bytes. StartsWith bytes shown)
    → IfSome mid (λ bytes. length shown ≡ 0 → bytes ≡ [])
    → IfSome mid (λ _. IfSome limit (λ most. length shown ≤ most))
    → next ≡ slice_get shown 0 → Shows old limit next
shown-first None mid limit next shown same front end room is = record { byte = tt; ready = tt }
shown-first (Some xs) None limit next shown same front end room is = absurd same
shown-first (Some xs) (Some ys) limit next shown same front end room is = record {
  byte = ap (λ (bytes : List ℕ). slice_get bytes 0) (sym same) ∙ shown-byte ys shown front end ∙ sym is;
  ready = subst (λ (first : Option ℕ). IfSome first (λ _. IfSome limit (λ most. 1 ≤ most))) (sym is)
      (some-shown limit shown room);
}

no-first : (bytes : List ℕ) → slice_get bytes 0 ≡ None → bytes ≡ []
no-first [] is = refl
no-first (x ∷ xs) is = absurd cc is

-- At the end, no byte is left.
pub shown-end : (old : Option (List ℕ)) (limit : Option ℕ) (bytes : List ℕ) → old ≡ Some bytes
    → Shows old limit None → bytes ≡ []
shown-end None limit bytes is shows = absurd cc is
shown-end (Some xs) limit bytes is shows =
    let same : xs ≡ bytes = cc is in
    sym same ∙ no-first xs shows.byte

-- The bytes begin with the one that was seen, and after it is consumed, the others are left.
pub record Begins (bytes : List ℕ) (byte : ℕ) (new : Option (List ℕ)) : Type 0 where
  pub after : List ℕ
  pub parts : bytes ≡ byte ∷ after
  pub left : new ≡ Some after

first-parts : (bytes : List ℕ) (byte : ℕ) → slice_get bytes 0 ≡ Some byte
    → bytes ≡ byte ∷ drop 1 bytes
first-parts [] byte is = absurd cc is
first-parts (x ∷ xs) byte is =
    let same : x ≡ byte = cc is in
    ap (λ (first : ℕ). first ∷ xs) same

pub shown-parts : (old : Option (List ℕ)) (limit : Option ℕ) (bytes : List ℕ) (byte : ℕ)
    → old ≡ Some bytes → Shows old limit (Some byte) → bytes ≡ byte ∷ drop 1 bytes
shown-parts None limit bytes byte is shows = absurd cc is
shown-parts (Some xs) limit bytes byte is shows =
    let same : xs ≡ bytes = cc is in
    first-parts bytes byte (ap (λ (all : List ℕ). slice_get all 0) (sym same) ∙ shows.byte)

pub byte-consumed : (old mid new : Option (List ℕ)) (limit : Option ℕ) (bytes : List ℕ) (byte : ℕ)
    → old ≡ Some bytes → Keeps old mid → Shows old limit (Some byte)
    → DropsConsumable mid new limit 1 → Begins bytes byte new
byte-consumed None mid new limit bytes byte is same shows drops = absurd cc is
byte-consumed (Some xs) None new limit bytes byte is same shows drops = absurd same
byte-consumed (Some xs) (Some ys) new limit bytes byte is same shows drops =
    let whole : ys ≡ bytes = same ∙ cc is in
    record {
      after = drop 1 bytes;
      parts = shown-parts (Some xs) limit bytes byte is shows;
      left = drops shows.ready ∙ ap (λ (all : List ℕ). Some (drop 1 all)) whole;
    }

-- ---- what is left after an error

-- Nothing was consumed.
pub past-none : (bytes : List ℕ) (now : Option (List ℕ)) → now ≡ Some bytes → IsPast bytes now
past-none bytes now is = (0, is)

-- What is past the first bytes of the rest is past the first bytes of all.
pub past-more : (bytes front rest : List ℕ) (now : Option (List ℕ)) → bytes ≡ front ++ rest
    → IsPast rest now → IsPast bytes now
past-more bytes front rest now parts past = (
  length front + past.0,
  past.1 ∙ ap Some (sym (drop-append-add front rest past.0))
      ∙ ap (λ (all : List ℕ). Some (drop (length front + past.0) all)) (sym parts),
)

-- All of the front was consumed.
pub past-front : (bytes front rest : List ℕ) (now : Option (List ℕ)) → bytes ≡ front ++ rest
    → now ≡ Some rest → IsPast bytes now
past-front bytes front rest now parts is = past-more bytes front rest now parts (past-none rest now is)
