-- Numbers in LEB128, byte by byte.
use Rattle.std.proofs.Common.{◌≡◌, ℕ, zero, suc, ◌+◌, ◌-◌, ◌*◌, ◌/◌, ◌%◌, ◌<◌, ◌≤◌, List, [], ◌∷◌, ◌++◌, cond, nat_lt, refl, sym, ap, ◌∙◌, arith, inl, inr, ◌≢◌, append_assoc, length, take, get_or, add-one}
use Rattle.std.proofs.lemmas.Bool.{cases_eq, cases_lt}
use Rattle.std.proofs.lemmas.List.{get_or-append-add, length-append}
use Rattle.std.proofs.lemmas.Bool.Decides.{nat_tests}
use Rattle.range_set_bytes.specs.BadNumber.{IsBadNumber, IsWrong}
use Rattle.range_set_bytes.specs.Leb128.{leb128, leb128_within}
use Rattle.range_set_bytes.specs.Reading.{EndsNumber}
use Rattle.range_set_bytes.specs.declared.numbers.BadNumber.{BadNumber}
use Rattle.range_set_bytes.specs.declared.numbers.Wrong.{Wrong}
use Rattle.range_set_bytes.specs.declared.numbers.Wrong.TheVariants.{Ended, Large, Zero}

-- The bound does not matter if it is at least the number.
within-same : (more other n : ℕ) → n ≤ more → n ≤ other → leb128_within more n ≡ leb128_within other n
unfolding leb128_within
within-same zero zero n a b = refl
within-same zero (suc other) n a b = grind (arith, nat_tests)
within-same (suc more) zero n a b = grind (arith, nat_tests)
within-same (suc more) (suc other) n a b =
    elim (cases_lt n 128) [
      | inl less ↦ grind (arith, nat_tests)
      | inr most ↦ ap (λ (tail : List ℕ). cond (nat_lt n 128) (n ∷ []) ((128 + n % 128) ∷ tail))
          (within-same more other (n / 128) (omega arith) (omega arith))
    ]

-- A number below 128 is one byte.
pub leb128-one : (n : ℕ) → n < 128 → leb128 n ≡ n ∷ []
unfolding leb128 leb128_within
leb128-one zero less = refl
leb128-one (suc n) less = grind (arith, nat_tests)

within-more : (more n : ℕ) → 128 ≤ n
    → leb128_within (suc more) n ≡ (128 + n % 128) ∷ leb128_within more (n / 128)
unfolding leb128_within
within-more more n most = grind (arith, nat_tests)

-- Any other number is its lowest seven bits, with the top bit set, and then the rest.
pub leb128-more : (n : ℕ) → 128 ≤ n → leb128 n ≡ (128 + n % 128) ∷ leb128 (n / 128)
unfolding leb128
leb128-more zero most = absurd (omega arith)
leb128-more (suc n) most = within-more n (suc n) most
    ∙ ap (λ (tail : List ℕ). (128 + suc n % 128) ∷ tail)
    (within-same n (suc n / 128) (suc n / 128) (omega arith) (omega arith))

-- The number whose lowest seven bits are those of a byte with the top bit set.
pub leb128-byte : (byte high : ℕ) → 128 ≤ byte → byte < 256 → 0 < high
    → leb128 (byte - 128 + 128 * high) ≡ byte ∷ leb128 high
leb128-byte byte high top fits some =
    let n = byte - 128 + 128 * high in
    let low : 128 + n % 128 ≡ byte = omega arith in
    let rest : n / 128 ≡ high = omega arith in
    rw (leb128-more n (omega arith), low, rest) refl

-- What a byte at the start of a number and what follows it says: the byte is the whole number, or
-- the rest of the number follows.
pub record StartsAs (n byte : ℕ) (after more : List ℕ) : Type 0 where
  pub last : byte < 128 → (n ≡ byte) × (after ≡ more)
  pub goes_on : 128 ≤ byte → (byte - 128 + 128 * (n / 128) ≡ n) × (0 < n / 128)
      × (leb128 (n / 128) ++ after ≡ more)

tails : (x y : ℕ) (xs ys : List ℕ) → x ∷ xs ≡ y ∷ ys → (x ≡ y) × (xs ≡ ys)
tails x y xs ys same = (cc, cc)

pub starts-as : (n byte : ℕ) (after more : List ℕ) → leb128 n ++ after ≡ byte ∷ more
    → StartsAs n byte after more
starts-as n byte after more is =
    elim (cases_lt n 128) [
      | inl less ↦
          let parts = tails n byte after more (ap (λ (bytes : List ℕ). bytes ++ after) (sym (leb128-one n less)) ∙ is) in
          record {
            last = λ _. (parts.0, parts.1);
            goes_on = λ top. absurd (omega arith);
          }
      | inr most ↦
          let parts = tails (128 + n % 128) byte (leb128 (n / 128) ++ after) more
          (ap (λ (bytes : List ℕ). bytes ++ after) (sym (leb128-more n most)) ∙ is) in
          record {
            last = λ less. absurd (omega arith);
            goes_on = λ top. (omega arith, omega arith, parts.1);
          }
    ]

-- No number is written as no bytes.
pub leb128-some : (n : ℕ) (after : List ℕ) → leb128 n ++ after ≢ []
leb128-some n after is =
    elim (cases_lt n 128) [
      | inl less ↦ not_empty (rw (leb128-one n less) at is)
      | inr most ↦ not_empty (rw (leb128-more n most) at is)
    ]
  where
    not_empty : {byte : ℕ} {bytes : List ℕ} → byte ∷ bytes ≡ [] → ⊥
    not_empty is = cc

-- The first byte of a number is at most the number.
pub first-byte : (n byte : ℕ) (after more : List ℕ) → leb128 n ++ after ≡ byte ∷ more → byte ≤ n
first-byte n byte after more is =
    let starts = starts-as n byte after more is in
    elim (cases_lt byte 128) [
      | inl less ↦ let all = starts.last less in omega arith
      | inr top ↦ let parts = starts.goes_on top in omega arith
    ]

-- No number begins with another one: the number at the start of bytes and what follows it are
-- determined by the bytes. The bound is for the induction.
one_number-within : (bound m n : ℕ) (x y : List ℕ) → m ≤ bound → leb128 m ++ x ≡ leb128 n ++ y
    → (m ≡ n) × (x ≡ y)
one_number-within zero m n x y most is =
    let one : leb128 m ≡ 0 ∷ [] = rw (zero_is m most) (leb128-one 0 (omega arith)) in
    let starts = starts-as n 0 y x (sym is ∙ ap (λ (bytes : List ℕ). bytes ++ x) one) in
    let parts = starts.last (omega arith) in
    (omega arith, sym parts.1)
  where
    zero_is : (m : ℕ) → m ≤ 0 → m ≡ 0
    zero_is m most = omega arith
one_number-within (suc bound) m n x y most is =
    elim (cases_lt n 128) [
      | inl less ↦
          let starts = starts-as m n x y (is ∙ ap (λ (bytes : List ℕ). bytes ++ y) (leb128-one n less)) in
          starts.last less
      | inr high ↦
          let starts = starts-as m (128 + n % 128) x (leb128 (n / 128) ++ y)
          (is ∙ ap (λ (bytes : List ℕ). bytes ++ y) (leb128-more n high)) in
          let parts = starts.goes_on (omega arith) in
          let same = one_number-within bound (m / 128) (n / 128) x y (omega arith) parts.2 in
          (omega arith, same.1)
    ]

pub one_number : (m n : ℕ) (x y : List ℕ) → leb128 m ++ x ≡ leb128 n ++ y → (m ≡ n) × (x ≡ y)
one_number m n x y is = one_number-within m m n x y (omega arith) is

take-more : (n x : ℕ) (xs : List ℕ) → take (n + 1) (x ∷ xs) ≡ x ∷ take n xs
take-more n x xs = rw add-one refl

get-more : (n x other : ℕ) (xs : List ℕ) → get_or (x ∷ xs) (n + 1) other ≡ get_or xs n other
get-more n x other xs = rw add-one refl

get-before : (n x other : ℕ) (xs : List ℕ) → 0 < n → get_or (x ∷ xs) (n + 1 - 1) other ≡ get_or xs (n - 1) other
get-before n x other xs some =
    let back : n + 1 - 1 ≡ n - 1 + 1 = omega arith in
    rw back (get-more (n - 1) x other xs)

-- The top bit of the last byte of a number is not set. The bound is for the induction.
ends_number-one : (n : ℕ) → n < 128 → EndsNumber (leb128 n)
ends_number-one n less = rw (leb128-one n less) (omega arith, less)

ends_number-more : (n : ℕ) → 128 ≤ n → EndsNumber (leb128 (n / 128)) → EndsNumber (leb128 n)
ends_number-more n high ended =
    let bytes = leb128 (n / 128) in
    let last : suc (length bytes) - 1 ≡ length bytes - 1 + 1 = let some = ended.0 in omega arith in
    rw (leb128-more n high) (omega arith, rw (last, get-more (length bytes - 1) (128 + n % 128) 128 bytes) ended.1)

ends_number-within : (bound n : ℕ) → n ≤ bound → EndsNumber (leb128 n)
ends_number-within zero n most = ends_number-one n (omega arith)
ends_number-within (suc bound) n most =
    elim (cases_lt n 128) [
      | inl less ↦ ends_number-one n less
      | inr high ↦ ends_number-more n high (ends_number-within bound (n / 128) (omega arith))
    ]

pub ends_number : (n : ℕ) → EndsNumber (leb128 n)
ends_number n = ends_number-within n n (omega arith)

-- Bytes that a number ends, end a number.
pub ends_number-after : (xs ys : List ℕ) → EndsNumber ys → EndsNumber (xs ++ ys)
ends_number-after xs ys ended =
    let before : length xs + length ys - 1 ≡ length xs + (length ys - 1) = let some = ended.0 in omega arith in (
      omega (arith, length-append xs ys, ended.0),
      rw (length-append xs ys, before, get_or-append-add xs ys (length ys - 1) 128) ended.1,
    )

-- ---- reading

-- If the rest of a number is wrong, so is the number that begins with a byte before it.
module _ (least most byte : ℕ) (bytes : List ℕ) where
  abbrev rest_most : ℕ
  rest_most = (most - (byte - 128)) / 128

  wrong-more : (wrong : Wrong) (taken : ℕ) → least ≤ 1 → 128 ≤ byte → byte < 256 → byte ≤ most
      → IsWrong 1 rest_most bytes wrong taken → IsWrong least most (byte ∷ bytes) wrong (taken + 1)
  wrong-more Ended taken low top fits within is = omega (arith, is)
  wrong-more Zero taken low top fits within is = (
    omega (arith, is.0),
    get-more taken byte 1 bytes ∙ is.1,
    λ none. absurd (omega (arith, none)),
    λ _. elim (cases_eq taken 0) [
      | inl none ↦ rw none (omega arith)
      | inr some ↦ rw (get-before taken byte 0 bytes (omega arith)) (is.3 (omega arith))
    ],
  )
  wrong-more Large taken low top fits within is =
      let number = is.3 in
      let least_is : 1 ≤ number = is.5 in
      let most_is : number ≤ rest_most = is.6 in (
        omega (arith, is.0),
        is.1,
        rw get-more is.2,
        byte - 128 + 128 * number,
        is.4,
        omega arith,
        omega arith,
        leb128-byte byte number top fits (omega arith)
            ∙ ap (λ (tail : List ℕ). byte ∷ tail) is.7
            ∙ ap (λ (front : List ℕ). front ++ (is.1 ∷ is.4)) (sym (take-more taken byte bytes)),
      )

  pub bad-more : (bad : BadNumber) → least ≤ 1 → 128 ≤ byte → byte < 256 → byte ≤ most
      → IsBadNumber 1 rest_most bytes bad
      → IsBadNumber least most (byte ∷ bytes) (record { taken = bad.taken + 1; wrong = bad.wrong })
  bad-more bad low top fits within is =
      let number = is.begun.0 in
      let least_is : 1 ≤ number = is.begun.2 in
      let most_is : number ≤ rest_most = is.begun.3 in
      record {
        within = omega (arith, is.within);
        begun = (
          byte - 128 + 128 * number,
          is.begun.1,
          omega arith,
          omega arith,
          leb128-byte byte number top fits (omega arith) ∙ ap (λ (tail : List ℕ). byte ∷ tail) is.begun.4
              ∙ ap (λ (front : List ℕ). front ++ is.begun.1) (sym (take-more bad.taken byte bytes)),
        );
        stops = λ less n after more low_is high_is same.
            let starts = starts-as n byte after (take (bad.taken + 1) bytes ++ more)
            (same ∙ ap (λ (front : List ℕ). front ++ more) (take-more (bad.taken + 1) byte bytes)) in
            let parts = starts.goes_on top in
            is.stops (omega arith) (n / 128) after more (omega arith) (omega arith) parts.2;
        ends = λ all n after same.
            let parts = (starts-as n byte after bytes same).goes_on top in
            is.ends (omega arith) (n / 128) after parts.2;
        wrong = wrong-more bad.wrong bad.taken low top fits within is.wrong;
      }

pub bad-ended : (least most : ℕ) → least ≤ most
    → IsBadNumber least most [] (record { taken = 0; wrong = Ended })
bad-ended least most some = record {
  within = omega arith;
  begun = (least, leb128 least, omega arith, some, refl);
  stops = λ less. absurd (omega (arith, less));
  ends = λ all n after. leb128-some n after;
  wrong = refl;
}

pub bad-large : (least most byte : ℕ) (bytes : List ℕ) → least ≤ 1 → least ≤ most → byte < 256
    → most < byte → IsBadNumber least most (byte ∷ bytes) (record { taken = 0; wrong = Large })
bad-large least most byte bytes low some fits large = record {
  within = omega arith;
  begun = (least, leb128 least, omega arith, some, refl);
  stops = λ less n after more least_is most_is same.
      let within = first-byte n byte after more same in
      omega arith;
  ends = λ none. absurd (omega arith);
  wrong = (omega arith, least, omega arith, least, [], omega arith, some, leb128-one least (omega arith));
}

pub bad-zero : (least most byte : ℕ) (bytes : List ℕ) → least ≤ most → byte < least → least ≤ 1
    → IsBadNumber least most (byte ∷ bytes) (record { taken = 0; wrong = Zero })
bad-zero least most byte bytes some less_least low = record {
  within = omega arith;
  begun = (least, leb128 least, omega arith, some, refl);
  stops = λ less n after more least_is most_is same.
      let parts = (starts-as n byte after more same).last (omega arith) in
      omega (arith, parts.0);
  ends = λ none. absurd (omega arith);
  wrong = (omega arith, omega arith, λ _. omega arith, λ none. absurd (omega arith));
}

-- ---- writing

-- After one more byte of a number, its rest is still to be written.
pub pushed-more : (written all : List ℕ) (n : ℕ) → 128 ≤ n → written ++ leb128 n ≡ all
    → (written ++ ((128 + n % 128) ∷ [])) ++ leb128 (n / 128) ≡ all
pushed-more written all n most is =
    rw append_assoc (ap (λ (bytes : List ℕ). written ++ bytes) (sym (leb128-more n most)) ∙ is)

-- The last byte completes it.
pub pushed-last : (written all : List ℕ) (n : ℕ) → n < 128 → written ++ leb128 n ≡ all
    → written ++ (n ∷ []) ≡ all
pushed-last written all n less is =
    ap (λ (bytes : List ℕ). written ++ bytes) (sym (leb128-one n less)) ∙ is
