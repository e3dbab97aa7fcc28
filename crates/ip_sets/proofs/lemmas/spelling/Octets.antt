-- Decimal numbers and IPv4 addresses at the start of the bytes.
use Rattle.std.proofs.Common.{◌≡◌, ◌∙◌, ℕ, zero, suc, ◌+◌, ◌*◌, ◌/◌, ◌%◌, ◌<◌, ◌≤◌, eqb, nat_lt, Bool, true, false, cond, ◌&&◌, true≢false, List, [], ◌∷◌, ◌++◌, drop, get_or, length, refl, sym, ap, append_assoc, arith}
use mir.Val.{bool_byte}
use Rattle.std.proofs.lemmas.Bool.{and_parts, ltb-true}
use Rattle.std.proofs.lemmas.Fmt.{decimal_digit, decimal_step}
use Rattle.std.proofs.lemmas.List.{drop-drop, drop_more}
use Rattle.std.specs.Fmt.{decimal}
use Rattle.std.specs.Net.Text.{dotted_text}

-- A digit is its value in decimal.
pub first_digit : (bytes rest : List ℕ) (n : ℕ) → n < 10 → bytes ≡ (48 + n) ∷ rest
    → bytes ≡ decimal n ++ rest
first_digit bytes rest n below is =
    is ∙ ap (λ front. front ++ rest) (sym (decimal_digit n below))

-- A digit after a number that is not 0 makes it ten times as big, and adds its value.
one_more : (n k : ℕ) → 0 < n → n < 100 → k < 10 → decimal (n * 10 + k) ≡ decimal n ++ (48 + k) ∷ []
one_more n k some small below =
    let front : (n * 10 + k) / 10 ≡ n = omega arith in
    let last : (n * 10 + k) % 10 ≡ k = omega arith in
    decimal_step (n * 10 + k) (omega arith) (omega arith)
    ∙ (λ i. decimal (front i) ++ (48 + last i) ∷ [])

-- A number in decimal, and a digit after it, are a number in decimal.
pub next_digit : (bytes rest more : List ℕ) (n k : ℕ) → 0 < n → n < 100 → k < 10
    → bytes ≡ decimal n ++ rest → rest ≡ (48 + k) ∷ more → bytes ≡ decimal (n * 10 + k) ++ more
next_digit bytes rest more n k some small below is next =
    is ∙ ap (λ others. decimal n ++ others) next
    ∙ sym (append_assoc (decimal n) ((48 + k) ∷ []) more)
    ∙ ap (λ front. front ++ more) (sym (one_more n k some small below))

-- Bytes that begin with one digit, two or three.
front_of_one : (first one : ℕ) (rest : List ℕ) → one < 10 → first ≡ 48 + one
    → first ∷ rest ≡ decimal one ++ rest
front_of_one first one rest small is =
    first_digit (first ∷ rest) rest one small (ap (λ byte. byte ∷ rest) is)

-- Two digits are a number in decimal, if the first is not 0.
front_of_two : (first second one next : ℕ) (rest : List ℕ) → one < 10 → first ≡ 48 + one
    → next < 10 → second ≡ 48 + next → 0 < one
    → first ∷ second ∷ rest ≡ decimal (one * 10 + next) ++ rest
front_of_two first second one next rest small is small_too is_too some =
    next_digit (first ∷ second ∷ rest) (second ∷ rest) rest one next some (omega (arith, small))
    small_too (front_of_one first one (second ∷ rest) small is) (ap (λ byte. byte ∷ rest) is_too)

-- Three bytes begin with the decimal number of their one, two or three digits.
octet_front : (first second third one next last : ℕ) (rest : List ℕ) (has_two has_three : Bool)
    → one < 10 → first ≡ 48 + one
    → (has_two ≡ true → (next < 10) × (second ≡ 48 + next) × (0 < one))
    → (has_three ≡ true → (has_two ≡ true) × (last < 10) × (third ≡ 48 + last))
    → first ∷ second ∷ third ∷ rest
    ≡ decimal (cond has_three ((one * 10 + next) * 10 + last) (cond has_two (one * 10 + next) one))
    ++ drop (1 + bool_byte has_two + bool_byte has_three) (first ∷ second ∷ third ∷ rest)
octet_front first second third one next last rest false false small is two three =
    front_of_one first one (second ∷ third ∷ rest) small is
octet_front first second third one next last rest false true small is two three =
    absurd (true≢false (sym (three refl).0))
octet_front first second third one next last rest true false small is two three =
    let digit = two refl in
    front_of_two first second one next (third ∷ rest) small is digit.0 digit.1 digit.2
octet_front first second third one next last rest true true small is two three =
    let digit = two refl in
    let digit_too = three refl in
    next_digit (first ∷ second ∷ third ∷ rest) (third ∷ rest) rest (one * 10 + next) last
    (omega (arith, digit.2)) (omega (arith, small, digit.0)) digit_too.1
    (front_of_two first second one next (third ∷ rest) small is digit.0 digit.1 digit.2)
    (ap (λ byte. byte ∷ rest) digit_too.2)

-- The first of two digits is not 0.
not_padded : (one : ℕ) (has_two : Bool) → (has_two && eqb one 0) ≡ false → has_two ≡ true
    → 0 < one
not_padded zero true none is = absurd (true≢false none)
not_padded zero false none is = absurd (true≢false (sym is))
not_padded (suc one) has_two none is = omega arith

-- They do so if the first is a digit, and is not 0 if another follows.
pub octet_digits : (first second third one next last : ℕ) (rest : List ℕ)
    → one < 10 → first ≡ 48 + one → (next < 10 → second ≡ 48 + next)
    → (last < 10 → third ≡ 48 + last) → (nat_lt next 10 && eqb one 0) ≡ false
    → first ∷ second ∷ third ∷ rest
    ≡ decimal (cond (nat_lt next 10 && nat_lt last 10) ((one * 10 + next) * 10 + last)
    (cond (nat_lt next 10) (one * 10 + next) one))
    ++ drop (1 + bool_byte (nat_lt next 10) + bool_byte (nat_lt next 10 && nat_lt last 10))
    (first ∷ second ∷ third ∷ rest)
octet_digits first second third one next last rest small is is_next is_last none =
    octet_front first second third one next last rest (nat_lt next 10)
    (nat_lt next 10 && nat_lt last 10) small is
    (λ two.
    let below = ltb-true next 10 two in
    (below, is_next below, not_padded one (nat_lt next 10) none two))
    (λ three.
    let both = and_parts (nat_lt next 10) (nat_lt last 10) three in
    let below = ltb-true last 10 both.1 in
    (both.0, below, is_last below))

-- The bytes from a place on are the three bytes there and others.
three_at : (bytes : List ℕ) (start : ℕ) → start + 3 ≤ length bytes
    → drop start bytes
    ≡ get_or bytes start 0 ∷ get_or bytes (start + 1) 0 ∷ get_or bytes (start + 2) 0
    ∷ drop (start + 3) bytes
three_at bytes start within =
    let two : start + 1 + 1 ≡ start + 2 = omega arith in
    let three : start + 2 + 1 ≡ start + 3 = omega arith in
    drop_more bytes start 0 (omega (arith, within))
    ∙ ap (λ rest. get_or bytes start 0 ∷ rest) (drop_more bytes (start + 1) 0 (omega (arith, within))
    ∙ ap (λ rest. get_or bytes (start + 1) 0 ∷ rest) (ap (λ n. drop n bytes) two
    ∙ drop_more bytes (start + 2) 0 (omega (arith, within))
    ∙ ap (λ n. get_or bytes (start + 2) 0 ∷ drop n bytes) three))

-- What begins three bytes begins the bytes from their place on.
pub from_three : (bytes digits : List ℕ) (start count : ℕ) → start + 3 ≤ length bytes
    → ((rest : List ℕ)
    → get_or bytes start 0 ∷ get_or bytes (start + 1) 0 ∷ get_or bytes (start + 2) 0 ∷ rest
    ≡ digits ++ drop count (get_or bytes start 0 ∷ get_or bytes (start + 1) 0
    ∷ get_or bytes (start + 2) 0 ∷ rest))
    → drop start bytes ≡ digits ++ drop (start + count) bytes
from_three bytes digits start count within front =
    let three = three_at bytes start within in
    three ∙ front (drop (start + 3) bytes)
    ∙ ap (λ all. digits ++ drop count all) (sym three)
    ∙ ap (λ rest. digits ++ rest) (drop-drop count start bytes)

-- Four numbers with dots between them.
joined : (a b c d : ℕ) (rest : List ℕ)
    → decimal a ++ 46 ∷ (decimal b ++ 46 ∷ (decimal c ++ 46 ∷ (decimal d ++ rest)))
    ≡ dotted_text a b c d ++ rest
joined a b c d rest = sym (simp append_assoc)

-- Four numbers that are read with dots between them are the text of an IPv4 address.
pub dotted : (bytes a_rest b_bytes b_rest c_bytes c_rest d_bytes rest : List ℕ) (a b c d : ℕ)
    → bytes ≡ decimal a ++ a_rest → a_rest ≡ 46 ∷ b_bytes
    → b_bytes ≡ decimal b ++ b_rest → b_rest ≡ 46 ∷ c_bytes
    → c_bytes ≡ decimal c ++ c_rest → c_rest ≡ 46 ∷ d_bytes
    → d_bytes ≡ decimal d ++ rest → bytes ≡ dotted_text a b c d ++ rest
dotted bytes a_rest b_bytes b_rest c_bytes c_rest d_bytes rest a b c d is_a dot_a is_b dot_b is_c dot_c is_d =
    is_a
    ∙ ap (λ others. decimal a ++ others) dot_a
    ∙ ap (λ others. decimal a ++ 46 ∷ others) is_b
    ∙ ap (λ others. decimal a ++ 46 ∷ (decimal b ++ others)) dot_b
    ∙ ap (λ others. decimal a ++ 46 ∷ (decimal b ++ 46 ∷ others)) is_c
    ∙ ap (λ others. decimal a ++ 46 ∷ (decimal b ++ 46 ∷ (decimal c ++ others))) dot_c
    ∙ ap (λ others. decimal a ++ 46 ∷ (decimal b ++ 46 ∷ (decimal c ++ 46 ∷ others))) is_d
    ∙ joined a b c d rest
