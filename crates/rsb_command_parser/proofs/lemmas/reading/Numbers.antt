-- Numbers in digits, with or without a sign.
use Rattle.std.proofs.Common.{◌≡◌, ◌∙◌, ℕ, ℤ, ◌+◌, ◌*◌, ◌<◌, ◌≤◌, Bool, true, false, cond, eqb, zero, suc, List, [], ◌∷◌, Some, None, take, drop, get_or, length, refl, sym, ap, subst, arith}
use Rattle.std.proofs.lemmas.Bool.{eqb-true, le-ltb, ne_eqb}
use Rattle.std.proofs.lemmas.List.Sums.{position_or_len_is}
use Rattle.std.proofs.lemmas.Str.Parse.{digit_from_value, digits_value-take-le}
use Rattle.std.specs.List.{position, position_or_len}
use Rattle.rsb_command_parser.specs.Spelling.{BeginsWith, IsNumber, is_blank, words}
use Rattle.rsb_command_parser.proofs.lemmas.reading.Cuts.{words-None}
use Rattle.std.proofs.lemmas.Int.Digits.{digits_more, digits_value_more}
use Rattle.std.specs.Char.{digit_value}
use Rattle.std.specs.Str.Parse.{AllDigits, IsNumeral, digits_value}

-- ---- digits, read one after the other

-- Each byte of a list of digits is a digit.
digit_there : (ds : List ℕ) (i : ℕ) → i < length ds → AllDigits 10 ds
    → digit_value (get_or ds i 0) < 10
digit_there [] i within all = absurd (omega arith)
digit_there (d ∷ ds) zero within all = all.0
digit_there (d ∷ ds) (suc i) within all = digit_there ds i (omega arith) all.1

-- Whether the bytes before the place `i` are digits that spell n.
pub record HasDigits (ds : List ℕ) (i n : ℕ) : Type 0 where
  pub digits : AllDigits 10 (take i ds)
  pub value : n ≡ digits_value 10 (take i ds)

-- One more digit makes the number ten times as large, plus that digit.
pub has_digits_more : (ds : List ℕ) (i n m byte : ℕ) → i < length ds → HasDigits ds i n
    → byte ≡ get_or ds i 0 → digit_value byte < 10 → m ≡ n * 10 + digit_value byte
    → HasDigits ds (i + 1) m
has_digits_more ds i n m byte within before read digit is =
    let at : digit_value (get_or ds i 0) < 10 = subst (λ b. digit_value b < 10) read digit in
    let more = digits_value_more 10 ds i within in
    record {
      digits = digits_more 10 ds i within before.digits at;
      value = omega (arith, is, more, before.value, ap digit_value read);
    }

-- Bytes are not a number if one of them is not a digit.
pub no_digits : (ds : List ℕ) (i byte : ℕ) (Fits : Type 0) → i < length ds → byte ≡ get_or ds i 0
    → (digit_value byte < 10 → ⊥) → IsNumeral 10 ds × Fits → ⊥
no_digits ds i byte Fits within read none spelled =
    none (subst (λ b. digit_value b < 10) (sym read) (digit_there ds i within spelled.0.1))

-- If the digits so far and the next one spell at least `most`, the number is not below `most`.
pub too_large : (ds : List ℕ) (i n byte most : ℕ) → i < length ds → HasDigits ds i n
    → byte ≡ get_or ds i 0 → most ≤ n * 10 + digit_value byte
    → IsNumeral 10 ds × (digits_value 10 ds < most) → ⊥
too_large ds i n byte most within before read large spelled =
    omega (
      arith,
      digits_value_more 10 ds i within,
      digits_value-take-le 10 ds (i + 1) (omega arith),
      before.value,
      ap digit_value read,
      large,
      spelled.1,
    )

-- ---- no blank in a number

-- A digit is not a blank.
digit_no_blank : (c : ℕ) → digit_value c < 10 → is_blank c ≡ false
digit_no_blank c digit =
    let range = digit_from_value c digit in
    rw (
      ne_eqb c 32 (λ is. absurd (omega (arith, range.0, is))),
      ne_eqb c 9 (λ is. absurd (omega (arith, range.0, is))),
    ) refl

-- Digits contain no blank.
digits_no_blank : (ds : List ℕ) → AllDigits 10 ds → (k : ℕ) → k < length ds
    → is_blank (get_or ds k 0) ≡ false
digits_no_blank ds all k within = digit_no_blank (get_or ds k 0) (digit_there ds k within all)

-- A byte that is not a blank and digits after it contain no blank.
no_blank_after : (c : ℕ) (cs : List ℕ) → is_blank c ≡ false → AllDigits 10 cs
    → (k : ℕ) → k < length (c ∷ cs) → is_blank (get_or (c ∷ cs) k 0) ≡ false
no_blank_after c cs none all zero within = none
no_blank_after c cs none all (suc k) within = digits_no_blank cs all k (omega arith)

-- Digits after a minus, after a plus or without a sign contain no blank. The tests of the first
-- byte tell which case it is.
no_blank_by_sign : (minus plus : Bool) (c : ℕ) (cs : List ℕ) → eqb c 45 ≡ minus
    → eqb c 43 ≡ plus → AllDigits 10 (cond minus (drop 1 (c ∷ cs)) (drop (cond plus 1 0) (c ∷ cs)))
    → (k : ℕ) → k < length (c ∷ cs) → is_blank (get_or (c ∷ cs) k 0) ≡ false
no_blank_by_sign true plus c cs is _ all =
    no_blank_after c cs (ap is_blank (eqb-true c 45 is)) all
no_blank_by_sign false true c cs _ is all =
    no_blank_after c cs (ap is_blank (eqb-true c 43 is)) all
no_blank_by_sign false false c cs _ _ all = digits_no_blank (c ∷ cs) all

-- A number contains no blank.
number_no_blank : (word : List ℕ) (z : ℤ) → IsNumber word z → (k : ℕ) → k < length word
    → is_blank (get_or word k 0) ≡ false
number_no_blank [] z is = λ k within. absurd (omega arith)
number_no_blank (c ∷ cs) z is = no_blank_by_sign (eqb c 45) (eqb c 43) c cs refl refl is.digits.1

-- A number has a byte.
number_some : (word : List ℕ) (z : ℤ) → IsNumber word z → 0 < length word
number_some [] z is = is.digits.0
number_some (c ∷ cs) z is = omega arith

-- If `rest` has the words of the line and is a number, the line is one word that spells the number.
pub number_is_word : (line rest : List ℕ) (z : ℤ) → words rest ≡ words line → IsNumber rest z
    → BeginsWith (λ word. IsNumber word z) line []
number_is_word line rest z same is =
    let first : position_or_len is_blank rest ≡ length rest =
    position_or_len_is is_blank rest (length rest) 0 (omega arith) (number_no_blank rest z is)
    (λ within. absurd (omega (arith, within))) in
    let none : position is_blank rest ≡ None =
    ap (λ found. cond found (Some (position_or_len is_blank rest)) None)
    (le-ltb (position_or_len is_blank rest) (length rest) (omega (arith, first))) in record {
      word = rest;
      parts = sym same ∙ words-None rest none (number_some rest z is);
      holds = is;
    }
