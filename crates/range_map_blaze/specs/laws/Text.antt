-- Proofs that `String` satisfies the laws of `MapValue`.
use mathlib.Core.HLevel.{is_prop→PathP}
use native.Mathlib.Bridge.{le_prop}
use native.Mathlib.Nat.{le_refl}
use denote.RawPtr.{null_ptr}
use Rattle.std.specs.Global.{Global}
use Rattle.std.specs.Prelude.{◌≡◌, ◌↔◌, true, ◌<◌, ◌^◌, length, String, string_bytes, string_eq}
use Rattle.std.specs.Str.{IsUtf8}
use Rattle.std.proofs.Common.{ap, arith, refl}
use Rattle.std.proofs.lemmas.Slice.Eq.{slice_eq-Decides}
use Rattle.range_map_blaze.specs.laws.Value.{unsigned-exact}

-- The bytes of a text are fewer than 2 ^ 63.
pub short : (text : String Global) → length (string_bytes text) < 2 ^ 63
short text =
    let len = text.bytes.ok.0 in
    let fits = text.bytes.ok.1 in
    let small = text.bytes.small in
    omega (arith, len, fits, small)

-- A text, without where it is and how much room it has.
abbrev pub placeless : String Global → String Global
placeless text = record {
  bytes = record {
    ptr = null_ptr;
    len = length (string_bytes text);
    cap = length (string_bytes text);
    alloc = record { memory = record { seal = tt } };
    items = string_bytes text;
    ok = (refl, le_refl (length (string_bytes text)));
    small = short text;
  };
  ok = text.ok;
}

-- Texts with the same bytes are seen as the same.
pub placeless-same : (left right : String Global) → string_bytes left ≡ string_bytes right
    → placeless left ≡ placeless right
placeless-same left right same i = record {
  bytes = record {
    ptr = null_ptr;
    len = length (same i);
    cap = length (same i);
    alloc = record { memory = record { seal = tt } };
    items = same i;
    ok = (refl, le_refl (length (same i)));
    small = is_prop→PathP (λ j. length (same j) < 2 ^ 63) (λ j. le_prop) (short left) (short right) i;
  };
  ok = is_prop→PathP (λ j. ∥ IsUtf8 (same j) ∥₁) (λ j. squash₁) left.ok right.ok i;
}

-- Texts are seen as the same exactly if `==` returns true for them.
pub string-exact : (left right : String Global)
    → (string_eq left right ≡ true) ↔ (placeless left ≡ placeless right)
string-exact left right =
    let same = slice_eq-Decides unsigned-exact (string_bytes left) (string_bytes right) (string_eq left right)
    refl in (
      (λ is. placeless-same left right (same.0 is)),
      (λ is. same.1 (ap (λ text. string_bytes text) is)),
    )
