-- Proofs that the types of `src/map_value.rt` satisfy the laws of `MapValue`.
use Rattle.std.specs.Prelude.{◌≡◌, ◌↔◌, ℕ, ℤ, Bool, true, false, ◌&&◌, List, [], ◌∷◌, Option, Some, nat_eq}
use Rattle.std.specs.Fmt.{◌++?◌, comma_space}
use Rattle.std.specs.Ordering.{int_eq}
use Rattle.std.specs.Cmp.Lexicographic.{pointwise}
use Rattle.std.proofs.Common.{ap, refl, Bor}
use Rattle.std.specs.Cmp.{booleans_Decides}
use Rattle.std.proofs.Math.Bool.{beq}
use Rattle.std.proofs.lemmas.Bool.{eqb-true, eq-eqb}
use Rattle.std.proofs.lemmas.Bool.Decides.{Decides-int_eq}
use Rattle.std.proofs.lemmas.Slice.Eq.{slice_eq-Decides}

-- Unsigned numbers and characters are equal exactly if `==` returns true.
pub unsigned-exact : (left right : ℕ) → (nat_eq left right ≡ true) ↔ (left ≡ right)
unsigned-exact left right = (eqb-true left right, eq-eqb left right)

-- So are signed numbers.
pub signed-exact : (left right : ℤ) → (int_eq left right ≡ true) ↔ (left ≡ right)
signed-exact left right = Decides-int_eq left right

-- There is one value of the unit type.
pub unit-exact : (left right : Unit {0}) → (true ≡ true) ↔ (left ≡ right)
unit-exact left right = ((λ is. refl), (λ is. refl))

-- Pairs are equal exactly if both of their parts are.
pub pair-exact : {L R : Type 0} {a b : L} {c d : R} (left right : Bool) → (left ≡ true) ↔ (a ≡ b)
    → (right ≡ true) ↔ (c ≡ d) → ((left && right) ≡ true) ↔ ◌≡◌ {A = L × R} (a, c) (b, d)
pair-exact true true first second =
    ((λ both i. (first.0 refl i, second.0 refl i)), (λ both. refl))
pair-exact true false first second =
    ((λ both. absurd (cc)), (λ both. second.1 (ap (λ pair. pair.1) both)))
pair-exact false right first second =
    ((λ both. absurd (cc)), (λ both. first.1 (ap (λ pair. pair.0) both)))

-- So are tests.
pub bool-exact : (left right : Bool) → (beq left right ≡ true) ↔ (left ≡ right)
bool-exact left right = booleans_Decides left right

-- A reference, without where it points.
abbrev pub unplaced : {V : Type 0} → (V → V) → Bor V → Bor V
unplaced seen value = record { ref_ptr = (0, 0); now = seen value.now }

-- References are seen as the same exactly if `==` returns true for what they point to.
pub reference-exact : {V : Type 0} (seen : V → V) (eq : V → V → Bool)
    → ((left right : V) → (eq left right ≡ true) ↔ (seen left ≡ seen right)) → (left right : Bor V)
    → (eq left.now right.now ≡ true) ↔ (unplaced seen left ≡ unplaced seen right)
reference-exact seen eq exact left right = (
  (λ is i. record { ref_ptr = (0, 0); now = (exact left.now right.now).0 is i }),
  (λ same. (exact left.now right.now).1 (ap (λ value. value.now) same)),
)

-- Pairs whose parts have the same texts have the same text.
pub pair-shown : {L R : Type 0} (left : L → Option (List ℕ)) (right : R → Option (List ℕ)) {a b : L}
    {c d : R} → left a ≡ left b → right c ≡ right d
    → (Some (40 ∷ []) ++? left a ++? Some comma_space ++? right c ++? Some (41 ∷ []))
    ≡ (Some (40 ∷ []) ++? left b ++? Some comma_space ++? right d ++? Some (41 ∷ []))
pair-shown left right one two i =
    Some (40 ∷ []) ++? one i ++? Some comma_space ++? two i ++? Some (41 ∷ [])

-- What is seen of a reference is seen as itself, if that holds for what it points to.
pub reference-settled : {V : Type 0} (seen : V → V) → ((value : V) → seen (seen value) ≡ seen value)
    → (value : Bor V) → unplaced seen (unplaced seen value) ≡ unplaced seen value
reference-settled seen settled value i = record { ref_ptr = (0, 0); now = settled value.now i }

-- Texts are seen as the same exactly if they have the same bytes.
pub text-exact : (left right : Bor (List ℕ)) → (pointwise nat_eq left.now right.now ≡ true)
    ↔ (unplaced (λ text. text) left ≡ unplaced (λ text. text) right)
text-exact left right =
    let same = slice_eq-Decides unsigned-exact left.now right.now (pointwise nat_eq left.now right.now) refl
    in (
      (λ is i. record { ref_ptr = (0, 0); now = same.0 is i }),
      (λ is. same.1 (ap (λ text. text.now) is)),
    )
