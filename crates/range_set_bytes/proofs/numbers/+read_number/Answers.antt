use Rattle.std.proofs.Common.{arith, rules, ◌≡◌, ◌<◌, ◌≤◌, ◌-◌, ◌/◌, ◌∙◌, ap, ℕ, List, [], ◌∷◌, subst, refl}
use Rattle.std.proofs.lemmas.List.{nil_from_length}
use Rattle.range_set_bytes.specs.BadNumber.{IsBadNumber}
use Rattle.range_set_bytes.proofs.lemmas.Leb128.{bad-ended, bad-more, leb128-byte, leb128-one}
use Rattle.range_set_bytes.proofs.numbers.+read_number.Goals as goal

-- No byte is left.
pub returns-in_default-clause-bad : goal.returns-in_default-clause-bad
returns-in_default-clause-bad t c =
    let none : c.args.bytes.now ≡ [] = nil_from_length c.args.bytes.now c.in_default.ensures.cases in
    rw none (bad-ended c.args.least c.args.most c.requires.some)

pub returns-then-byte-lt128-clause-read : goal.returns-then-byte-lt128-clause-read
returns-then-byte-lt128-clause-read t c = c.in-Some.ensures.cases.0
    ∙ rw (leb128-one c.from-byte.result c.if-byte-lt128.true, c.from-byte.ensures) refl

pub returns-in-Ok-clause-read : goal.returns-in-Ok-clause-read
returns-in-Ok-clause-read t c =
    let first = c.in-Some.first.now in
    let bytes = c.in-Some.ensures.cases.0 in
    let fits : first < 256 = (rw bytes at (c.type_inv.bytes 0)).fits in
    let low = c.from-byte.ensures in
    bytes ∙ rw (
      leb128-byte c.from-byte.result c.in-Ok.high c.if-byte-lt128.false (omega arith)
          c.in-Ok.ensures.value.0,
      low,
    ) (ap (λ (tail : List ℕ). first ∷ tail) c.in-Ok.ensures.read)

pub returns-in-Err-clause-bad : goal.returns-in-Err-clause-bad
returns-in-Err-clause-bad t c =
    let first = c.in-Some.first.now in
    let bytes = c.in-Some.ensures.cases.0 in
    let fits : first < 256 = (rw bytes at (c.type_inv.bytes 0)).fits in
    let same = c.from-byte.ensures in
    let within : first ≤ c.args.most = search rules in
    rw bytes (bad-more c.args.least c.args.most first c.in-Some.after.now c.in-Err.bad c.requires.low
    (omega (arith, c.if-byte-lt128.false)) fits within
    (subst (λ (byte : ℕ). IsBadNumber 1 ((c.args.most - (byte - 128)) / 128) c.in-Some.after.now c.in-Err.bad)
    same c.in-Err.ensures.bad))
