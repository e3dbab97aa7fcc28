use Rattle.std.proofs.Common.{arith, rules, ap, ◌≡◌, ◌∙◌, ◌<◌, ◌≤◌, drop, ℕ, List, [], ◌∷◌, subst, sym}
use Rattle.std.proofs.lemmas.Result.{err_from_is_err_and}
use Rattle.range_set_bytes.specs.BadNumber.{bad_at, IsBadNumber}
use Rattle.range_set_bytes.specs.declared.fault.Fault.{Fault}
use Rattle.range_set_byte_streams.specs.Source.{Shows}
use Rattle.range_set_byte_streams.proofs.lemmas.Numbers.{length-more, length-one, number-more, number-one, stops-ended, stops-here, stops-more}
use Rattle.range_set_byte_streams.proofs.lemmas.Source.{byte-consumed, kept, past-more, shown-end, shown-parts}
use Rattle.range_set_byte_streams.proofs.numbers.+read_number.Goals as goal

-- No byte is left.
pub returns-in_default-clause-fault : goal.returns-in_default-clause-fault
returns-in_default-clause-fault g t c = λ bytes fault is told.
    let known = g.R.Read.remaining c.args.input.now in
    let now = g.R.Read.remaining c.peek.new.input in
    let limit = g.R.BufRead.consumable_len c.peek.new.input in
    let none = shown-end known limit bytes is
    (subst (Shows known limit) c.in_default.is c.in_ok-byte.ensures.shown) in
    let same : c.wrong_at.result ≡ fault = cc told in
    stops-ended c.args.least c.args.most c.args.start c.args.place bytes now fault c.requires.some none
    (ap (λ (f : Fault). f.place) (sym same) ∙ c.wrong_at.ensures.place)
    (ap (λ (f : Fault). f.reason) (sym same) ∙ c.wrong_at.ensures.reason)
    (kept known now bytes is c.in_ok-byte.ensures.kept)

-- The byte is wrong.
pub returns-in-Some-wrong_byte-clause-fault : goal.returns-in-Some-wrong_byte-clause-fault
returns-in-Some-wrong_byte-clause-fault g t c = λ bytes fault is told.
    let known = g.R.Read.remaining c.args.input.now in
    let now = g.R.Read.remaining c.peek.new.input in
    let limit = g.R.BufRead.consumable_len c.peek.new.input in
    let wrong = c.in-Some-wrong_byte.wrong in
    let parts = shown-parts known limit bytes c.in-Some.byte is
    (subst (Shows known limit) c.in-Some.is c.in_ok-byte.ensures.shown) in
    let same : c.wrong_at-in-Some-wrong_byte.result ≡ fault = cc told in
    stops-here c.args.least c.args.most c.args.start c.args.place bytes now wrong fault
    (subst (λ (all : List ℕ). IsBadNumber c.args.least c.args.most all (bad_at 0 wrong)) (sym parts)
    (c.in-Some-wrong_byte.ensures.wrong (drop 1 bytes)))
    (ap (λ (f : Fault). f.place) (sym same) ∙ c.wrong_at-in-Some-wrong_byte.ensures.place)
    (ap (λ (f : Fault). f.reason) (sym same) ∙ c.wrong_at-in-Some-wrong_byte.ensures.reason)
    (kept known now bytes is c.in_ok-byte.ensures.kept)

-- The byte is the number.
pub returns-then-byte-lt128-clause-end : goal.returns-then-byte-lt128-clause-end
returns-then-byte-lt128-clause-end g t c =
    let less : c.from-number.result < 128 = omega (arith, c.from-number.ensures, c.if-byte-lt128.true) in
    omega (arith, c.in_ok-after.ensures, length-one c.from-number.result less)

pub returns-then-byte-lt128-clause-read : goal.returns-then-byte-lt128-clause-read
returns-then-byte-lt128-clause-read g t c = λ bytes is.
    let known = g.R.Read.remaining c.args.input.now in
    let limit = g.R.BufRead.consumable_len c.peek.new.input in
    let now = g.R.Read.remaining c.consume.new.self in
    let begins = byte-consumed known (g.R.Read.remaining c.peek.new.input) now limit bytes c.in-Some.byte
    is c.in_ok-byte.ensures.kept (subst (Shows known limit) c.in-Some.is c.in_ok-byte.ensures.shown)
    c.consume.ensures.bytes in
    rw c.from-number.ensures (number-one c.in-Some.byte bytes begins.after now c.if-byte-lt128.true
    begins.parts begins.left)

-- The rest of the number is wrong, or cannot be read.
pub returns-in_err-high-clause-fault : goal.returns-in_err-high-clause-fault
returns-in_err-high-clause-fault g t c = λ bytes fault is told.
    let known = g.R.Read.remaining c.args.input.now in
    let limit = g.R.BufRead.consumable_len c.peek.new.input in
    let begins = byte-consumed known (g.R.Read.remaining c.peek.new.input)
    (g.R.Read.remaining c.consume.new.self) limit bytes c.in-Some.byte is c.in_ok-byte.ensures.kept
    (subst (Shows known limit) c.in-Some.is c.in_ok-byte.ensures.shown) c.consume.ensures.bytes in
    let passed = err_from_is_err_and c.from_residual-in_err-high.result c.from_residual-in_err-high.ensures.1 in
    let stops = rw (c.from-number.ensures, c.in_ok-after.ensures) at
    (c.in_err-high.ensures.fault begins.after fault begins.left cc) in
    let fits : c.in-Some.byte < 256 = search rules in
    let within : c.in-Some.byte ≤ c.args.most = search rules in
    stops-more c.args.least c.args.most c.args.start c.args.place c.in-Some.byte bytes begins.after
    (g.R.Read.remaining c.read_number.new.input) fault c.requires.begun c.requires.low
    (omega (arith, c.if-byte-lt128.false)) fits within begins.parts stops

pub returns-in_err-high-clause-past : goal.returns-in_err-high-clause-past
returns-in_err-high-clause-past g t c = λ bytes is.
    let known = g.R.Read.remaining c.args.input.now in
    let limit = g.R.BufRead.consumable_len c.peek.new.input in
    let begins = byte-consumed known (g.R.Read.remaining c.peek.new.input)
    (g.R.Read.remaining c.consume.new.self) limit bytes c.in-Some.byte is c.in_ok-byte.ensures.kept
    (subst (Shows known limit) c.in-Some.is c.in_ok-byte.ensures.shown) c.consume.ensures.bytes in
    let passed = err_from_is_err_and c.from_residual-in_err-high.result c.from_residual-in_err-high.ensures.1 in
    rw passed.1 (past-more bytes (c.in-Some.byte ∷ []) begins.after (g.R.Read.remaining c.read_number.new.input)
    begins.parts (c.in_err-high.ensures.past begins.after begins.left))

-- The byte and the rest are the number.
pub returns-clause-end : goal.returns-clause-end
returns-clause-end g t c =
    let number = c.from-number.result in
    let fits : c.in-Some.byte < 256 = search rules in
    omega (
      arith,
      c.in_ok-high.ensures.end,
      c.in_ok-after.ensures,
      length-more number c.in_ok-high.high (omega (arith, c.from-number.ensures, c.if-byte-lt128.false))
          (omega (arith, c.from-number.ensures, fits)) c.in_ok-high.ensures.value.0,
    )

pub returns-clause-read : goal.returns-clause-read
returns-clause-read g t c = λ bytes is.
    let known = g.R.Read.remaining c.args.input.now in
    let limit = g.R.BufRead.consumable_len c.peek.new.input in
    let begins = byte-consumed known (g.R.Read.remaining c.peek.new.input)
    (g.R.Read.remaining c.consume.new.self) limit bytes c.in-Some.byte is c.in_ok-byte.ensures.kept
    (subst (Shows known limit) c.in-Some.is c.in_ok-byte.ensures.shown) c.consume.ensures.bytes in
    let fits : c.in-Some.byte < 256 = search rules in
    rw c.from-number.ensures (number-more c.in-Some.byte c.in_ok-high.high bytes begins.after
    (g.R.Read.remaining c.read_number.new.input) (omega (arith, c.if-byte-lt128.false)) fits
    c.in_ok-high.ensures.value.0 begins.parts (c.in_ok-high.ensures.read begins.after begins.left))
