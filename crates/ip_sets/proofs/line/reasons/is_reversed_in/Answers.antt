use Rattle.std.proofs.Common.{◌≡◌, ℕ, ◌<◌, IsTrue, ap, arith, nat_lt}
use Rattle.std.proofs.lemmas.Bool.{lt-ltb, ltb-true}
use Rattle.ip_sets.specs.AddressRange.{numbers}
use Rattle.ip_sets.proofs.lemmas.spelling.Ranges.{reversed}
use Rattle.ip_sets.proofs.line.reasons.is_reversed_in.Goals as goal

-- Numbers are in order if the values with these ranks are, and the other way round.
tested : (a b c d e f : ℕ) → a ≡ b → c ≡ d → b ≡ e → d ≡ f
    → (IsTrue (nat_lt a c) → e < f) × (e < f → IsTrue (nat_lt a c))
tested a b c d e f first second third fourth = (
  (λ is. let less = ltb-true a c is in omega (arith, less)),
  (λ less. lt-ltb a c (omega (arith, less))),
)

-- The ends are the only ones that the texts write.
pub returns-in-Some-Some : goal.returns-in-Some-Some
returns-in-Some-Some g c =
    let rank = g.F.Integer.rank in
    let first = numbers rank c.in-Some-Some.first in
    let last = numbers rank c.in-Some-Some.last in
    let test = tested c.number.result (rank c.end.result.now) c.number-in-Some-Some.result
    (rank c.start.result.now) _ _ c.number.ensures.rank c.number-in-Some-Some.ensures.rank
    (ap rank c.end.ensures) (ap rank c.start.ensures) in (
      (λ is. record {
        first = first;
        last = last;
        first_written = c.in-Some-Some.ensures;
        last_written = c.in-Some-Some.ensures';
        reversed = test.0 is;
      }),
      (λ h. test.1 (reversed g.F.Address.width (omega (arith, g.met.F.Family.fits))
          g.F.Family.is_address g.met.F.Family.one_address c.args.first.now c.args.last.now first
          last c.in-Some-Some.ensures c.in-Some-Some.ensures' h)),
    )
