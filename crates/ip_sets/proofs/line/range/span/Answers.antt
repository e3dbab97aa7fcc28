use Rattle.std.proofs.Common.{◌≡◌, ◌∙◌, ℕ, ◌<◌, ◌≤◌, ap, arith}
use Rattle.ip_sets.specs.AddressRange.{numbers}
use Rattle.ip_sets.proofs.lemmas.spelling.Ranges.{out_of_order}
use Rattle.ip_sets.proofs.line.range.span.Goals as goal

-- Numbers in order are the ranks of values in order.
below : {a b c d e f : ℕ} → a ≡ b → c ≡ d → b ≡ e → d ≡ f → a < c → e < f
below first second third fourth less = omega arith

not_below : {a b c d e f : ℕ} → a ≡ b → c ≡ d → b ≡ e → d ≡ f → c ≤ a → f ≤ e
not_below first second third fourth less = omega arith

pub returns-in_err-first : goal.returns-in_err-first
returns-in_err-first g c = rw c.from_residual.ensures
    (λ range h. c.in_err-first.ensures h.first (rw c.trimmed.ensures h.first_written))

pub returns-in_err-last : goal.returns-in_err-last
returns-in_err-last g c = rw c.from_residual-in_err-last.ensures
    (λ range h. c.in_err-last.ensures h.last (rw c.trimmed-2.ensures h.last_written))

-- The ends are the only ones that the texts write.
pub returns-then-number : goal.returns-then-number
returns-then-number g c =
    let rank = g.F.Integer.rank in
    out_of_order g.F.Address.width (omega (arith, g.met.F.Family.fits)) g.F.Family.is_address
    g.met.F.Family.one_address c.args.first_text.now c.args.last_text.now
    (numbers rank c.in_ok-first.first) (numbers rank c.in_ok-last.last)
    (rw c.trimmed.ensures at c.in_ok-first.ensures)
    (rw c.trimmed-2.ensures at c.in_ok-last.ensures)
    (below c.number.ensures.rank c.number-2.ensures.rank (ap rank c.end.ensures)
    (ap rank c.start.ensures) c.if-number.true)

-- They are in order.
pub returns : goal.returns
returns g c =
    let rank = g.F.Integer.rank in record {
      first = numbers rank c.in_ok-first.first;
      last = numbers rank c.in_ok-last.last;
      first_written = rw c.trimmed.ensures at c.in_ok-first.ensures;
      last_written = rw c.trimmed-2.ensures at c.in_ok-last.ensures;
      in_order = not_below c.number.ensures.rank c.number-2.ensures.rank (ap rank c.end.ensures)
          (ap rank c.start.ensures) c.if-number.false;
      span = record {
        start = ap rank (c.new.ensures.start ∙ c.start-2.ensures);
        end = ap rank (c.new.ensures.end ∙ c.end-2.ensures);
        fresh = c.new.ensures.exhausted;
      };
    }
