-- The biggest block at the start of a span, and what is left of the span.
use Rattle.std.proofs.Common.{◌≡◌, ◌≢◌, ℕ, ◌+◌, ◌-◌, ◌^◌, ◌<◌, ◌≤◌, refl, sym, ap, ◌∙◌, subst, arith}
use Rattle.std.specs.Prelude.{Some, None}
use Rattle.range_set_blaze.specs.Runs.{from_to, Interval}
use Rattle.range_set_blaze.proofs.MembersLemmas.{same_interval}
use Rattle.ip_sets.specs.BlocksLeft.{span_run, IsBiggest, IsSplit}
use Rattle.ip_sets.specs.declared.blocks.block.Block.{Block}
use Rattle.ip_sets.specs.declared.blocks.span.Span.{Span}
use Rattle.ip_sets.proofs.lemmas.aligned.Powers.{pow-under}

-- The exponent is at most the number of bits.
pub free-within : (run : Interval) (free width : ℕ) → IsBiggest run free → run.last < 2 ^ width
    → free ≤ width
free-within run free width is below =
    let fits = is.fits in
    pow-under free width (omega (arith, fits, below))

-- The exponent is at most the number of bits of an address type in which the run ends.
pub free-bits : (first last end n free width : ℕ) → last ≡ end → end < n → n ≡ 2 ^ width
    → IsBiggest (from_to first last) free → free ≤ width
free-bits first last end n free width same below all is =
    free-within (from_to first last) free width is (omega (arith, same, below, all))

-- The exponent stays the same if the run and the number are equal.
biggest-same : (run other : Interval) (free also : ℕ) → run.first ≡ other.first
    → run.last ≡ other.last → free ≡ also → IsBiggest run free → IsBiggest other also
biggest-same run other free also first last same is =
    subst (λ each. IsBiggest other each) same
    (subst (λ each. IsBiggest each free) (same_interval run other first last) is)

module _ {T : Type 0} (rank : T → ℕ) (width : ℕ) (span : Span T) (first last free bits ones : ℕ)
    (from : first ≡ rank span.first) (to : last ≡ rank span.last)
    (is : IsBiggest (from_to first last) free) (has : bits ≡ width) (within : free ≤ width)
    (all : ones + 1 ≡ 2 ^ free) where
  -- The number of bits without the length of the prefix is the exponent.
  free-is : free ≡ width - (bits - free)
  free-is = omega (arith, has, within)

  -- So it is the exponent of the biggest block.
  split-biggest : IsBiggest (span_run rank span) (width - (bits - free))
  split-biggest =
      biggest-same (from_to first last) (span_run rank span) free (width - (bits - free)) from to
      free-is is

  -- The block that starts with the span.
  abbrev block : Block T
  block = record { first = span.first; length = bits - free }

  -- The block has so many ranks.
  count-is : 2 ^ (width - (bits - free)) ≡ ones + 1
  count-is = ap (λ k. 2 ^ k) (sym free-is) ∙ sym all

  -- If the block ends with the span, nothing is left.
  pub split-whole : first + ones ≡ last → IsSplit rank width span block None
  split-whole end =
      let count = count-is in
      record {
        prefix = omega (arith, has);
        starts = refl;
        biggest = split-biggest;
        left = omega (arith, count, end, from, to);
      }

  -- Otherwise the rest is left.
  pub split-part : (next : T) → first + ones ≢ last → rank next ≡ first + ones + 1
      → IsSplit rank width span block (Some (record { first = next; last = span.last }))
  split-part next other past =
      let count = count-is in
      let fits = is.fits in
      record {
        prefix = omega (arith, has);
        starts = refl;
        biggest = split-biggest;
        left = (
          omega (arith, count, from, past),
          refl,
          omega (arith, fits, all, other, past, to),
        );
      }
