use Rattle.std.proofs.Common.{◌≡◌, ℕ, ◌∷◌, length, sym, ◌∙◌, subst}
use Rattle.rsb_range_text.specs.Reading.{Follows}
use Rattle.rsb_range_text.specs.Text.{IsFirstUnexpected}
use Rattle.rsb_range_text.proofs.lemmas.Read.{has_read-nil, has_read-more, has_read-comma, has_read-all, spells-none, only-none, spells-last, only-last, unexpected_byte, unexpected_end}
use Rattle.rsb_range_text.proofs.ranges.spelled_ranges.Goals as goal
use Rattle.rsb_range_text.proofs.ranges.spelled_ranges.Goals.{then-byte-eq44+in-Some+in_ok-push, else-byte-eq44+in-Some-after}

pub loop-at-init : goal.loop-at-init
loop-at-init g c = rw c.new-ranges.ensures.items (has_read-nil g.T.ParseInteger.number g.T.ParseInteger.fits)

pub loop-at-preserved : goal.loop-at-preserved
loop-at-preserved g c =
    let text = c.args.text.now in
    let at = c.loop-at.at in
    let had = c.loop-at.invariant in
    let below = c.loop-at-test.true in
    elim c.if-byte-eq44.branch [
      | then-byte-eq44+in-Some+in_ok-push w ↦ rw (w.ranges-is, w.place-is, w.in_ok-push.ensures.items)
          (has_read-comma g.T.ParseInteger.number g.T.ParseInteger.fits text at c.loop-at.ranges.items c.loop-at.place w.in-Some.range below
          w.if-byte-eq44.true had w.in-Some.ensures)
      | else-byte-eq44+in-Some-after w ↦ rw (w.ranges-is, w.place-is)
          (has_read-more g.T.ParseInteger.number g.T.ParseInteger.fits text at c.loop-at.ranges.items c.loop-at.place w.in-Some-after.next below had
          w.in-Some-after.ensures)
    ]

-- If no range may end at the place, a comma is unexpected.
pub returns-in_default-clause-unexpected : goal.returns-in_default-clause-unexpected
returns-in_default-clause-unexpected g c = λ place is.
    let text = c.args.text.now in
    let zero = g.met.T.ParseInteger.has_zero in
    let same : c.loop-at.at ≡ place = cc in
    subst (λ (p : ℕ). IsFirstUnexpected g.T.ParseInteger.number g.T.ParseInteger.fits text p) same
    (unexpected_byte g.T.ParseInteger.number g.T.ParseInteger.fits zero.0 zero.1 zero.2 text c.loop-at.at c.loop-at.ranges.items c.loop-at.place
    c.loop-at-test.true c.loop-at.invariant (λ more rest.
    subst (λ (byte : ℕ). ¬ Follows g.T.ParseInteger.number g.T.ParseInteger.fits c.loop-at.place more (byte ∷ rest)) (sym c.if-byte-eq44.true)
    (c.in_default.ensures.comma more rest)))

-- If a byte leads to no place, it is unexpected.
pub returns-in_default-after-clause-unexpected : goal.returns-in_default-after-clause-unexpected
returns-in_default-after-clause-unexpected g c = λ place is.
    let text = c.args.text.now in
    let zero = g.met.T.ParseInteger.has_zero in
    let same : c.loop-at.at ≡ place = cc in
    subst (λ (p : ℕ). IsFirstUnexpected g.T.ParseInteger.number g.T.ParseInteger.fits text p) same
    (unexpected_byte g.T.ParseInteger.number g.T.ParseInteger.fits zero.0 zero.1 zero.2 text c.loop-at.at c.loop-at.ranges.items c.loop-at.place
    c.loop-at-test.true c.loop-at.invariant (λ more rest. c.in_default-after.ensures more rest))

-- If the place is still the start, the text spells no ranges.
pub returns-in-Start-clause-spelled : goal.returns-in-Start-clause-spelled
returns-in-Start-clause-spelled g c =
    let had = has_read-all g.T.ParseInteger.number g.T.ParseInteger.fits c.args.text.now c.loop-at.at c.loop-at.ranges.items c.loop-at.place
    c.loop-at-test.false c.loop-at.auto.at-end c.loop-at.invariant in
    spells-none g.T.ParseInteger.number g.T.ParseInteger.fits c.args.text.now c.loop-at.ranges.items (rw c.in-Start.is at had)

pub returns-in-Start-clause-only : goal.returns-in-Start-clause-only
returns-in-Start-clause-only g c = λ others h.
    let had = has_read-all g.T.ParseInteger.number g.T.ParseInteger.fits c.args.text.now c.loop-at.at c.loop-at.ranges.items c.loop-at.place
    c.loop-at-test.false c.loop-at.auto.at-end c.loop-at.invariant in
    only-none g.T.ParseInteger.number g.T.ParseInteger.fits c.args.text.now c.loop-at.ranges.items others (rw c.in-Start.is at had) h

-- If no range may end at the place, the text ends too early.
pub returns-in_default-finished : goal.returns-in_default-finished
returns-in_default-finished g c = record {
  spelled = tt;
  only = tt;
  unexpected = λ place is.
      let text = c.args.text.now in
      let zero = g.met.T.ParseInteger.has_zero in
      let same : length text ≡ place = cc in
      let had = has_read-all g.T.ParseInteger.number g.T.ParseInteger.fits text c.loop-at.at c.loop-at.ranges.items c.loop-at.place
      c.loop-at-test.false c.loop-at.auto.at-end c.loop-at.invariant in
      subst (λ (p : ℕ). IsFirstUnexpected g.T.ParseInteger.number g.T.ParseInteger.fits text p) same
      (unexpected_end g.T.ParseInteger.number g.T.ParseInteger.fits zero.0 zero.1 zero.2 text c.loop-at.ranges.items c.loop-at.place had
      (λ more. c.in_default-finished.ensures.end more c.in_default-place.not-Start));
}

-- Otherwise the last range ends with the text.
pub returns-clause-spelled : goal.returns-clause-spelled
returns-clause-spelled g c =
    let had = has_read-all g.T.ParseInteger.number g.T.ParseInteger.fits c.args.text.now c.loop-at.at c.loop-at.ranges.items c.loop-at.place
    c.loop-at-test.false c.loop-at.auto.at-end c.loop-at.invariant in
    rw c.in_ok-push-2.ensures.items (spells-last g.T.ParseInteger.number g.T.ParseInteger.fits c.args.text.now c.loop-at.ranges.items
    c.loop-at.place c.in-Some-finished.range had c.in-Some-finished.ensures)

pub returns-clause-only : goal.returns-clause-only
returns-clause-only g c = λ others h.
    let had = has_read-all g.T.ParseInteger.number g.T.ParseInteger.fits c.args.text.now c.loop-at.at c.loop-at.ranges.items c.loop-at.place
    c.loop-at-test.false c.loop-at.auto.at-end c.loop-at.invariant in
    only-last g.T.ParseInteger.number g.T.ParseInteger.fits c.args.text.now c.loop-at.ranges.items others c.loop-at.place
    c.in-Some-finished.range had c.in-Some-finished.ensures h ∙ sym c.in_ok-push-2.ensures.items
