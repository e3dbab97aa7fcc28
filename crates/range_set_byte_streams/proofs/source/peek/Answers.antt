use Rattle.std.proofs.Common.{subst}
use Rattle.std.specs.Io.BufRead.{FillKeeps}
use Rattle.range_set_byte_streams.proofs.lemmas.Source.{keeps-then, shown-first}
use Rattle.range_set_byte_streams.proofs.source.peek.Goals as goal

pub returns-in-Ok-clause-kept : goal.returns-in-Ok-clause-kept
returns-in-Ok-clause-kept g c =
    let rested = c.fill_buf.follows.lender-at-none in
    let filled = subst (FillKeeps _ (g.R.Read.remaining rested) (g.R.BufRead.consumable_len rested))
    c.in-Ok.is c.fill_buf.follows.holds-at-none in
    keeps-then (g.R.Read.remaining c.args.input.now) (g.R.Read.remaining c.loop.input)
    (g.R.Read.remaining rested) c.loop.invariant filled.0

-- The reader shows the byte.
pub returns-in-Ok-clause-shown : goal.returns-in-Ok-clause-shown
returns-in-Ok-clause-shown g c =
    let rested = c.fill_buf.follows.lender-at-none in
    let filled = subst (FillKeeps _ (g.R.Read.remaining rested) (g.R.BufRead.consumable_len rested))
    c.in-Ok.is c.fill_buf.follows.holds-at-none in
    shown-first (g.R.Read.remaining c.args.input.now) (g.R.Read.remaining c.loop.input)
    (g.R.BufRead.consumable_len rested) _ c.in-Ok.bytes.now c.loop.invariant
    c.in-Ok.ensures.front c.in-Ok.ensures.end filled.1 (cc)
