use Rattle.std.proofs.Common.{◌∷◌, ◌∙◌, ap}
use Rattle.ip_sets.specs.AddressRange.{numbers}
use Rattle.ip_sets.proofs.lemmas.spelling.Plain.{line_of_block, line_of_span, one_line}
use Rattle.ip_sets.proofs.lemmas.spelling.Read.{IfSome-weaker}
use Rattle.ip_sets.proofs.line.plain.plain_line.Goals as goal

-- The address is the whole line.
pub returns-in-10 : goal.returns-in-10
returns-in-10 g c =
    let rank = g.F.Integer.rank in
    one_line g.F.Address.width g.F.Family.is_address g.met.F.Family.fits g.met.F.Family.unmarked
    c.args.bytes.now c.in_ok-first.rest.now c.in_ok-end.rest.now (rank c.in_ok-first.first) _
    c.in_ok-first.ensures
    (c.in_ok-end.ensures.cases.0 ∙ ap (λ byte. byte ∷ c.in_ok-end.rest.now) c.in-10.is)
    (record {
      start = ap rank c.new.ensures.start;
      end = ap rank c.new.ensures.end;
      fresh = c.new.ensures.exhausted;
    })

-- A block follows.
pub returns-in-47 : goal.returns-in-47
returns-in-47 g c =
    let rank = g.F.Integer.rank in
    IfSome-weaker c.plain_block.result _ _ c.plain_block.ensures (λ read ends.
    line_of_block g.F.Address.width g.F.Family.is_address g.met.F.Family.fits
    g.met.F.Family.unmarked c.args.bytes.now c.in_ok-first.rest.now c.in_ok-end.rest.now
    read.1.now (rank c.in_ok-first.first) (numbers rank read.0) c.in_ok-first.ensures
    (c.in_ok-end.ensures.cases.0 ∙ ap (λ byte. byte ∷ c.in_ok-end.rest.now) c.in-47.is) ends)

-- A last address follows.
pub returns-in-45 : goal.returns-in-45
returns-in-45 g c =
    let rank = g.F.Integer.rank in
    IfSome-weaker c.plain_span.result _ _ c.plain_span.ensures (λ read ends.
    line_of_span g.F.Address.width g.F.Family.is_address g.met.F.Family.fits
    g.met.F.Family.unmarked c.args.bytes.now c.in_ok-first.rest.now c.in_ok-end.rest.now
    read.1.now (rank c.in_ok-first.first) (numbers rank read.0) c.in_ok-first.ensures
    (c.in_ok-end.ensures.cases.0 ∙ ap (λ byte. byte ∷ c.in_ok-end.rest.now) c.in-45.is) ends)
