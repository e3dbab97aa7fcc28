use Rattle.std.proofs.Common.{◌∙◌, ◌||◌, ap, sym}
use Rattle.ip_commands.proofs.lemmas.Selection.{both-selected, v4-selected, v6-selected}
use Rattle.ip_commands.proofs.writing.write_streams.Goals as goal

-- Both families were written, and there is an IPv4 address.
pub returns-then-has_v4 : goal.returns-then-has_v4
returns-then-has_v4 g c = λ these those first last.
    both-selected c.args.style.sign.now c.args.style.form c.args.style.families these those
    (g.F.Draw.may_give c.args.v4) (g.S.Draw.may_give c.args.v6) first last _ _ _ _ _ _ c.in-Both.is
    (ap (λ each. each || c.in_ok-has_v6-in-Both.has_v6) c.if-has_v4.true ∙ sym c.if-has_v4.true)
    c.in_ok-has_v4-in-Both.ensures
    c.in_ok-has_v6-in-Both.ensures

-- Both families were written, and there is no IPv4 address.
pub returns-else-has_v4 : goal.returns-else-has_v4
returns-else-has_v4 g c = λ these those first last.
    both-selected c.args.style.sign.now c.args.style.form c.args.style.families these those
    (g.F.Draw.may_give c.args.v4) (g.S.Draw.may_give c.args.v6) first last _ _ _ _ _ _ c.in-Both.is
    (ap (λ each. each || c.in_ok-has_v6-in-Both.has_v6) c.if-has_v4.false) c.in_ok-has_v4-in-Both.ensures
    c.in_ok-has_v6-in-Both.ensures

-- Only IPv4 was written.
pub returns-in-V4 : goal.returns-in-V4
returns-in-V4 g c = λ these those first last.
    v4-selected c.args.style.sign.now c.args.style.form c.args.style.families these those
    (g.F.Draw.may_give c.args.v4) (g.S.Draw.may_give c.args.v6) first last
    c.write_ranges-in-V4.result _ _ c.in-V4.is c.write_ranges-in-V4.ensures

-- Only IPv6 was written.
pub returns-in-V6 : goal.returns-in-V6
returns-in-V6 g c = λ these those first last.
    v6-selected c.args.style.sign.now c.args.style.form c.args.style.families these those
    (g.F.Draw.may_give c.args.v4) (g.S.Draw.may_give c.args.v6) first last
    c.write_ranges-in-V6.result _ _ c.in-V6.is c.write_ranges-in-V6.ensures
