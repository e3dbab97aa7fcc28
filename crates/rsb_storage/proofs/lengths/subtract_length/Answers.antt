use Rattle.std.proofs.Common.{◌+◌, ◌∙◌, ap, arith, subst, sym}
use Rattle.rsb_integer.specs.Runs.{length_of, HasRanks}
use Rattle.rsb_integer.proofs.lemmas.Range.{interval_of-ends}
use Rattle.rsb_storage.proofs.lengths.subtract_length.Goals as goal

-- The range has the values of the run.
pub safe_len-requires : goal.safe_len-requires
safe_len-requires g c =
    let is = interval_of-ends g.T.Integer.rank c.new.result c.args.run.start c.args.run.end
    c.new.ensures.start c.new.ensures.end c.new.ensures.exhausted in
    subst HasRanks (sym is) c.requires.some

-- They are at most as many as the length counts.
pub sub_assign-requires : goal.sub_assign-requires
sub_assign-requires g c =
    let is = interval_of-ends g.T.Integer.rank c.new.result c.args.run.start c.args.run.end
    c.new.ensures.start c.new.ensures.end c.new.ensures.exhausted in
    let taken = c.safe_len.ensures ∙ ap length_of is in
    g.met.T.SafeLen.SafeLength.difference_allowed c.args.length.now c.safe_len.result
    (omega (arith, taken, c.requires.counted))

pub returns : goal.returns
returns g c =
    let number = g.T.SafeLen.SafeLength.number in
    let is = interval_of-ends g.T.Integer.rank c.new.result c.args.run.start c.args.run.end
    c.new.ensures.start c.new.ensures.end c.new.ensures.exhausted in
    let taken = c.safe_len.ensures ∙ ap length_of is in
    ap (λ length. number c.sub_assign.new.self + length) (sym taken)
    ∙ g.met.T.SafeLen.SafeLength.difference_exact c.args.length.now c.safe_len.result
    c.sub_assign.new.self (omega (arith, taken, c.requires.counted)) c.sub_assign.ensures.after
