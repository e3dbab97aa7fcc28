use Rattle.std.proofs.Common.{◌+◌, ◌∙◌, ap, arith, subst, sym}
use Rattle.rsb_integer.specs.Runs.{length_of, HasRanks}
use Rattle.rsb_integer.proofs.lemmas.Range.{interval_of-ends}
use Rattle.rsb_storage.proofs.lengths.add_length.Goals as goal

-- The range has the values of the run.
pub safe_len-requires : goal.safe_len-requires
safe_len-requires g c =
    let is = interval_of-ends g.T.Integer.rank c.new.result c.args.run.start c.args.run.end
    c.new.ensures.start c.new.ensures.end c.new.ensures.exhausted in
    subst HasRanks (sym is) c.requires.some

-- The sum is at most the number of values of the type, which is a length.
pub add_assign-requires : goal.add_assign-requires
add_assign-requires g c =
    let is = interval_of-ends g.T.Integer.rank c.new.result c.args.run.start c.args.run.end
    c.new.ensures.start c.new.ensures.end c.new.ensures.exhausted in
    let added = c.safe_len.ensures ∙ ap length_of is in
    g.met.T.SafeLen.SafeLength.sum_allowed c.args.length.now c.safe_len.result
    (omega (arith, added, c.requires.fits, g.met.T.Integer.lengths_suffice))

pub returns : goal.returns
returns g c =
    let number = g.T.SafeLen.SafeLength.number in
    let is = interval_of-ends g.T.Integer.rank c.new.result c.args.run.start c.args.run.end
    c.new.ensures.start c.new.ensures.end c.new.ensures.exhausted in
    g.met.T.SafeLen.SafeLength.sum_exact c.args.length.now c.safe_len.result
    c.add_assign.new.self c.add_assign.ensures.after
    ∙ ap (λ length. number c.args.length.now + length) (c.safe_len.ensures ∙ ap length_of is)
