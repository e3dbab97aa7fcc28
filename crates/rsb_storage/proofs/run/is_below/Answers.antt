use Rattle.std.proofs.Common.{◌∙◌, sym}
use Rattle.std.proofs.lemmas.Bool.{lt-ltb, ltb-true}
use Rattle.rsb_streams.proofs.lemmas.checking.Comparisons.{less-by}
use Rattle.rsb_storage.proofs.run.is_below.Goals as goal

-- Values are ordered as their ranks are.
pub returns : goal.returns
returns g c =
    let rank = g.T.Integer.rank in
    let is = c.lt.ensures ∙ less-by
    (record { matches = g.met.T.Ord.matches_partial_cmp; in_order = g.met.T.Integer.in_order })
    c.args.left c.args.right c.requires.left c.requires.right in (
      (λ told. ltb-true (rank c.args.left) (rank c.args.right) (sym is ∙ told)),
      (λ less. is ∙ lt-ltb (rank c.args.left) (rank c.args.right) less),
    )
