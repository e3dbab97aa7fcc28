use Rattle.std.proofs.Common.{◌∙◌, ap, arith, refl}
use Rattle.std.proofs.lemmas.Bool.{true≢false}
use Rattle.rsb_storage.specs.Set.{first_rank, past_rank}
use Rattle.rsb_storage.proofs.lemmas.runs.Storage.{lt-fails}
use Rattle.rsb_storage.proofs.bounds.run_between.Goals as goal

-- The upper bound allows no values.
pub returns-in_err-end : goal.returns-in_err-end
returns-in_err-end g c =
    rw c.from_residual.ensures (record {
      none = λ has is. omega (
        arith,
        c.in_err-end.ensures.none refl,
        ap (past_rank g.T.Integer.rank g.T.Integer.value_count) (c.end_bound.ensures has),
      );
      start = λ has. tt;
      end = λ has. tt;
      order = tt;
      value = tt;
    })

-- The lower bound allows no values.
pub returns-in_err-start-clause-none : goal.returns-in_err-start-clause-none
returns-in_err-start-clause-none g c = λ has is.
    omega (
      arith,
      c.in_err-start.ensures.none refl,
      c.in_ok-end.ensures.last,
      c.in_ok-end.ensures.value,
      ap (past_rank g.T.Integer.rank g.T.Integer.value_count) (c.end_bound.ensures has),
      ap (first_rank g.T.Integer.rank) (c.start_bound.ensures has),
    )

-- The lower bound is past the upper one.
pub returns-then-is_below-clause-none : goal.returns-then-is_below-clause-none
returns-then-is_below-clause-none g c = λ has is.
    omega (
      arith,
      c.in_ok-start.ensures.first,
      c.in_ok-end.ensures.last,
      c.is_below.ensures.0 c.if-is_below.true,
      ap (past_rank g.T.Integer.rank g.T.Integer.value_count) (c.end_bound.ensures has),
      ap (first_rank g.T.Integer.rank) (c.start_bound.ensures has),
    )

-- There are values between the bounds.
pub returns : goal.returns
returns g c = record {
  none = λ has is. absurd (true≢false is);
  start = λ has.
      c.in_ok-start.ensures.first ∙ ap (first_rank g.T.Integer.rank) (c.start_bound.ensures has);
  end = λ has. c.in_ok-end.ensures.last
      ∙ ap (past_rank g.T.Integer.rank g.T.Integer.value_count) (c.end_bound.ensures has);
  order = lt-fails c.is_below.result _ _ c.is_below.ensures c.if-is_below.false;
  value = c.in_ok-end.ensures.value;
}
