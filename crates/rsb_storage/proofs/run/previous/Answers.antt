use Rattle.std.proofs.Common.{arith}
use Rattle.std.proofs.lemmas.Bool.{true≢false}
use Rattle.rsb_storage.proofs.lemmas.runs.Storage.{lt-fails}
use Rattle.rsb_storage.proofs.run.previous.Goals as goal

-- A value that is not the least one has a value before it.
pub sub_one-requires : goal.sub_one-requires
sub_one-requires g c =
    omega (arith, c.is_below.ensures.0 c.if-is_below.true, c.min_value.ensures)

pub returns-then-is_below : goal.returns-then-is_below
returns-then-is_below g c = record {
  none = λ is. absurd (true≢false is);
  some = c.sub_one.ensures;
}

-- Otherwise the value is the least one.
pub returns-else-is_below : goal.returns-else-is_below
returns-else-is_below g c = record {
  none = λ is. omega (
    arith,
    lt-fails c.is_below.result _ _ c.is_below.ensures c.if-is_below.false,
    c.min_value.ensures,
  );
  some = tt;
}
