use Rattle.std.proofs.Common.{◌≡◌, ◌≤◌, length, take}
use Rattle.range_set_bytes.specs.Format.{header}
use Rattle.range_set_bytes.proofs.read.after_header.Given as goal

-- The bytes so far are those of the header.
abbrev pub invariant-loop-place : goal.invariant-loop-place
invariant-loop-place g l = record {
  within : l.place ≤ length l.bytes;
  same : take l.place l.bytes ≡ take l.place (header g.T.Integer.value_count);
}
