use Rattle.std.proofs.Common.{◌++◌, ◌∙◌, arith}
use Rattle.range_set_bytes.specs.Leb128.{leb128}
use Rattle.range_set_bytes.proofs.lemmas.Leb128.{pushed-last, pushed-more}
use Rattle.range_set_bytes.proofs.numbers.push_number.Goals as goal

pub loop-rest-preserved : goal.loop-rest-preserved
loop-rest-preserved g c = rw c.in_ok-push.ensures.items (pushed-more c.loop-rest.bytes.items
    (c.args.bytes.now.items ++ leb128 c.args.number) c.loop-rest.rest (omega arith) c.loop-rest.invariant)

pub returns : goal.returns
returns g c = record {
  ok = c.in_ok-push-2.ensures.items ∙ pushed-last c.loop-rest.bytes.items
      (c.args.bytes.now.items ++ leb128 c.args.number) c.loop-rest.rest (omega arith) c.loop-rest.invariant;
}
