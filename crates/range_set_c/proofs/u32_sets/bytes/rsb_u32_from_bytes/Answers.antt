-- Written by tools/c/narrow from proofs/u64_sets/bytes/rsb_u64_from_bytes/Answers.antt.
use Rattle.std.proofs.Common.{◌∙◌, ap, Err}
use Rattle.range_set_bytes.specs.declared.fault.Fault.{Fault}
use Rattle.range_set_c.specs.BadBytes.{number_of_reason}
use Rattle.range_set_c.proofs.u32_sets.bytes.rsb_u32_from_bytes.Goals as goal

pub returns-in-Err-Invalid-clause-wrong : goal.returns-in-Err-Invalid-clause-wrong
returns-in-Err-Invalid-clause-wrong c = λ _.
    let invalid = c.in-Err-Invalid in
    record {
      fault = invalid.fault;
      is = invalid.ensures.fault invalid.fault (λ i. Err (invalid.field-0-is i));
      placed = ap (λ (fault : Fault). fault.place) invalid.fault-is;
      numbered = c.reason_number.ensures
          ∙ ap (λ (fault : Fault). number_of_reason fault.reason) invalid.fault-is;
    }
