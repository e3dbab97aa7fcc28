-- Written by tools/c/narrow from proofs/u64_sets/text/read/Answers.antt.
use Rattle.std.proofs.Common.{Err, ap, ◌∙◌, lit≤}
use Rattle.range_set_c.proofs.lemmas.SetText.{is-read, unread-bytes, unread-string}
use Rattle.range_set_c.proofs.u128_sets.text.read.Goals as goal

-- The bytes are no string.
pub returns-in-Err : goal.returns-in-Err
returns-in-Err c = unread-bytes 128 (lit≤ tt) c.args.text.now c.in-Err.ensures.cases.0

-- The string lists ranges.
pub returns-in-Ok-parse : goal.returns-in-Ok-parse
returns-in-Ok-parse c =
    is-read 128 c.in-Ok-parse.set c.in-Ok.string.now c.args.text.now c.in-Ok.ensures.cases.0
    c.in-Ok-parse.ensures.spelled c.in-Ok-parse.ensures.only c.in-Ok-parse.ensures.written

-- It does not list ranges.
pub returns-in-Err-Unexpected : goal.returns-in-Err-Unexpected
returns-in-Err-Unexpected c =
    unread-string 128 (lit≤ tt) c.args.text.now c.in-Ok.string.now c.in-Ok.ensures.cases.0
    (λ ranges listed. c.parse.ensures.refused ranges _ listed
    (c.in-Err-Unexpected.is ∙ ap Err c.in-Err-Unexpected.field-0-is))
