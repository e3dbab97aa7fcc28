-- Written by tools/c/narrow from proofs/u64_sets/text/unexpected/Answers.antt.
use Rattle.range_set_c.proofs.u32_sets.text.unexpected.Goals as goal

-- No ranges were read from text that lists none.
pub unreachable-requires : goal.unreachable-requires
unreachable-requires c = c.requires.no_list _ c.in-Ok.ensures.spelled
