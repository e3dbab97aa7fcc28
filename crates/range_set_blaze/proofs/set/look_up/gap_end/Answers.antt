use Rattle.std.proofs.Common.{arith}
use Rattle.rsb_storage.proofs.lemmas.look_up.Gaps.{gap-last, gap-next, past-first}
use Rattle.range_set_blaze.proofs.set.look_up.gap_end.Goals as goal

-- The next run starts past the value.
pub sub_one-requires : goal.sub_one-requires
sub_one-requires g c =
    let later = (past-first _ _ c.requires.canonical _ _ c.in-Some.ensures).1 in
    omega (arith, later)

-- The gap ends right before that run.
pub returns-in-Some : goal.returns-in-Some
returns-in-Some g c =
    gap-next _ _ c.requires.canonical _ c.requires.gap _ _ c.in-Some.ensures c.sub_one.ensures

-- If there is no next run, the gap ends with the type.
pub returns-in-None : goal.returns-in-None
returns-in-None g c =
    gap-last _ _ c.requires.canonical _ c.requires.gap _ c.requires.value c.in-None.ensures
    c.max_value.ensures
