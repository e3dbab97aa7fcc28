use Rattle.std.proofs.Common.{◌∙◌, refl, subst}
use Rattle.rsb_storage.proofs.lemmas.runs.Storage.{lt-fails}
use Rattle.range_map_blaze.specs.Storage.{NoneBelow}
use Rattle.range_map_blaze.proofs.lemmas.Shortened.{last-in_type, short-last, short-none, short-zero, shortened}
use Rattle.range_map_blaze.proofs.cut.shorten_before.Goals as goal

-- Nothing starts below the least key.
pub returns-in_default : goal.returns-in_default
returns-in_default g c = short-zero _ _ (c.in_default.ensures.none refl)

-- No piece starts below the key.
pub returns-in_default-up_to : goal.returns-in_default-up_to
returns-in_default-up_to g c =
    short-none _ _ _ c.up_to.ensures.ascending c.requires.canonical
    (subst (NoneBelow c.args.pieces.now) c.in-Some.ensures.some c.in_default-up_to.ensures.last)

pub ends_before-requires-clause-end : goal.ends_before-requires-clause-end
ends_before-requires-clause-end g c =
    last-in_type _ _ _ c.up_to.ensures.ascending c.requires.canonical _ c.in-Some.ensures.some _
    c.in-Some-up_to.ensures.last

-- The last of those that do ends below it.
pub returns-then-ends_before : goal.returns-then-ends_before
returns-then-ends_before g c =
    short-last _ _ _ c.up_to.ensures.ascending c.requires.canonical _ c.in-Some.ensures.some _
    c.in-Some-up_to.ensures.last (c.ends_before.ensures.0 c.if-ends_before.true)

-- It extends over the key.
pub returns : goal.returns
returns g c =
    c.set_end.ensures
    ∙ shortened _ _ _ c.up_to.ensures.ascending c.requires.canonical _ c.in-Some.ensures.some _
    c.in-Some-up_to.ensures.last
    (lt-fails c.ends_before.result _ _ c.ends_before.ensures c.if-ends_before.false)
