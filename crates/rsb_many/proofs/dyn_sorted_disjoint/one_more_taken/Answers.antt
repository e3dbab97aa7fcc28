use Rattle.std.proofs.Common.{List, [], ◌∷◌, All, subst, sym}
use Rattle.std.proofs.lemmas.List.Elements.{All-append, All-cons, All-nil}
use Rattle.std.specs.declared.ops.RangeInclusive.{RangeInclusive}
use Rattle.rsb_integer.specs.Rank.{intervals_of}
use Rattle.rsb_integer.specs.Runs.{IsCanonicalIn}
use Rattle.rsb_many.proofs.dyn_sorted_disjoint.one_more_taken.Goals as goal

-- All of the streams are ready.
pub returns-clause-ready : goal.returns-clause-ready
returns-clause-ready g c =
    let can : List (RangeInclusive g.row.T.Denot) → Type 0 = λ ranges. IsCanonicalIn g.T.Integer.value_count
    (intervals_of g.T.Integer.rank ranges) in
    subst (All can) (sym c.in_ok-push.ensures.items) (All-append can c.args.taken.items
    (c.in_ok-new.field-0 ∷ []) c.requires.taken
    (All-cons can c.in_ok-new.field-0 [] c.in_ok-new.ensures.ready (All-nil can)))
