use Rattle.std.proofs.Common.{◌∙◌, List, ap, sym, arith, subst}
use Rattle.rsb_integer.specs.Runs.{Interval, members}
use Rattle.rsb_integer.proofs.lemmas.Count.{count-within}
use Rattle.range_set_blaze.specs.Joining.{IsOver, KnowsInside}
use Rattle.rsb_storage.specs.Storage.{run_of}
use Rattle.range_set_blaze.proofs.lemmas.insertion.Placing.{first-counted, first-some, first-there, first-within, joining-inside, joining-members, joining-over}
use Rattle.range_set_blaze.proofs.set.insert.put.Goals as goal

-- The first run that is replaced is non-empty, and its members are counted.
pub without-others-requires-clause-some : goal.without-others-requires-clause-some
without-others-requires-clause-some g c =
    first-some _ _ _ c.requires.kept.canonical c.args.joining c.requires.joining

pub without-others-requires-clause-fits : goal.without-others-requires-clause-fits
without-others-requires-clause-fits g c =
    let within = count-within g.T.Integer.value_count
    (members c.args.runs.now) in
    omega (arith, within, c.requires.kept.length)

pub without-others-requires-clause-counted : goal.without-others-requires-clause-counted
without-others-requires-clause-counted g c =
    first-within _ _ _ c.requires.kept.canonical c.args.joining c.requires.joining _
    c.requires.kept.length

-- If there is such a run, an entry has the start already, so the insertion does not fail.
pub returns-in_err-put-clause-succeeds : goal.returns-in_err-put-clause-succeeds
returns-in_err-put-clause-succeeds g c some =
    let there = first-there _ _ _ c.requires.kept.canonical c.args.joining c.requires.joining some in
    let fails = c.in_err-put.ensures.succeeds there.0 there.1 there.2 in absurd (cc)

-- After the insertion, the joined run is over the others, as `IsOver` states.
pub remove_swallowed-length-requires-clause-over : goal.remove_swallowed-length-requires-clause-over
remove_swallowed-length-requires-clause-over g c =
    subst (λ (runs : List Interval). IsOver g.T.Integer.value_count runs
    (run_of g.T.Integer.rank c.args.joining.joined)
    (g.T.SafeLen.SafeLength.number c.without-others.result)) (sym c.in_ok-put.ensures.runs)
    (joining-over _ _ _ c.requires.kept.canonical c.args.joining c.requires.joining _
    (first-counted _ _ _ c.requires.kept.canonical c.args.joining c.requires.joining _ _
    c.requires.kept.length c.without-others.ensures))

pub remove_swallowed-length-requires-clause-inside : goal.remove_swallowed-length-requires-clause-inside
remove_swallowed-length-requires-clause-inside g c =
    subst (λ (runs : List Interval). KnowsInside g.T.Integer.rank runs
    (run_of g.T.Integer.rank c.args.joining.joined) c.args.joining.last c.args.joining.before)
    (sym c.in_ok-put.ensures.runs)
    (joining-inside _ _ _ c.requires.kept.canonical c.args.joining c.requires.joining)

-- The runs that are left form the set together with the joined run.
pub add_length-requires-clause-fits : goal.add_length-requires-clause-fits
add_length-requires-clause-fits g c =
    let within = count-within g.T.Integer.value_count
    (members c.remove_swallowed-length.new.runs) in
    omega (arith, within, c.remove_swallowed-length.ensures.counted)

pub returns-clause-kept : goal.returns-clause-kept
returns-clause-kept g c = record {
  canonical = c.remove_swallowed-length.ensures.canonical;
  length = c.add_length.ensures ∙ sym c.remove_swallowed-length.ensures.counted;
}

pub returns-clause-adds : goal.returns-clause-adds
returns-clause-adds g c rank =
    c.remove_swallowed-length.ensures.members rank
    ∙ ap (λ (runs : List Interval). members runs rank) c.in_ok-put.ensures.runs
    ∙ joining-members _ _ _ c.requires.kept.canonical c.args.joining c.requires.joining rank
