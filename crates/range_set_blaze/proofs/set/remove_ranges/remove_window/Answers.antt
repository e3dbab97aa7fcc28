use Rattle.std.proofs.Common.{refl, sym}
use Rattle.std.proofs.lemmas.Bool.{true≢false}
use Rattle.rsb_storage.specs.Storage.{run_of}
use Rattle.range_set_blaze.proofs.lemmas.removal.Meeting.{meeting-some, meeting-within, outside-removes, outside-then, some-common}
use Rattle.range_set_blaze.proofs.set.remove_ranges.remove_window.Goals as goal

-- An allocation can fail only if some run meets the window.
pub returns-in_err-remove_common-clause-nothing : goal.returns-in_err-remove_common-clause-nothing
returns-in_err-remove_common-clause-nothing g c nothing =
    absurd (some-common _ (run_of g.T.Integer.rank c.args.window) nothing
    (meeting-some _ _ c.requires.kept.canonical _ _ c.requires.order c.in-Some.ensures))

pub returns-in_err-remove_common-clause-succeeds : goal.returns-in_err-remove_common-clause-succeeds
returns-in_err-remove_common-clause-succeeds g c lacks =
    let fails = c.in_err-remove_common.ensures.succeeds
    (meeting-within _ _ c.requires.kept.canonical _ _ c.requires.order c.in-Some.ensures lacks) in
    absurd (cc)

-- The last run has a value of the window, and all values of the window are removed.
pub returns-clause-found : goal.returns-clause-found
returns-clause-found g c =
    let window = run_of g.T.Integer.rank c.args.window in
    record {
      none = λ is. absurd (true≢false is);
      unchanged = λ is. absurd (true≢false is);
      some = λ is.
          meeting-some _ _ c.requires.kept.canonical _ _ c.requires.order c.in-Some.ensures;
      removed = λ is. outside-removes window _ _
          (outside-then window _ _ _ c.in_ok-remove_common.ensures.narrowed.outside
          c.remove_others.ensures.outside) c.remove_others.ensures.none;
      kept = c.remove_others.ensures.kept;
    }

-- If no run meets the window, the runs are unchanged.
pub returns-in_default-clause-found : goal.returns-in_default-clause-found
returns-in_default-clause-found g c = record {
  none = λ is. c.in_default.ensures;
  unchanged = λ is. refl;
  some = λ is. absurd (true≢false (sym is));
  removed = λ is. absurd (true≢false (sym is));
  kept = tt;
}

pub remove_common-requires-clause-meets : goal.remove_common-requires-clause-meets
remove_common-requires-clause-meets g c = c.in-Some.ensures

pub remove_others-requires-clause-kept : goal.remove_others-requires-clause-kept
remove_others-requires-clause-kept g c = c.in_ok-remove_common.ensures.narrowed.kept

pub remove_others-requires-clause-ends : goal.remove_others-requires-clause-ends
remove_others-requires-clause-ends g c = c.in_ok-remove_common.ensures.narrowed.ends
