use Rattle.std.proofs.Common.{◌≡◌, ◌↔◌, ℕ, ◌≤◌, Bool, true, false, not, List, Option, Some, None, IsTrue, MatchOption, refl}
use Rattle.std.specs.Option.{is_some}
use Rattle.std.proofs.lemmas.Bool.{false≢true, true≢false}
use Rattle.rsb_integer.specs.Runs.{Interval, covers, members, IsCanonicalIn}
use Rattle.rsb_integer.specs.Selection.{intersection, IsEmpty}
use Rattle.rsb_storage.specs.Storage.{run_of}
use Rattle.range_set_blaze.specs.RemoveRanges.{IsLastMeeting}
use Rattle.rsb_storage.specs.declared.run.Run.{Run}
use Rattle.range_set_blaze.proofs.lemmas.removal.Meeting.{meeting-some, some-common}
use Rattle.range_set_blaze.proofs.set.windows.lacks_run.Goals as goal

-- A test that is true if no run meets the range is true exactly if none of its ranks is a member.
none-told : {T : Type 0} (rank : T → ℕ) (n : ℕ) (runs : List Interval) → IsCanonicalIn n runs
    → (range : Interval) → range.first ≤ range.last → (found : Option (Run T)) (result : Bool)
    → is_some found ≡ not result
    → MatchOption found (IsEmpty (intersection (members runs) (covers range)))
    (λ run. IsLastMeeting runs range (run_of rank run))
    → IsTrue result ↔ IsEmpty (intersection (members runs) (covers range))
none-told rank n runs canonical range order None true is none = (λ told. none, λ empty. refl)
none-told rank n runs canonical range order None false is none = absurd (false≢true is)
none-told rank n runs canonical range order (Some run) true is meets = absurd (true≢false is)
none-told rank n runs canonical range order (Some run) false is meets = (
  λ told. absurd (false≢true told),
  λ empty. absurd (some-common runs range empty
      (meeting-some n runs canonical range (run_of rank run) order meets)),
)

pub returns : goal.returns
returns g c =
    none-told g.T.Integer.rank _ _ c.requires.canonical (run_of g.T.Integer.rank c.args.window)
    c.requires.order c.last_meeting.result c.is_none.result c.is_none.ensures
    c.last_meeting.ensures
