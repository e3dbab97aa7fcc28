use Rattle.rsb_storage.specs.Storage.{run_of}
use Rattle.range_set_blaze.proofs.lemmas.removal.Meeting.{has-told, none-has}
use Rattle.range_set_blaze.proofs.set.windows.has_run.Goals as goal

-- The set has all of the range exactly if the last run that starts at or before its start does.
pub returns-in-Some : goal.returns-in-Some
returns-in-Some g c =
    has-told _ _ c.requires.canonical (run_of g.T.Integer.rank c.args.window) c.requires.order _
    c.in-Some.ensures c.ends_before.result c.ends_before.ensures

-- If there is no such run, the start of the range is not a member.
pub returns-in-None : goal.returns-in-None
returns-in-None g c = (
  λ is. absurd (cc),
  λ has. absurd (none-has _ _ c.requires.canonical (run_of g.T.Integer.rank c.args.window)
      c.requires.order c.in-None.ensures has),
)
