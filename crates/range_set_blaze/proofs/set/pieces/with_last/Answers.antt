use Rattle.std.proofs.Common.{append-nil, subst, sym}
use Rattle.rsb_integer.specs.Runs.{IsCanonicalIn}
use Rattle.rsb_storage.specs.Storage.{run_of, runs_of}
use Rattle.range_set_blaze.proofs.lemmas.gathering.Pieces.{gathered-order, kept-all, more-counted, more-fits, runs_of-more}
use Rattle.range_set_blaze.proofs.set.pieces.with_last.Goals as goal

-- If no run is held, the entries are all.
pub returns-in_default : goal.returns-in_default
returns-in_default g c =
    let n = g.T.Integer.value_count in
    let runs = runs_of g.T.Integer.rank c.args.entries.items in
    let kept = rw c.in_default.is at c.requires in
    record {
      runs = rw c.in_default.is (sym (append-nil runs));
      kept = kept-all n runs _ (subst (IsCanonicalIn n) (append-nil runs) kept.canonical)
          kept.counted;
    }

-- Otherwise the run that is held becomes the last of them.
pub add_length-requires-clause-some : goal.add_length-requires-clause-some
add_length-requires-clause-some g c =
    let rank = g.T.Integer.rank in
    let kept = rw c.in-Some.is at c.requires in
    gathered-order g.T.Integer.value_count (runs_of rank c.args.entries.items)
    (run_of rank c.in-Some.run') kept.canonical

pub add_length-requires-clause-fits : goal.add_length-requires-clause-fits
add_length-requires-clause-fits g c =
    let rank = g.T.Integer.rank in
    let kept = rw c.in-Some.is at c.requires in
    more-fits g.T.Integer.value_count (runs_of rank c.args.entries.items)
    (run_of rank c.in-Some.run') _ kept.canonical kept.counted

pub returns : goal.returns
returns g c =
    let rank = g.T.Integer.rank in
    let runs = runs_of rank c.args.entries.items in
    let kept = rw c.in-Some.is at c.requires in
    let more = runs_of-more rank c.args.entries.items c.push.new.self.items c.in-Some.run'.start
    c.in-Some.run'.end c.in_ok-push.ensures.items in
    record {
      runs = rw c.in-Some.is more;
      kept = kept-all g.T.Integer.value_count (runs_of rank c.push.new.self.items) _
          (rw more kept.canonical)
          (rw more (more-counted runs (run_of rank c.in-Some.run') _ _ kept.counted
          c.add_length.ensures));
    }
