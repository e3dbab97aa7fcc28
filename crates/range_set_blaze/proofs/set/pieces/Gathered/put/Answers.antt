use Rattle.std.proofs.Common.{◌+◌, ◌++◌, ◌∷◌, [], sym, subst, arith}
use Rattle.rsb_integer.specs.Runs.{IsCanonicalIn}
use Rattle.rsb_storage.specs.Storage.{run_of, runs_of}
use Rattle.rsb_storage.proofs.lemmas.runs.Storage.{le-fails}
use Rattle.range_set_blaze.proofs.lemmas.gathering.Pieces.{gathered-longer, gathered-more, gathered-order, longer-members, more-counted, more-fits, more-members, runs_of-more}
use Rattle.range_set_blaze.proofs.set.pieces.Gathered.put.Goals as goal

-- The run that is held becomes longer.
pub returns-then-reaches-clause-kept : goal.returns-then-reaches-clause-kept
returns-then-reaches-clause-kept g c =
    let rank = g.T.Integer.rank in
    let kept = rw c.in-Some.is at c.requires.kept in
    let later = rw c.in-Some.is at c.requires.later in
    record {
      canonical = gathered-longer g.T.Integer.value_count
          (runs_of rank c.args.self.now.entries.items) (run_of rank c.in-Some.held) kept.canonical
          (rank c.args.run.end) (omega (arith, later, c.requires.order)) c.requires.value;
      counted = kept.counted;
      first = λ none. absurd (cc);
    }

pub returns-then-reaches-clause-added : goal.returns-then-reaches-clause-added
returns-then-reaches-clause-added g c =
    let rank = g.T.Integer.rank in
    let kept = rw c.in-Some.is at c.requires.kept in
    let later = rw c.in-Some.is at c.requires.later in
    let touches = c.reaches.ensures.0 c.if-reaches.true in
    rw c.in-Some.is
    (longer-members g.T.Integer.value_count (runs_of rank c.args.self.now.entries.items)
    (run_of rank c.in-Some.held) kept.canonical (run_of rank c.args.run)
    (omega (arith, later, touches)) c.requires.order)

-- Otherwise it becomes an entry.
pub push-requires-clause-some : goal.push-requires-clause-some
push-requires-clause-some g c =
    let rank = g.T.Integer.rank in
    let kept = rw c.in-Some.is at c.requires.kept in
    gathered-order g.T.Integer.value_count (runs_of rank c.args.self.now.entries.items)
    (run_of rank c.in-Some.held) kept.canonical

pub push-requires-clause-fits : goal.push-requires-clause-fits
push-requires-clause-fits g c =
    let rank = g.T.Integer.rank in
    let kept = rw c.in-Some.is at c.requires.kept in
    more-fits g.T.Integer.value_count (runs_of rank c.args.self.now.entries.items)
    (run_of rank c.in-Some.held) _ kept.canonical kept.counted

pub returns-clause-kept : goal.returns-clause-kept
returns-clause-kept g c =
    let rank = g.T.Integer.rank in
    let n = g.T.Integer.value_count in
    let kept = rw c.in-Some.is at c.requires.kept in
    let runs = runs_of rank c.args.self.now.entries.items in
    let held = run_of rank c.in-Some.held in
    let past = le-fails c.reaches.result (rank c.args.run.start) (rank c.in-Some.held.end + 1)
    c.reaches.ensures c.if-reaches.false in
    let more = runs_of-more rank c.args.self.now.entries.items c.push.new.self.entries.items
    c.in-Some.held.start c.in-Some.held.end c.in_ok-push.ensures.entries in
    record {
      canonical = subst (λ entries. IsCanonicalIn n (entries ++ run_of rank c.args.run ∷ []))
          (sym more)
          (gathered-more n runs held kept.canonical (run_of rank c.args.run) (omega (arith, past))
          c.requires.order c.requires.value);
      counted = rw more (more-counted runs held _ _ kept.counted c.in_ok-push.ensures.length);
      first = λ none. absurd (cc);
    }

pub returns-clause-added : goal.returns-clause-added
returns-clause-added g c = λ point.
    let rank = g.T.Integer.rank in
    let runs = runs_of rank c.args.self.now.entries.items in
    let more = runs_of-more rank c.args.self.now.entries.items c.push.new.self.entries.items
    c.in-Some.held.start c.in-Some.held.end c.in_ok-push.ensures.entries in
    rw (more, c.in-Some.is)
    (more-members (runs ++ run_of rank c.in-Some.held ∷ []) (run_of rank c.args.run) point)
