use Rattle.rsb_streams.proofs.lemmas.calling.RunCounts.{run_count-intersection}
use Rattle.rsb_streams.proofs.sorted_disjoint.DrawDisjoint.intersection.Goals as goal

-- If both streams have runs, the intersection has fewer than both together.
pub returns : goal.returns
returns g c =
    let made = c.from.ensures c.requires.left c.requires.right in
    record {
      made = made;
      run_count = run_count-intersection g.T.Integer g.Self.Draw g.R.Draw _ c.args.self c.args.other _
          (g.met.Self.DrawDisjoint.canonical c.args.self c.requires.left)
          (g.met.R.DrawDisjoint.canonical c.args.other c.requires.right) made.gives;
    }
