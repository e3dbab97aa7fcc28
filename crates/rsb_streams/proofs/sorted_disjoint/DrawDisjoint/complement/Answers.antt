use Rattle.rsb_streams.proofs.lemmas.calling.RunCounts.{run_count-complement}
use Rattle.rsb_streams.proofs.sorted_disjoint.DrawDisjoint.complement.Goals as goal

-- Each gap ends before a run or after the last one, so there is at most one gap more.
pub returns : goal.returns
returns g c =
    let made = c.new.ensures.made in
    record {
      made = made;
      undrawn = c.new.ensures.undrawn;
      run_count = run_count-complement g.T.Integer g.Self.Draw _ c.args.self _
          (g.met.Self.DrawDisjoint.canonical c.args.self c.requires) made.gives;
    }
