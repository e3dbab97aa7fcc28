use Rattle.std.proofs.Common.{◌||◌, refl}
use Rattle.rsb_streams.proofs.lemmas.calling.RunCounts.{run_count-of_one}
use Rattle.rsb_streams.proofs.sorted_disjoint.DrawDisjoint.union.Goals as goal

-- A rank that is in neither stream is not in the union.
pub returns : goal.returns
returns g c =
    let made = c.from.ensures c.requires.left c.requires.right in
    record {
      made = made.made;
      undrawn = made.undrawn;
      run_count = run_count-of_one g.T.Integer g.Self.Draw g.R.Draw _ c.args.self c.args.other _
          (λ left right. left || right) refl
          (g.met.Self.DrawDisjoint.canonical c.args.self c.requires.left)
          (g.met.R.DrawDisjoint.canonical c.args.other c.requires.right) made.made.gives;
    }
