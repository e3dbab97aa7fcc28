use Rattle.std.proofs.Common.{refl}
use Rattle.rsb_integer.specs.Selection.{exclusive_or}
use Rattle.rsb_streams.proofs.lemmas.calling.RunCounts.{run_count-of_one}
use Rattle.rsb_streams.proofs.sorted_disjoint.DrawDisjoint.symmetric_difference.Goals as goal

-- A rank that is in neither stream is not in the symmetric difference.
pub returns : goal.returns
returns g c =
    let made = c.from.ensures c.requires.left c.requires.right in
    record {
      made = made;
      run_count = run_count-of_one g.T.Integer g.Self.Draw g.R.Draw _ c.args.self c.args.other _
          exclusive_or refl
          (g.met.Self.DrawDisjoint.canonical c.args.self c.requires.left)
          (g.met.R.DrawDisjoint.canonical c.args.other c.requires.right) made.gives;
    }
