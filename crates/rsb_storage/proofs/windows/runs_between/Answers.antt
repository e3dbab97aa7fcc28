use Rattle.rsb_storage.proofs.lemmas.windows.Kept.{held-canonical, held-members}
use Rattle.rsb_storage.proofs.windows.runs_between.Goals as goal

-- The part that reaches in and the runs that start in the window have the members of the window.
pub returns : goal.returns
returns g c =
    let rank = g.T.Integer.rank in
    let n = g.T.Integer.value_count in
    let runs = c.args.runs.now in
    let held = c.reaching_in.result in
    let entries = c.starting_in.result in
    record {
      canonical = held-canonical rank n runs c.requires.canonical c.args.window c.requires.order held
          entries c.reaching_in.ensures c.starting_in.ensures;
      members = held-members rank n runs c.requires.canonical c.args.window c.requires.order held
          entries c.reaching_in.ensures c.starting_in.ensures;
    }
