use Rattle.std.proofs.Common.{refl}
use Rattle.rsb_storage.specs.Storage.{run_of}
use Rattle.rsb_storage.proofs.windows.reaching_in.Goals as goal

-- A run that starts before the value and contains it reaches into the window.
pub returns : goal.returns
returns g c =
    let over = c.in_ok-run.ensures in
    record {
      run = run_of g.T.Integer.rank c.in_ok-run.run';
      among = over.0;
      before = over.1;
      reaches = over.2;
      starts = refl;
      ends = refl;
    }
