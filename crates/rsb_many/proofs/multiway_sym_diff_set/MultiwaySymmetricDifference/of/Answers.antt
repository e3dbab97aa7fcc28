use Rattle.rsb_many.proofs.multiway_sym_diff_set.MultiwaySymmetricDifference.of.Goals as goal

-- The joined pieces are what lies in an odd number of the streams.
pub returns-clause-begun : goal.returns-clause-begun
returns-clause-begun g c streams over =
    let begun = c.joined.ensures.begun streams over in
    record {
      made = record { ready = begun.ready; gives = begun.gives };
      begun = begun.begun;
    }
