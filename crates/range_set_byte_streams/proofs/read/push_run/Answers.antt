use Rattle.range_set_byte_streams.proofs.lemmas.Runs.{pushed-run}
use Rattle.range_set_byte_streams.proofs.read.push_run.Goals as goal

-- Members are added, and no other set has the new ones.
pub returns : goal.returns
returns g c = record {
  pushed = λ canonical.
      let added = rw (c.new.ensures.start, c.new.ensures.end)
      at (c.in_ok-ranges_insert.ensures.members c.new.ensures.exhausted) in
      pushed-run g.T.Integer.value_count c.args.first c.args.last c.args.set.now c.ranges_insert.new.self
      canonical c.ranges_len.ensures.runs (rw (c.from_rank.ensures, c.from_rank-2.ensures) at added);
}
