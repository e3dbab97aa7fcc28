use Rattle.rsb_streams.proofs.lemmas.unsorted.Drained.{gives-spans}
use Rattle.rsb_streams.proofs.unsorted_disjoint.UnsortedDisjoint.new.Goals as goal

pub returns-clause-gives : goal.returns-clause-gives
returns-clause-gives g c =
    gives-spans g.T.Integer.rank g.T.Integer.value_count g.I.Iterator.next_gives c.fuse.result
    c.args.iter c.fuse.ensures.source c.fuse.ensures.done
