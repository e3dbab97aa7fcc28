use Rattle.std.proofs.Common.{arith}
use Rattle.rsb_streams.proofs.lemmas.checking.Comparisons.{IsRanked, less-rank, not_less-rank}
use Rattle.rsb_streams.proofs.lemmas.odd.States.{left-first, left-other, past-first, past-neither, past-other}
use Rattle.rsb_streams.proofs.odd_pieces.pass_lesser.Given.{Over}
use Rattle.rsb_streams.proofs.odd_pieces.pass_lesser.Goals as goal

ranked : (g : Over) → IsRanked g.T.Integer.rank g.T.Integer.value_count g.T.PartialOrd.partial_cmp
    g.T.Ord.cmp
ranked g = record { matches = g.met.T.Ord.matches_partial_cmp; in_order = g.met.T.Integer.in_order }

-- The first end is the lesser.
pub add_one-requires : goal.add_one-requires
add_one-requires g c =
    let less = less-rank (ranked g) c.args.end c.args.next_end c.requires.end c.requires.next_end
    c.if-lt.ensures in
    omega arith

pub returns-then-lt-clause-passed : goal.returns-then-lt-clause-passed
returns-then-lt-clause-passed g c =
    let less = less-rank (ranked g) c.args.end c.args.next_end c.requires.end c.requires.next_end
    c.if-lt.ensures in
    let left = left-other c.args.ends.now.items c.remove.new.self.items c.args.end c.args.next_end
    c.requires.both c.remove.ensures.items in
    past-first g.T.Integer.rank c.args.end c.args.next_end c.add_one.result c.remove.new.self.items
    less left c.add_one.ensures

-- The second end is the lesser.
pub add_one-requires-then-lt-2 : goal.add_one-requires-then-lt-2
add_one-requires-then-lt-2 g c =
    let less = less-rank (ranked g) c.args.next_end c.args.end c.requires.next_end c.requires.end
    c.if-lt-2.ensures in
    omega arith

pub returns-then-lt-2-clause-passed : goal.returns-then-lt-2-clause-passed
returns-then-lt-2-clause-passed g c =
    let less = less-rank (ranked g) c.args.next_end c.args.end c.requires.next_end c.requires.end
    c.if-lt-2.ensures in
    let left = left-first c.args.ends.now.items c.pop.new.self.items c.args.end c.args.next_end
    c.requires.both c.pop.ensures.rest in
    past-other g.T.Integer.rank c.args.end c.args.next_end c.add_one-then-lt-2.result
    c.pop.new.self.items less left c.add_one-then-lt-2.ensures

-- Both ends have one rank.
pub returns-else-lt-2-clause-passed : goal.returns-else-lt-2-clause-passed
returns-else-lt-2-clause-passed g c =
    let most = not_less-rank (ranked g) c.args.end c.args.next_end c.requires.end c.requires.next_end
    c.if-lt.ensures in
    let least = not_less-rank (ranked g) c.args.next_end c.args.end c.requires.next_end c.requires.end
    c.if-lt-2.ensures in
    past-neither g.T.Integer.rank c.args.end c.args.next_end c.args.start.now
    c.clear.new.self.items most least c.clear.ensures
