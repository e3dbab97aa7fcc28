use Rattle.std.proofs.Common.{◌≡◌, false, refl, arith, rules}
use Rattle.std.proofs.lemmas.Bool.Decides.{nat_tests}
use Rattle.std.specs.Range.{range_inclusive_exhausted}
use Rattle.rsb_integer.specs.Rank.{interval_of}
use Rattle.rsb_integer.proofs.lemmas.Range.{interval_of-ends}
use Rattle.rsb_integer.proofs.integer.Integer.range_next.Goals as goal
use Rattle.rsb_integer.proofs.integer.Integer.range_next.Goals.{then-lt, else-lt}

-- The start lies below the end, so there is a value one rank higher.
pub add_one-requires : goal.add_one-requires
add_one-requires g c =
    let order = g.met.Self.Integer.in_order c.start.result.now c.end.result.now
    c.checked_add_one.ensures.value c.checked_add_one-2.ensures.value in
    let matches = g.met.Self.Ord.matches_partial_cmp c.start.result.now c.end.result.now in
    let valued = c.checked_add_one-2.ensures.value in
    grind (arith, nat_tests, order, matches, valued, c.lt.ensures, c.if-lt.true)

-- The rest is the range without its first rank, or is empty if there was only one.
pub returns-clause-rest : goal.returns-clause-rest
returns-clause-rest g c =
    let rank = g.Self.Integer.rank in
    let some : range_inclusive_exhausted c.args.range.now ≡ false = search (rules) in
    let run : interval_of rank c.args.range.now
    ≡ record { first = rank c.start.result.now; last = rank c.end.result.now } =
    interval_of-ends rank c.args.range.now c.start.result.now c.end.result.now
    (search (rules)) (search (rules)) some in
    let order = g.met.Self.Integer.in_order c.start.result.now c.end.result.now
    c.checked_add_one.ensures.value c.checked_add_one-2.ensures.value in
    let matches = g.met.Self.Ord.matches_partial_cmp c.start.result.now c.end.result.now in
    rw run (elim c.if-lt.branch [
      | then-lt w ↦
          let rest : interval_of rank c.if-lt.range
          ≡ record { first = rank w.add_one.result; last = rank c.end.result.now } =
          rw w.range-is (interval_of-ends rank w.new.result w.add_one.result c.end.result.now
          w.new.ensures.start w.new.ensures.end w.new.ensures.exhausted) in
          rw rest (record {
            more = λ fewer. (w.add_one.ensures, refl);
            none = λ all. omega (arith, all, w.add_one.ensures);
          })
      | else-lt w ↦ record {
        more = λ fewer. grind (arith, nat_tests, fewer, order, matches, c.lt.ensures, w.if-lt.false);
        none = λ all. rw w.range-is w.exhausted_range.ensures.empty;
      }
    ])
