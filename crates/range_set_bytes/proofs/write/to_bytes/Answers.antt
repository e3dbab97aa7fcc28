use Rattle.std.proofs.Common.{◌≡◌, ℕ, ◌+◌, ◌-◌, ◌++◌, ap, sym, subst, ◌∙◌, arith}
use Rattle.rsb_integer.specs.Rank.{interval_of, intervals_of}
use Rattle.rsb_integer.specs.Runs.{Interval, from_to, IsCanonicalFrom, IsCanonicalIn}
use Rattle.rsb_integer.proofs.lemmas.Canonical.{canonical-tail}
use Rattle.rsb_integer.proofs.lemmas.Range.{interval_of-some}
use Rattle.range_set_bytes.specs.Format.{bytes_of}
use Rattle.range_set_bytes.specs.Leb128.{leb128}
use Rattle.range_set_bytes.specs.Reading.{from_of, least_gap}
use Rattle.range_set_bytes.proofs.lemmas.Writing.{write-begun, write-run}
use Rattle.range_set_bytes.proofs.write.to_bytes.Goals as goal

pub loop-range-init : goal.loop-range-init
loop-range-init g c = record {
  ready = c.ranges-ranges.ensures.ready;
  finite = tt;
  after = c.ranges-ranges.ensures.ready.apart;
  written = write-begun g.T.Integer.value_count c.args.set.now
      (intervals_of g.T.Integer.rank c.ranges-ranges.result) c.new-bytes.result.items c.header_of.result
      c.extend_from_slice.new.self.items c.push_number.new.bytes.items c.ranges_len.result
      c.new-bytes.ensures.items c.header_of.ensures c.in_ok-extend_from_slice.ensures.items
      c.in_ok-push_number.ensures.ok c.ranges_len.ensures.length c.ranges-ranges.ensures.ranges;
}

pub loop-range-preserved : goal.loop-range-preserved
loop-range-preserved g c =
    let n = g.T.Integer.value_count in
    let rank = g.T.Integer.rank in
    let first = c.to_rank-first.result in
    let last = c.to_rank-last.result in
    let run = interval_of rank c.in-Some.range in
    let rest = intervals_of rank c.next.new.self in
    let previous = c.loop-range.previous in
    let split = ap (intervals_of rank) c.in-Some.ensures.steps in
    let ready = subst (IsCanonicalIn n) split c.loop-range.invariant.ready in
    let after = subst (IsCanonicalFrom (from_of previous + least_gap previous)) split c.loop-range.invariant.after in
    let starts = c.to_rank-first.ensures.rank ∙ ap rank c.start.ensures in
    let ends = c.to_rank-last.ensures.rank ∙ ap rank c.end.ensures in
    let run_is : run ≡ from_to first last = interval_of-some rank c.in-Some.range after.in_order
    ∙ (λ i. from_to (sym starts i) (sym ends i)) in
    let past = subst (λ (r : Interval). IsCanonicalFrom (r.last + 2) rest) run_is after.rest in
    record {
      ready = canonical-tail n run rest ready;
      finite = tt;
      after = subst (λ (k : ℕ). IsCanonicalFrom k rest) (omega arith) past;
      written = write-run (from_of previous) first last (intervals_of rank c.loop-range.ranges) rest run
          c.loop-range.bytes.items c.push_number-in-Some.new.bytes.items c.push_number-in-Some-2.new.bytes.items
          (bytes_of n c.args.set.now) split run_is
          (subst (λ (k : ℕ). c.push_number-in-Some.new.bytes.items ≡ c.loop-range.bytes.items ++ leb128 (first - k))
          c.rank_after.ensures c.in_ok-push_number-2.ensures.ok)
          c.in_ok-push_number-3.ensures.ok c.loop-range.invariant.written;
    }
