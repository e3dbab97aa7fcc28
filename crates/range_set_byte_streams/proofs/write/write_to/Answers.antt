use Rattle.std.proofs.Common.{◌≡◌, ℕ, ◌+◌, ◌-◌, ◌++◌, ap, refl, sym, subst, ◌∙◌, arith, []}
use Rattle.std.proofs.lemmas.List.{append-nil}
use Rattle.std.proofs.lemmas.Result.{err_from_is_err_and}
use Rattle.rsb_integer.specs.Rank.{interval_of, intervals_of}
use Rattle.rsb_integer.specs.Runs.{Interval, from_to, IsCanonicalFrom, IsCanonicalIn}
use Rattle.rsb_integer.proofs.lemmas.Canonical.{canonical-tail}
use Rattle.rsb_integer.proofs.lemmas.Range.{interval_of-some}
use Rattle.range_set_bytes.specs.Format.{bytes_of, bytes_of_runs}
use Rattle.range_set_bytes.specs.Leb128.{leb128}
use Rattle.range_set_bytes.specs.Reading.{from_of, least_gap}
use Rattle.range_set_bytes.proofs.lemmas.Writing.{write-begun}
use Rattle.range_set_byte_streams.specs.Transfer.{HasWritten, WritesPart}
use Rattle.range_set_byte_streams.proofs.lemmas.Written.{count-left, part-before, part-then, run-left, run-part, written-then, wrote-last}
use Rattle.range_set_byte_streams.proofs.write.write_to.Goals as goal

pub returns-in_err-lay_number : goal.returns-in_err-lay_number
returns-in_err-lay_number g c =
    let n = g.T.Integer.value_count in
    let set = c.args.set.now in
    let passed = err_from_is_err_and c.from_residual.result c.from_residual.ensures.1 in
    let whole = write-begun n set set [] c.begun-page.result.items c.begun-page.result.items
    (c.begun-page.result.items ++ leb128 c.ranges_len.result) c.ranges_len.result refl c.begun-page.ensures
    refl refl c.ranges_len.ensures.length refl in
    rw passed.1 (subst (WritesPart _ _) whole (part-before _ _ _ (bytes_of_runs 0 set) c.in_err-lay_number.ensures))

pub loop-range-init : goal.loop-range-init
loop-range-init g c =
    let n = g.T.Integer.value_count in
    let set = c.args.set.now in
    let runs = intervals_of g.T.Integer.rank c.ranges-ranges.result in
    let whole = write-begun n set runs [] c.begun-page.result.items c.begun-page.result.items
    (c.begun-page.result.items ++ leb128 c.ranges_len.result) c.ranges_len.result refl c.begun-page.ensures
    refl refl c.ranges_len.ensures.length c.ranges-ranges.ensures.ranges in
    record {
      ready = c.ranges-ranges.ensures.ready;
      finite = tt;
      after = c.ranges-ranges.ensures.ready.apart;
      written = count-left _ _ (bytes_of n set) (c.begun-page.result.items ++ leb128 c.ranges_len.result)
          c.lay_number.new.page.items (bytes_of_runs 0 runs) whole c.in_ok-lay_number.ensures;
    }

pub returns-in_err-lay_number-2 : goal.returns-in_err-lay_number-2
returns-in_err-lay_number-2 g c =
    let n = g.T.Integer.value_count in
    let rank = g.T.Integer.rank in
    let first = c.to_rank-first.result in
    let last = c.to_rank-last.result in
    let run = interval_of rank c.in-Some.range in
    let rest = intervals_of rank c.next.new.self in
    let previous = c.loop-range.previous in
    let page = c.loop-range.page.items in
    let split = ap (intervals_of rank) c.in-Some.ensures.steps in
    let after = subst (IsCanonicalFrom (from_of previous + least_gap previous)) split c.loop-range.invariant.after in
    let starts = c.to_rank-first.ensures.rank ∙ ap rank c.start.ensures in
    let ends = c.to_rank-last.ensures.rank ∙ ap rank c.end.ensures in
    let run_is : run ≡ from_to first last = interval_of-some rank c.in-Some.range after.in_order
    ∙ (λ i. from_to (sym starts i) (sym ends i)) in
    let whole = bytes_of n c.args.set.now in
    let passed = err_from_is_err_and c.from_residual-in_err-lay_number-2.result c.from_residual-in_err-lay_number-2.ensures.1 in
    rw passed.1 (run-part _ _ _ whole page (intervals_of rank c.loop-range.ranges) rest run (from_of previous)
    c.rank_after.result first last split run_is c.rank_after.ensures c.loop-range.invariant.written
    c.in_err-lay_number-2.ensures)

pub returns-in_err-lay_number-3 : goal.returns-in_err-lay_number-3
returns-in_err-lay_number-3 g c =
    let n = g.T.Integer.value_count in
    let rank = g.T.Integer.rank in
    let first = c.to_rank-first.result in
    let last = c.to_rank-last.result in
    let run = interval_of rank c.in-Some.range in
    let rest = intervals_of rank c.next.new.self in
    let previous = c.loop-range.previous in
    let page = c.loop-range.page.items in
    let split = ap (intervals_of rank) c.in-Some.ensures.steps in
    let after = subst (IsCanonicalFrom (from_of previous + least_gap previous)) split c.loop-range.invariant.after in
    let starts = c.to_rank-first.ensures.rank ∙ ap rank c.start.ensures in
    let ends = c.to_rank-last.ensures.rank ∙ ap rank c.end.ensures in
    let run_is : run ≡ from_to first last = interval_of-some rank c.in-Some.range after.in_order
    ∙ (λ i. from_to (sym starts i) (sym ends i)) in
    let whole = bytes_of n c.args.set.now in
    let tail = bytes_of_runs (last + 1) rest in
    let passed = err_from_is_err_and c.from_residual-in_err-lay_number-3.result c.from_residual-in_err-lay_number-3.ensures.1 in
    let left = run-left _ _ _ whole page (intervals_of rank c.loop-range.ranges) rest run (from_of previous)
    c.rank_after.result first last split run_is c.rank_after.ensures c.loop-range.invariant.written
    c.lay_number-in-Some.new.page.items c.in_ok-lay_number-2.ensures in
    rw passed.1 (part-then _ _ _ whole (c.lay_number-in-Some.new.page.items ++ leb128 (last - first)) tail left
    c.in_err-lay_number-3.ensures)

pub loop-range-preserved : goal.loop-range-preserved
loop-range-preserved g c =
    let n = g.T.Integer.value_count in
    let rank = g.T.Integer.rank in
    let first = c.to_rank-first.result in
    let last = c.to_rank-last.result in
    let run = interval_of rank c.in-Some.range in
    let rest = intervals_of rank c.next.new.self in
    let previous = c.loop-range.previous in
    let page = c.loop-range.page.items in
    let split = ap (intervals_of rank) c.in-Some.ensures.steps in
    let ready = subst (IsCanonicalIn n) split c.loop-range.invariant.ready in
    let after = subst (IsCanonicalFrom (from_of previous + least_gap previous)) split c.loop-range.invariant.after in
    let starts = c.to_rank-first.ensures.rank ∙ ap rank c.start.ensures in
    let ends = c.to_rank-last.ensures.rank ∙ ap rank c.end.ensures in
    let run_is : run ≡ from_to first last = interval_of-some rank c.in-Some.range after.in_order
    ∙ (λ i. from_to (sym starts i) (sym ends i)) in
    let past = subst (λ (r : Interval). IsCanonicalFrom (r.last + 2) rest) run_is after.rest in
    let whole = bytes_of n c.args.set.now in
    let tail = bytes_of_runs (last + 1) rest in
    let left = run-left _ _ _ whole page (intervals_of rank c.loop-range.ranges) rest run (from_of previous)
    c.rank_after.result first last split run_is c.rank_after.ensures c.loop-range.invariant.written
    c.lay_number-in-Some.new.page.items c.in_ok-lay_number-2.ensures in
    record {
      ready = canonical-tail n run rest ready;
      finite = tt;
      after = subst (λ (k : ℕ). IsCanonicalFrom k rest) (omega arith) past;
      written = written-then _ _ _ whole (c.lay_number-in-Some.new.page.items ++ leb128 (last - first))
          c.lay_number-in-Some-2.new.page.items tail left c.in_ok-lay_number-3.ensures;
    }

pub returns : goal.returns
returns g c =
    let n = g.T.Integer.value_count in
    let rank = g.T.Integer.rank in
    let none : intervals_of rank c.loop-range.ranges ≡ [] = ap (intervals_of rank) c.in_default.ensures.steps.0 in
    let page = c.loop-range.page.items in
    let all = ap (λ rs. page ++ bytes_of_runs (from_of c.loop-range.previous) rs) none ∙ append-nil page in
    let whole = bytes_of n c.args.set.now in
    wrote-last c.send.result _ _ _ whole page (subst (HasWritten _ _ whole) all c.loop-range.invariant.written)
    c.send.ensures.written
