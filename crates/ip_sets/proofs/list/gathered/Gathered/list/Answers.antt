use Rattle.std.proofs.Common.{ℕ, ◌^◌, arith}
use Rattle.std.proofs.lemmas.List.{length-map}
use Rattle.rsb_integer.proofs.lemmas.Runs.{runs-canonical}
use Rattle.range_set_blaze.specs.Runs.{from_to, members}
use Rattle.ip_sets.specs.Pairs.{spans_of}
use Rattle.ip_sets.proofs.lemmas.aligned.FewRuns.{few-runs}
use Rattle.ip_sets.proofs.list.gathered.Gathered.list.Goals as goal

-- The sets have at most as many runs as there are ranges.
pub returns-clause-run_count : goal.returns-clause-run_count
returns-clause-run_count g c =
    let span = λ (pair : ℕ × ℕ). from_to pair.0 pair.1 in
    let v4 = c.of_pairs-v4.result in
    let v6 = c.of_pairs-v6.result in
    let pairs = c.args.self.v4.items in
    let pairs_too = c.args.self.v6.items in
    let few = few-runs (2 ^ 32) v4 (spans_of (λ (address : ℕ). address) pairs)
    c.of_pairs-v4.ensures
    (runs-canonical (2 ^ 32) (members v4) v4 c.ranges_len.ensures.runs) in
    let few_too = few-runs (2 ^ 128) v6 (spans_of (λ (address : ℕ). address) pairs_too)
    c.of_pairs-v6.ensures
    (runs-canonical (2 ^ 128) (members v6) v6 c.ranges_len-2.ensures.runs) in
    omega (arith, few, few_too, length-map pairs span, length-map pairs_too span)
