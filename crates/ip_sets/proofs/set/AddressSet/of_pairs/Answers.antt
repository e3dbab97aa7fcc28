use Rattle.std.proofs.Common.{◌≡◌, ◌∙◌, ap, arith, nat_le, rules, subst, sym, true}
use Rattle.std.proofs.lemmas.Bool.Decides.{nat_tests}
use Rattle.std.proofs.lemmas.Fn.{All-from_retain, always_returns_same, filter_same}
use Rattle.std.proofs.lemmas.List.Sorted.{All-permutation, IsPermutation-map}
use Rattle.range_set_blaze.specs.Runs.{members}
use Rattle.rsb_streams.proofs.lemmas.sorting.Sorted.{IsInOrder, members-permutation}
use Rattle.ip_sets.specs.Pairs.{MayJoin, span_of, spans_of}
use Rattle.ip_sets.proofs.lemmas.listing.Joined.{AreJoined, IsProper, joined, members-ordered, starts-from}
use Rattle.ip_sets.proofs.set.AddressSet.of_pairs.Given.{Over}
use Rattle.ip_sets.proofs.set.AddressSet.of_pairs.Goals as goal
use Rattle.ip_sets.proofs.set.AddressSet.of_pairs.Goals.{After-dedup_by}

-- Addresses are ordered as their ranks are.
in_order : (g : Over) → IsInOrder g.T.Integer.rank g.T.Integer.value_count g.T.Ord.cmp
in_order g =
    let laws = g.met.T.Integer in
    laws.in_order

-- The pairs that are kept are sorted, and then joined.
joined-pairs : (g : Over) (c : After-dedup_by g)
    → AreJoined g.T.Integer.rank g.T.Integer.value_count 0 c.sort_unstable_by_key.new.self.items
    c.dedup_by.new.self.items
joined-pairs g c =
    let rank = g.T.Integer.rank in
    let n = g.T.Integer.value_count in
    let kept = c.retain.new.self.items in
    let sorted = c.sort_unstable_by_key.new.self.items in
    let each = All-from_retain _ (IsProper rank n) _
    (λ pair b f' called.
    let test : b ≡ nat_le (rank pair.0) (rank pair.1) = search rules in (
      (λ is.
          let yes : nat_le (rank pair.0) (rank pair.1) ≡ true = sym test ∙ is in
          record { in_order = grind (arith, nat_tests, yes); in_type = search rules }),
      search rules,
    )) c.args.pairs.items kept c.retain.ensures.filtered in
    let proper = All-permutation (IsProper rank n) kept sorted
    c.sort_unstable_by_key.ensures.permutation each in
    let starts = starts-from rank n g.T.Ord.cmp (in_order g) 0 sorted proper
    (c.sort_unstable_by_key.ensures.sorted (λ pair. pair.0)
    (always_returns_same _ _ _ (λ a r f' k. search rules))) (λ pair others is. omega arith) in
    joined rank n _ (λ s next last b t next' last' h.
    let met = h.called.met.0 in (
      sym h.leaves.0 ∙ met.0 ∙ h.shows.0,
      subst (λ each. MayJoin rank next each b last') h.shows.1
          (subst (λ each. MayJoin rank each h.second.now b last') h.shows.0
          (subst (λ each. MayJoin rank h.first.now h.second.now b each) h.leaves.1 met.1)),
    )) _ sorted
    c.dedup_by.new.self.items proper starts c.dedup_by.ensures.filtered

pub invariant_of-result : goal.invariant_of-result
invariant_of-result g c =
    let are = joined-pairs g c in
    record { apart = are.canonical; within = are.within }

-- Pairs out of order have no addresses, and the others keep theirs.
pub returns : goal.returns
returns g c =
    let rank = g.T.Integer.rank in
    let n = g.T.Integer.value_count in
    let pairs = c.args.pairs.items in
    let kept = c.retain.new.self.items in
    let sorted = c.sort_unstable_by_key.new.self.items in
    λ place. (joined-pairs g c).same place
    ∙ members-permutation (spans_of rank kept) (spans_of rank sorted) place
    (IsPermutation-map (span_of rank) kept sorted c.sort_unstable_by_key.ensures.permutation)
    ∙ ap (λ items. members (spans_of rank items) place)
    (filter_same _ (λ pair. nat_le (rank pair.0) (rank pair.1)) _ (λ pair b f' called. search rules)
    pairs kept c.retain.ensures.filtered)
    ∙ members-ordered rank n pairs place
