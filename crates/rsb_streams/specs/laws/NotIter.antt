-- The law of a complement: it is canonical.
use Rattle.std.proofs.Common.{◌+◌, [], refl}
use Rattle.std.specs.Prelude.{Option, Some, None, IfSome, is_none}
use Rattle.std.specs.Iterator.{count_map, count_unless}
use Rattle.rsb_integer.specs.Runs.{members, IsCanonicalIn}
use Rattle.rsb_integer.specs.declared.integer.Integer.{Ghosts as Elements}
use Rattle.rsb_integer.proofs.lemmas.Runs.{runs-canonical}
use Rattle.rsb_streams.specs.NotIter.{gaps_after, not_iter, NotReady}
use Rattle.rsb_streams.specs.laws.Stream.{runs-exist, settled_canonical_in}
use Rattle.rsb_streams.specs.Rows.{IsDisjoint, IsSorted}
use Rattle.rsb_streams.specs.Stream.{gaps_from, Keeps}
use Rattle.rsb_streams.specs.declared.draw.Draw.{Ghosts as Stream}
use Rattle.rsb_integer.proofs.lemmas.Canonical.{canonical-none}

module _ {T N I : Type 0} (integer : Elements T N) (stream : Stream I T N) where
  open integer use {rank, value_count as n}

  -- The complement may give something, its gaps are canonical, and it ends. By cases on whether
  -- there is a value for the next gap to start at.
  keeps-by : IsSorted integer stream → (start : Option T) (iter : I)
      → IfSome start (λ each. NotReady integer stream iter each)
      → Keeps (IsCanonicalIn n) (gaps_after rank n start (stream.may_give iter))
      (count_unless (is_none start) (count_map (λ left. left + 1) (stream.draws_left iter)))
  keeps-by sorted None iter ready = record {
    some = λ never. never [] refl;
    all = λ runs may. rw may (canonical-none n);
    ends = tt;
  }
  keeps-by sorted (Some start) iter ready =
      let input = sorted iter ready.callable in
      record {
        some = λ never. input.some (λ given may.
            let runs = runs-exist n (gaps_from (rank start) (members given)) in
            never runs.0 (λ nothing. nothing given may runs.1));
        all = λ runs may. settled_canonical_in n runs (λ fails. may (λ given at all.
            fails (runs-canonical n (gaps_from (rank start) (members given)) runs all)));
        ends = input.ends;
      }

  -- The complement of a stream sorted by start is canonical.
  pub not_iter-disjoint : IsSorted integer stream → IsDisjoint integer (not_iter integer stream)
  not_iter-disjoint sorted s ready = keeps-by sorted s.start s.iter ready
