-- The law of a union: it is canonical.
use Rattle.std.proofs.Common.{ℕ, List}
use Rattle.std.specs.Iterator.{Count}
use Rattle.rsb_integer.specs.Runs.{Interval, members, IsCanonicalIn}
use Rattle.rsb_integer.specs.declared.integer.Integer.{Ghosts as Elements}
use Rattle.rsb_integer.proofs.lemmas.Runs.{runs-canonical}
use Rattle.rsb_streams.specs.laws.Stream.{runs-exist, settled_canonical_in}
use Rattle.rsb_streams.specs.PutBack.{put_back}
use Rattle.rsb_streams.specs.laws.PutBack.{put_back-sorted}
use Rattle.rsb_streams.specs.Rows.{IsDisjoint, IsSorted}
use Rattle.rsb_streams.specs.Stream.{Outcomes, joined_runs, HasSortedStarts, Keeps}
use Rattle.rsb_streams.specs.UnionIter.{union_iter}
use Rattle.rsb_streams.specs.declared.draw.Draw.{Ghosts as Stream}

-- If something may be given, it has runs, and these are canonical.
pub joined-keeps : (n : ℕ) (law : List Interval → Type 0) (P : Outcomes) (remaining : Count)
    → Keeps law P remaining
    → Keeps (IsCanonicalIn n) (joined_runs n P) remaining
joined-keeps n law P remaining kept = record {
  some = λ never. kept.some (λ given may.
      let runs = runs-exist n (members given) in
      never runs.0 (λ nothing. nothing given may runs.1));
  all = λ runs may. settled_canonical_in n runs (λ fails.
      may (λ given at all. fails (runs-canonical n (members given) runs all)));
  ends = kept.ends;
}

-- The union of a stream sorted by start is canonical.
pub union_iter-disjoint : {T N S : Type 0} (integer : Elements T N) (stream : Stream S T N)
    → IsSorted integer stream → IsDisjoint integer (union_iter integer stream)
union_iter-disjoint integer stream sorted s ready =
    let n = integer.value_count in
    let held = put_back integer stream in
    joined-keeps n (HasSortedStarts n) (held.may_give s.iter) (held.draws_left s.iter)
    (put_back-sorted integer stream sorted s.iter ready)
