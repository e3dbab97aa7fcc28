-- Parts of what a stream may give satisfy its laws.
use Rattle.std.proofs.Common.{◌≡◌, ℕ, Bool, true, false, List, [], take, drop, refl, inl, inr}
use Rattle.std.specs.Prelude.{Option, MatchBool}
use Rattle.std.specs.Iterator.{Count, IsFinite}
use Rattle.std.specs.Iterator.Adapters.{fuse_done, fuse_source}
use Rattle.std.specs.declared.iter.Fuse.{Fuse}
use Rattle.rsb_integer.specs.Prefix.{IsPrefix, IsSuffix}
use Rattle.rsb_integer.specs.Runs.{Interval, IsCanonicalIn}
use Rattle.rsb_streams.specs.Adapters.{IsSkipped, part_of}
use Rattle.rsb_streams.specs.Fused.{fuse_can_next, fuse_may_give}
use Rattle.rsb_streams.specs.laws.Stream.{settled_canonical_in, settled_sorted}
use Rattle.rsb_streams.specs.Stream.{Outcomes, ◌⊆◌, HasSortedStarts, Keeps, outcomes_unless}
use Rattle.rsb_streams.specs.Sublists.{IsSublist}
use Rattle.rsb_streams.specs.laws.Sublists.{sublist-after, sublist-all, sublist-canonical, sublist-drop, sublist-front, sublist-none, sublist-sorted, sublist-take}
use Rattle.rsb_integer.proofs.lemmas.Canonical.{canonical-none}

-- Whether each part of a list is a sublist of it, and each list has a part.
pub record IsPart (Part : List Interval → List Interval → Type 0) : Type 0 where
  pub within : (runs given : List Interval) → Part runs given → IsSublist runs given
  pub some : (given : List Interval) → (runs : List Interval) × Part runs given

-- Sublists are such parts.
pub sublist-is_part : IsPart IsSublist
sublist-is_part = record {
  within = λ runs given part. part;
  some = λ given. (given, sublist-all given);
}

-- Prefixes are such parts, and so is the empty list.
pub front-is_part : (done : Bool)
    → IsPart (λ runs given. MatchBool done (runs ≡ []) (IsPrefix runs given))
front-is_part true = record {
  within = λ runs given part. rw part (sublist-none given);
  some = λ given. ([], refl);
}
front-is_part false = record {
  within = λ runs given part. rw part.parts (sublist-front runs part.rest);
  some = λ given. ([], record { rest = given; parts = refl });
}

-- Suffixes are such parts, and so is the whole list.
pub rest-is_part : (started : Bool)
    → IsPart (λ runs given. MatchBool started (runs ≡ given) (IsSuffix runs given))
rest-is_part true = record {
  within = λ runs given part. rw part (sublist-all given);
  some = λ given. (given, refl);
}
rest-is_part false = record {
  within = λ runs given part.
      rw part.parts (sublist-after part.passed runs runs (sublist-all runs));
  some = λ given. (given, record { passed = []; parts = refl });
}

-- The first intervals, up to the given number, are such a part.
pub take-is_part : (count : ℕ) → IsPart (λ runs given. runs ≡ take count given)
take-is_part count = record {
  within = λ runs given part. rw part (sublist-take count given);
  some = λ given. (take count given, refl);
}

-- The intervals after the given number of skipped ones are such a part.
pub skip-is_part : {S A : Type 0} (steps : S → Option A → S → Type 0) (s : S) (count : ℕ)
    → IsPart (IsSkipped steps s count)
skip-is_part steps s count = record {
  within = λ runs given part. elim part [
    | inl left ↦ rw left (sublist-drop count given)
    | inr ended ↦ rw ended.1 (sublist-none given)
  ];
  some = λ given. (drop count given, inl refl);
}

module _ (n : ℕ) {Part : List Interval → List Interval → Type 0} (part : IsPart Part)
    (P : Outcomes) where
  -- Parts of canonical lists are canonical.
  pub part-canonical : P ⊆ IsCanonicalIn n → part_of P Part ⊆ IsCanonicalIn n
  part-canonical canonical runs may = settled_canonical_in n runs (λ fails. may (λ given at is.
      fails (sublist-canonical n runs given (canonical given at) (part.within runs given is))))

  -- If lists are sorted by start, so are their parts; there is a part, and the calls end.
  pub part-keeps : (left more : Count) → IsFinite more → Keeps (HasSortedStarts n) P left
      → Keeps (HasSortedStarts n) (part_of P Part) more
  part-keeps left more ends kept = record {
    some = λ never. kept.some (λ given at.
        let each = part.some given in never each.0 (λ nothing. nothing given at each.1));
    all = λ runs may. settled_sorted n 0 runs (λ fails. may (λ given at is.
        fails (sublist-sorted n runs given (kept.all given at) (part.within runs given is))));
    ends = ends;
  }

-- A `Fuse` over a canonical stream is canonical. By cases on whether it has ended.
fuse-canonical_by : (n : ℕ) (done : Bool) (P : Outcomes) → (done ≡ false → P ⊆ IsCanonicalIn n)
    → outcomes_unless done P ⊆ IsCanonicalIn n
fuse-canonical_by n true P canonical runs may =
    rw may (canonical-none n)
fuse-canonical_by n false P canonical runs may = canonical refl runs may

pub fuse-canonical : {S : Type 0} (n : ℕ) (may_give : S → Outcomes) (can : S → Type 0)
    → ((s : S) → can s → may_give s ⊆ IsCanonicalIn n)
    → (s : Fuse S) → fuse_can_next can s → fuse_may_give may_give s ⊆ IsCanonicalIn n
fuse-canonical n may_give can canonical s ready = fuse-canonical_by n (fuse_done s)
    (may_give (fuse_source s)) (λ undone. canonical (fuse_source s) (ready undone))
