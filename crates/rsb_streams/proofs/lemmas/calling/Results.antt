-- What a caller of operations on streams needs: their results composed, and the members of a list
-- that an operation gives.
use Rattle.std.proofs.Common.{◌≡◌, ◌⊎◌, ℕ, ◌+◌, ◌<◌, Bool, true, false, ◌&&◌, ◌||◌, sym, ◌∙◌, List, not, refl, ap, ◌++◌, inl, inr, length, arith}
use Rattle.std.proofs.lemmas.Bool.{cases_lt}
use Rattle.std.proofs.lemmas.List.{length-append}
use Rattle.std.specs.Prelude.{Option, Some, None, IfSome}
use Rattle.std.specs.declared.ops.RangeInclusive.{RangeInclusive}
use Rattle.rsb_integer.specs.Rank.{interval_of}
use Rattle.rsb_integer.specs.declared.integer.Integer.{Ghosts as Elements}
use Rattle.std.proofs.Math.Bool.{not-not}
use Rattle.rsb_integer.specs.Runs.{Interval, members}
use Rattle.rsb_integer.specs.Selection.{Selection, Agree, complement, difference, intersection, union}
use Rattle.rsb_integer.proofs.lemmas.Runs.{runs-along, runs-members}
use Rattle.rsb_streams.specs.Lookahead.{at_side, undrawn_input, DrawsFew, Input, IsUndrawn, Left, LooksAhead, LooksAheadOfAll, Side}
use Rattle.rsb_streams.specs.RunCount.{GivesFewerRunsThanBoth, GivesOneRunMoreAtMost, GivesRunsOfBothAtMost, HasAtMost}
use Rattle.rsb_streams.specs.laws.Stream.{runs-exist, settled_le, settled_lt}
use Rattle.rsb_streams.specs.Stream.{Outcomes, ◌⊆◌, joined_runs, just, runs_by, runs_by_two}
use Rattle.rsb_streams.specs.Union.{union_row, union_inputs, UnitesUndrawn}
use Rattle.rsb_streams.specs.declared.draw.Draw.{Ghosts as Stream}
use Rattle.rsb_streams.specs.declared.operation_results.union.Union.{Union}
use Rattle.rsb_streams.proofs.lemmas.lookahead.EachCall.{from-one}

-- ---- less given gives less

-- If one stream gives only what another may give, so does an operation on it.
pub runs_by-within : (n : ℕ) (operation : Selection → Selection) (P Less : Outcomes) → Less ⊆ P
    → runs_by n operation Less ⊆ runs_by n operation P
runs_by-within n operation P Less within runs may = λ nothing. may (λ given at all.
    nothing given (within given at) all)

-- If two streams give only what two others may give, so does an operation on them.
pub runs_by_two-within : (n : ℕ) (operation : Selection → Selection → Selection)
    (P Q Less Fewer : Outcomes) → Less ⊆ P → Fewer ⊆ Q
    → runs_by_two n operation Less Fewer ⊆ runs_by_two n operation P Q
runs_by_two-within n operation P Q Less Fewer within also_within runs may = λ nothing.
    may (λ left right at also all.
    nothing left right (within left at) (also_within right also) all)

-- ---- an operation after another

-- Whether the operation gives the same for sets that agree in a type of n values.
abbrev pub Respects : ℕ → (Selection → Selection) → Type 0
Respects n operation = (these others : Selection) → Agree n these others
    → Agree n (operation these) (operation others)

-- The complement respects equal sets.
pub complement-respects : (n : ℕ) → Respects n complement
complement-respects n these others same rank below = ap not (same rank below)

-- An operation on the result of an operation on one stream is a single operation on that stream.
pub runs_by-after : (n : ℕ) (outer inner : Selection → Selection) (P : Outcomes)
    → Respects n outer
    → runs_by n outer (runs_by n inner P) ⊆ runs_by n (λ given. outer (inner given)) P
runs_by-after n outer inner P respects runs may = λ nothing. may (λ given at all.
    at (λ first might inner_runs.
    nothing first might
    (runs-along n (outer (members given)) (outer (inner (members first))) runs
    (respects (members given) (inner (members first))
    (runs-members n (inner (members first)) given inner_runs)) all)))

-- An operation on the result of an operation on two streams is a single operation on both.
pub runs_by-after_two : (n : ℕ) (outer : Selection → Selection)
    (inner : Selection → Selection → Selection) (P Q : Outcomes) → Respects n outer
    → runs_by n outer (runs_by_two n inner P Q)
    ⊆ runs_by_two n (λ left right. outer (inner left right)) P Q
runs_by-after_two n outer inner P Q respects runs may = λ nothing. may (λ given at all.
    at (λ left right might also inner_runs.
    nothing left right might also
    (runs-along n (outer (members given)) (outer (inner (members left) (members right))) runs
    (respects (members given) (inner (members left) (members right))
    (runs-members n (inner (members left) (members right)) given inner_runs)) all)))

-- ---- the members of what an operation gives

-- Two tests that cannot be different are the same.
pub settled-same : (left right : Bool) → ¬ (¬ (left ≡ right)) → left ≡ right
settled-same true true holds = refl
settled-same true false holds = absurd (holds (λ same. absurd (cc)))
settled-same false true holds = absurd (holds (λ same. absurd (cc)))
settled-same false false holds = refl

-- A list that an operation on one list may give has the members that the operation selects.
pub members-runs_by : (n : ℕ) (operation : Selection → Selection) (given set : List Interval)
    → runs_by n operation (just given) set
    → Agree n (members set) (operation (members given))
members-runs_by n operation given set may rank below =
    settled-same (members set rank) (operation (members given) rank)
    (λ fails. may (λ other is all.
    fails (runs-members n (operation (members other)) set all rank below
    ∙ ap (λ (runs : List Interval). operation (members runs) rank) is)))

-- A list that an operation on two lists may give has the members that the operation selects.
pub members-runs_by_two : (n : ℕ) (operation : Selection → Selection → Selection)
    (left right set : List Interval) → runs_by_two n operation (just left) (just right) set
    → Agree n (members set) (operation (members left) (members right))
members-runs_by_two n operation left right set may rank below =
    settled-same (members set rank) (operation (members left) (members right) rank)
    (λ fails. may (λ one other is also all.
    fails (runs-members n (operation (members one) (members other)) set all rank below
    ∙ ap (λ (runs : List Interval). operation (members runs) (members other) rank) is
    ∙ ap (λ (runs : List Interval). operation (members left) (members runs) rank) also)))

-- The complement of a complement gives the runs of the members.
pub complement-twice : (n : ℕ) (P Gaps : Outcomes) → Gaps ⊆ runs_by n complement P
    → runs_by n complement Gaps ⊆ joined_runs n P
complement-twice n P Gaps gaps runs may = λ nothing. may (λ given at all.
    gaps given at (λ first might complement_runs.
    nothing first might (runs-along n (complement (members given)) (members first) runs
    (λ rank below. ap not (runs-members n (complement (members first)) given complement_runs rank
    below)
    ∙ not-not (members first rank)) all)))

-- ---- intersections by complements

-- A rank that one of two sets lacks is not in both.
not-both : (left right : Bool) → (not left || not right) ≡ not (left && right)
not-both true right = refl
not-both false right = refl

-- The union of two complements is the complement of the intersection.
pub union-of_complements : (n : ℕ) (P Q Gaps Others : Outcomes) → Gaps ⊆ runs_by n complement P
    → Others ⊆ runs_by n complement Q
    → runs_by_two n union Gaps Others ⊆ runs_by n complement (runs_by_two n intersection P Q)
union-of_complements n P Q Gaps Others gaps others runs may = λ nothing.
    may (λ left right at also all.
    gaps left at (λ one might left_runs.
    others right also (λ other too right_runs.
    let both = runs-exist n (intersection (members one) (members other)) in
    nothing both.0 (λ none. none one other might too both.1)
    (runs-along n (union (members left) (members right)) (complement (members both.0)) runs
    (λ rank below.
    ap (λ test. test || members right rank)
    (runs-members n (complement (members one)) left left_runs rank below)
    ∙ ap (λ test. not (members one rank) || test)
    (runs-members n (complement (members other)) right right_runs rank below)
    ∙ not-both (members one rank) (members other rank)
    ∙ ap not (sym (runs-members n (intersection (members one) (members other)) both.0 both.1 rank
    below)))
    all))))

-- The runs of a list that an operation on two streams may give are such a list.
pub joined-runs_by_two : (n : ℕ) (operation : Selection → Selection → Selection) (P Q : Outcomes)
    → joined_runs n (runs_by_two n operation P Q) ⊆ runs_by_two n operation P Q
joined-runs_by_two n operation P Q runs may = λ nothing. may (λ given at all.
    at (λ left right might also given_runs.
    nothing left right might also
    (runs-along n (members given) (operation (members left) (members right)) runs
    (runs-members n (operation (members left) (members right)) given given_runs) all)))

-- The complement of the union of two complements is the intersection.
pub intersection-by_complements : (n : ℕ) (P Q Gaps Others Union : Outcomes)
    → Gaps ⊆ runs_by n complement P → Others ⊆ runs_by n complement Q
    → Union ⊆ runs_by_two n union Gaps Others
    → runs_by n complement Union ⊆ runs_by_two n intersection P Q
intersection-by_complements n P Q Gaps Others Union gaps others union runs may =
    joined-runs_by_two n intersection P Q runs
    (complement-twice n (runs_by_two n intersection P Q) Union
    (λ each at. union-of_complements n P Q Gaps Others gaps others each (union each at)) runs may)

-- What is neither outside of the left one nor in the right one is in the left one only.
not-outside : (left right : Bool) → not (not left || right) ≡ (left && not right)
not-outside true right = refl
not-outside false right = refl

-- The complement of the union of the left one's complement with the right one is the difference.
pub difference-by_complements : (n : ℕ) (P Q Gaps Union : Outcomes)
    → Gaps ⊆ runs_by n complement P → Union ⊆ runs_by_two n union Gaps Q
    → runs_by n complement Union ⊆ runs_by_two n difference P Q
difference-by_complements n P Q Gaps Union gaps either runs may = λ nothing. may (λ given at all.
    either given at (λ left right might also union_runs.
    gaps left might (λ one may_one gaps_runs.
    nothing one right may_one also
    (runs-along n (complement (members given)) (difference (members one) (members right)) runs
    (λ rank below.
    ap not (runs-members n (union (members left) (members right)) given union_runs rank
    below)
    ∙ ap (λ test. not (test || members right rank))
    (runs-members n (complement (members one)) left gaps_runs rank below)
    ∙ not-outside (members one rank) (members right rank))
    all))))

-- ---- how many runs

-- A stream that gives only one list gives at most as many runs as it has.
pub just-at_most : (P : Outcomes) (these : List Interval) → P ⊆ just these
    → HasAtMost P (length these)
just-at_most P these is runs may =
    let same = ap (λ (list : List Interval). length list) (is runs may) in
    omega (arith, same)

-- If a stream gives at most the given number of runs, its complement gives at most one more.
pub complement-at_most : {T N I O : Type 0} (integer : Elements T N) (stream : Stream I T N)
    (made : Stream O T N) (of : I) (result : O) (most : ℕ)
    → GivesOneRunMoreAtMost integer stream made of result → HasAtMost (stream.may_give of) most
    → HasAtMost (made.may_give result) (most + 1)
unfolding GivesOneRunMoreAtMost
complement-at_most integer stream made of result most gives few runs may =
    settled_le (length runs) (most + 1) (λ fails. gives runs may (λ given at all.
    let bound = few given at in
    let number = all.1 in
    fails (omega (arith, bound, number))))

module _ {T N L R O : Type 0} (integer : Elements T N) (left : Stream L T N) (right : Stream R T N)
    (made : Stream O T N) (one : L) (other : R) (result : O) (most also_most : ℕ)
    (few : HasAtMost (left.may_give one) most) (also : HasAtMost (right.may_give other) also_most)
  where
    -- If two streams give at most the given numbers of runs, an operation on them gives at most
    -- their sum.
    pub operation-at_most : (operation : Selection → Selection → Selection)
        → GivesRunsOfBothAtMost operation integer left right made one other result
        → HasAtMost (made.may_give result) (most + also_most)
    unfolding GivesRunsOfBothAtMost
    operation-at_most operation gives runs may =
        settled_le (length runs) (most + also_most) (λ fails. gives runs may (λ these those at too all.
        let bound = few these at in
        let other_bound = also those too in
        let number = all.1 in
        fails (omega (arith, bound, other_bound, number))))

    -- If the sum is not 0, an intersection gives less.
    pub intersection-less : GivesFewerRunsThanBoth integer left right made one other result
        → 0 < most + also_most → (runs : List Interval) → made.may_give result runs
        → length runs < most + also_most
    unfolding GivesFewerRunsThanBoth
    intersection-less gives any runs may =
        settled_lt (length runs) (most + also_most) (λ fails. gives runs may (λ these those at too all.
        let bound = few these at in
        let other_bound = also those too in
        elim (cases_lt 0 (length these)) [
          | inr none ↦
              let no_more = all.1.0 (omega (arith, none)) in
              fails (omega (arith, any, no_more))
          | inl some ↦ elim (cases_lt 0 (length those)) [
            | inr none ↦
                let no_more = all.1.1 (omega (arith, none)) in
                fails (omega (arith, any, no_more))
            | inl more ↦
                let number = all.1.2 some more in
                fails (omega (arith, bound, other_bound, number))
          ]
        ]))

    -- If one of the two numbers is 0, an intersection gives none.
    pub intersection-none : GivesFewerRunsThanBoth integer left right made one other result
        → (most ≡ 0) ⊎ (also_most ≡ 0) → HasAtMost (made.may_give result) 0
    unfolding GivesFewerRunsThanBoth
    intersection-none gives none runs may =
        settled_le (length runs) 0 (λ fails. gives runs may (λ these those at too all.
        elim none [
          | inl left_none ↦
              let bound = few these at in
              let no_more = all.1.0 (omega (arith, bound, left_none)) in
              fails (omega (arith, no_more))
          | inr right_none ↦
              let bound = also those too in
              let no_more = all.1.1 (omega (arith, bound, right_none)) in
              fails (omega (arith, no_more))
        ]))

-- ---- how far a union looks ahead

-- If nothing has been drawn from an input, a call that looks ahead in it looks ahead in the stream.
looks-undrawn : (answer : Interval) (may_give : Outcomes) (before now : Input)
    → IsUndrawn may_give before → LooksAhead answer before now
    → LooksAhead answer (undrawn_input may_give) now
looks-undrawn answer may_give before now new looks = record {
  used = looks.used;
  uses = record {
    drawn = looks.uses.drawn;
    drew = λ rest at. new.gives (looks.uses.drawn ++ rest) (looks.uses.drew rest at);
    in_order = ap (λ runs. runs ++ looks.uses.drawn) (sym new.held) ∙ looks.uses.in_order;
  };
  within = looks.within;
  ahead = looks.ahead;
}

-- The first draw of a union of two streams looks at most one range ahead in each.
pub first-ahead : {T N L R : Type 0} (integer : Elements T N) (left : Stream L T N)
    (right : Stream R T N) (one : L) (other : R) (s t : Union T L R)
    (item : Option (RangeInclusive T)) → UnitesUndrawn integer left right one other s.iter
    → (union_row integer left right).draw_gives s item t
    → IfSome item (λ answer. (from : Side) × LooksAheadOfAll (interval_of integer.rank answer)
    (λ side. undrawn_input (at_side (left.may_give one) (right.may_give other) side))
    (union_inputs integer left right from t))
first-ahead integer left right one other s t None new gives = tt
first-ahead integer left right one other s t (Some answer) new gives =
    let looks = gives.asks Left in (
      looks.0,
      λ side. looks-undrawn (interval_of integer.rank answer)
          (at_side (left.may_give one) (right.may_give other) side)
          (union_inputs integer left right Left s side) (union_inputs integer left right looks.0 t side)
          (new Left side) (looks.1 side),
    )

-- A call that looks at most one range ahead draws at most one range more than lie within the
-- returned range.
looks-few : (answer : Interval) (may_give : Outcomes) (now : Input)
    → LooksAhead answer (undrawn_input may_give) now → DrawsFew answer may_give now.undrawn
looks-few answer may_give now looks =
    let one = from-one (answer.last + 2) now.held looks.ahead in
    let order : looks.uses.drawn ≡ looks.used ++ now.held = looks.uses.in_order in
    record {
      drawn = looks.uses.drawn;
      inside = looks.used;
      drew = looks.uses.drew;
      within = looks.within;
      few = rw order (rw (length-append looks.used now.held) (omega (arith, one)));
    }

-- From each stream, the first draw of a union draws at most one range more than lie within the
-- returned range.
pub first-few : {T N L R : Type 0} (integer : Elements T N) (left : Stream L T N)
    (right : Stream R T N) (one : L) (other : R) (s t : Union T L R)
    (item : Option (RangeInclusive T)) (side : Side)
    → UnitesUndrawn integer left right one other s.iter
    → (union_row integer left right).draw_gives s item t
    → IfSome item (λ answer. DrawsFew (interval_of integer.rank answer)
    (at_side (left.may_give one) (right.may_give other) side)
    (union_inputs integer left right side t side).undrawn)
first-few integer left right one other s t None side new gives = tt
first-few integer left right one other s t (Some answer) side new gives =
    let ahead = first-ahead integer left right one other s t (Some answer) new gives in
    let few = looks-few (interval_of integer.rank answer)
    (at_side (left.may_give one) (right.may_give other) side)
    (union_inputs integer left right ahead.0 t side) (ahead.1 side) in
    record { drawn = few.drawn; inside = few.inside; drew = few.drew; within = few.within; few = few.few }
