use Rattle.std.proofs.Common.{◌+◌, take, refl, sym, ap, ◌∙◌, subst}
use Rattle.rsb_integer.specs.Rank.{intervals_of}
use Rattle.rsb_integer.specs.Runs.{AllEndBelow}
use Rattle.rsb_streams.specs.OutOfPlace.{IsFirstBad}
use Rattle.rsb_streams.specs.laws.Stream.{canonical-spaced, spaced-canonical}
use Rattle.rsb_streams.specs.Touching.{IsSpacedIn}
use Rattle.rsb_streams.proofs.lemmas.checking.FirstFault.{first_bad-along}
use Rattle.rsb_streams.proofs.lemmas.sources.Vectors.{vec-calls, vec-source}
use Rattle.rsb_streams.proofs.check_sorted_disjoint.CheckSortedDisjoint+T+IntoIter+RangeInclusive+T+A.try_new.Goals as goal

-- There is a faulty position, so the list is not canonical.
pub returns-in-Some-clause-ok : goal.returns-in-Some-clause-ok
returns-in-Some-clause-ok g c = (
  (λ no. absurd (cc)),
  (λ canonical.
      let rank = g.T.Integer.rank in
      let n = g.T.Integer.value_count in
      let none = c.in-Some.ensures.none.1
      (subst (λ items. IsSpacedIn 2 n (intervals_of rank items)) (sym c.deref.ensures.value)
      (canonical-spaced n (intervals_of rank c.args.ranges.items) canonical)) in
      absurd (cc)),
)

pub returns-in-Some-clause-position : goal.returns-in-Some-clause-position
returns-in-Some-clause-position g c =
    let rank = g.T.Integer.rank in
    let n = g.T.Integer.value_count in
    first_bad-along (spaced-canonical n) (canonical-spaced n)
    (subst (λ items. IsFirstBad (IsSpacedIn 2 n) (intervals_of rank items) c.in-Some.position)
    c.deref.ensures.value c.in-Some.ensures.bad)

pub returns-in-Some-clause-value : goal.returns-in-Some-clause-value
returns-in-Some-clause-value g c =
    subst (λ items. AllEndBelow g.T.Integer.value_count
    (take (c.in-Some.position + 1) (intervals_of g.T.Integer.rank items)))
    c.deref.ensures.value c.in-Some.ensures.value

-- There is no faulty position, so the list is canonical.
pub new-requires : goal.new-requires
new-requires g c = λ source becomes.
    let rank = g.T.Integer.rank in
    let n = g.T.Integer.value_count in
    vec-source rank n source
    (spaced-canonical n (intervals_of rank source.rest.items)
    (subst (λ items. IsSpacedIn 2 n (intervals_of rank items))
    (c.deref.ensures.value ∙ sym becomes.0) (c.in_default.ensures.none.0 refl)))

pub returns-clause-ok : goal.returns-clause-ok
returns-clause-ok g c = (
  (λ _.
      let rank = g.T.Integer.rank in
      let n = g.T.Integer.value_count in
      spaced-canonical n (intervals_of rank c.args.ranges.items)
      (subst (λ items. IsSpacedIn 2 n (intervals_of rank items)) c.deref.ensures.value
      (c.in_default.ensures.none.0 refl))),
  (λ _. refl),
)

pub returns-clause-ready : goal.returns-clause-ready
returns-clause-ready g c = c.new.ensures.ready

-- The stream gives the items of the list.
pub returns-clause-runs : goal.returns-clause-runs
returns-clause-runs g c = λ runs may.
    let given = c.new.ensures.gives runs may in
    vec-calls g.T.Integer.rank g.T.Integer.value_count given.0 runs given.2
    ∙ ap (intervals_of g.T.Integer.rank) given.1.0
