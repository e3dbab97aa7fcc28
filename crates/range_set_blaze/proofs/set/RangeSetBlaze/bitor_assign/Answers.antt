use Rattle.std.proofs.Common.{◌≡◌, ℕ, List, ◌∙◌, sym, ap}
use Rattle.std.proofs.lemmas.List.{map-append}
use Rattle.std.specs.Iterator.{ExtendsWithItems, YieldsFirst}
use Rattle.std.specs.Prelude.{OnErr, Result, Ok, Err}
use Rattle.std.specs.declared.ops.RangeInclusive.{RangeInclusive}
use Rattle.rsb_integer.specs.Rank.{interval_of, intervals_of}
use Rattle.rsb_integer.specs.Runs.{Interval}
use Rattle.rsb_streams.proofs.lemmas.sources.Listed.{itself, listed-yields}
use Rattle.range_set_blaze.specs.Algebra.{AddsPrefixOf, AddsItems}
use Rattle.range_set_blaze.proofs.set.RangeSetBlaze.bitor_assign.Goals as goal

-- If adding the ranges of a list to a set fails, the set gains a prefix of them.
extended-front : {T E : Type 0} (rank : T → ℕ) (n : ℕ) (given : List (RangeInclusive T))
    (runs old new : List Interval) (result : Result (Unit {0}) E) → intervals_of rank given ≡ runs
    → ExtendsWithItems (λ (s iter : List (RangeInclusive T)). iter ≡ s)
    (YieldsFirst (λ (s : List (RangeInclusive T)). s)) (AddsItems rank) given old new result
    → OnErr result (AddsPrefixOf old new runs)
extended-front rank n given runs old new (Ok done) is extends = tt
extended-front rank n given runs old new (Err error) is extends = record {
  front = intervals_of rank extends.1;
  is_prefix = record {
    rest = intervals_of rank extends.4.0;
    parts = sym is ∙ ap (intervals_of rank) (sym extends.2
        ∙ listed-yields rank (itself rank n) (λ s. s) (λ s t range call. call)
        (λ s t call. call.0) extends.1 extends.0 extends.4.0 extends.4.1)
        ∙ map-append (interval_of rank) extends.1 extends.4.0;
  };
  adds = extends.3.adds;
}

-- If an allocation fails, the runs that were added are a prefix of those of the other set.
pub returns-then-is_few-clause-err : goal.returns-then-is_few-clause-err
returns-then-is_few-clause-err g c =
    extended-front g.T.Integer.rank g.T.Integer.value_count _ _ c.args.self.now c.extend.new.self
    c.extend.result c.ranges-then-is_few.ensures.ranges c.extend.ensures.members
