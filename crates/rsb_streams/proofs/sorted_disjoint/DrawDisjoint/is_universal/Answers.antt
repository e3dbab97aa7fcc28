use Rattle.std.specs.Ordering.{partial_le}
use Rattle.std.proofs.Common.{◌≡◌, ◌↔◌, ◌+◌, ◌<◌, false, nat_le, sym, ap, ◌∙◌, arith}
use Rattle.std.specs.Prelude.{IsTrue}
use Rattle.rsb_integer.specs.Rank.{interval_of}
use Rattle.rsb_integer.specs.Runs.{members}
use Rattle.rsb_integer.specs.Selection.{IsUniversal}
use Rattle.rsb_streams.proofs.lemmas.checking.Comparisons.{IsRanked, at_most-by, less-rank, not_less-rank}
use Rattle.rsb_streams.proofs.lemmas.questions.FirstItems.{first-range, first-tells, first-whole, late-lacks, none-lacks, same-test}
use Rattle.rsb_streams.proofs.lemmas.sources.Known.{IsLawful, range-start, range-end}
use Rattle.rsb_streams.proofs.sorted_disjoint.DrawDisjoint.is_universal.Given.{Over}
use Rattle.rsb_streams.proofs.sorted_disjoint.DrawDisjoint.is_universal.Goals as goal

laws : (g : Over) → IsLawful g.T.Integer g.Self.Draw
laws g = record { answers = g.met.Self.Draw.answers; sorted = g.met.Self.Draw.sorted }

ranked : (g : Over) → IsRanked g.T.Integer.rank g.T.Integer.value_count g.T.PartialOrd.partial_cmp
    g.T.Ord.cmp
ranked g =
    let order = g.met.T.Ord in
    let integer = g.met.T.Integer in
    record { matches = order.matches_partial_cmp; in_order = integer.in_order }

-- Nothing comes.
pub returns-in_default : goal.returns-in_default
returns-in_default g c =
    none-lacks g.T.Integer g.Self.Draw (laws g) c.args.self
    c.draw.new.self c.requires c.in_default.ensures.steps (omega (arith, g.met.T.Integer.some_values))

-- The first range starts past the least value.
pub returns-then-lt : goal.returns-then-lt
returns-then-lt g c =
    let rank = g.T.Integer.rank in
    let n = g.T.Integer.value_count in
    let run = interval_of rank c.in-Some.range in
    let facts = first-range g.T.Integer g.Self.Draw (laws g) c.args.self c.draw.new.self c.requires
    c.in-Some.range c.in-Some.ensures.steps c.in-Some.ensures.goes in
    let start = range-start rank c.in-Some.range facts.0
    ∙ sym (ap rank c.into_inner-start.ensures.start) in
    let least : rank c.min_value.result < n = omega
    (arith, facts.0, facts.1, c.min_value.ensures) in
    let low : rank c.into_inner-start.result.0 < n = omega (arith, facts.0, facts.1, start) in
    let less = less-rank (ranked g) c.min_value.result
    c.into_inner-start.result.0 least low c.if-lt.ensures in
    first-tells g.T.Integer g.Self.Draw (laws g) c.args.self c.draw.new.self c.requires c.in-Some.range
    (λ runs. IsTrue false ↔ IsUniversal n (members runs)) c.in-Some.ensures.steps
    c.in-Some.ensures.goes
    (g.met.Self.DrawDisjoint.canonical c.args.self c.requires)
    (λ rest canonical. late-lacks n run rest canonical
    (omega (arith, less, start, c.min_value.ensures)))

-- The first range starts at the least value.
pub returns : goal.returns
returns g c =
    let rank = g.T.Integer.rank in
    let n = g.T.Integer.value_count in
    let run = interval_of rank c.in-Some.range in
    let facts = first-range g.T.Integer g.Self.Draw (laws g) c.args.self c.draw.new.self c.requires
    c.in-Some.range c.in-Some.ensures.steps c.in-Some.ensures.goes in
    let start = range-start rank c.in-Some.range facts.0
    ∙ sym (ap rank c.into_inner-start.ensures.start) in
    let end = range-end rank c.in-Some.range facts.0
    ∙ sym (ap rank c.into_inner-start.ensures.end) in
    let least : rank c.min_value.result < n = omega
    (arith, facts.0, facts.1, c.min_value.ensures) in
    let low : rank c.into_inner-start.result.0 < n = omega (arith, facts.0, facts.1, start) in
    let high : rank c.into_inner-start.result.1 < n = omega (arith, facts.1, end) in
    let greatest : rank c.max_value.result < n = omega (arith, c.max_value.ensures) in
    let most = not_less-rank (ranked g)
    c.min_value.result
    c.into_inner-start.result.0 least low c.if-lt.ensures in
    let test = at_most-by (ranked g)
    c.max_value.result
    c.into_inner-start.result.1 greatest high in
    let whole : nat_le n (run.last + 1) ≡ c.le.result =
    (same-test (rank c.max_value.result) (rank c.into_inner-start.result.1) n (run.last + 1)
    c.max_value.ensures (ap (λ each. each + 1) end)) ∙ sym test
    ∙ sym {b = partial_le g.T.PartialOrd.partial_cmp c.max_value.result c.into_inner-start.result.1}
    c.le.ensures in
    first-tells g.T.Integer g.Self.Draw (laws g) c.args.self c.draw.new.self c.requires c.in-Some.range
    (λ runs. IsTrue c.le.result ↔ IsUniversal n (members runs)) c.in-Some.ensures.steps
    c.in-Some.ensures.goes (g.met.Self.DrawDisjoint.canonical c.args.self c.requires)
    (λ rest canonical. first-whole n run rest c.le.result canonical
    (omega (arith, most, start, c.min_value.ensures)) whole)
