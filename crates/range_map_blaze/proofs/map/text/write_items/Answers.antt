use Rattle.std.proofs.Common.{List, [], Ok, Some, ◌∙◌, ap, refl, subst, rules}
use Rattle.std.specs.Fmt.{◌++?◌, WritesOnOk, debug_items}
use Rattle.std.specs.declared.ops.RangeInclusive.{RangeInclusive}
use Rattle.range_set_blaze.proofs.lemmas.texts.Pieces.{WritesOn, if_some, if_some_at, writes_on-none, writes_on-more, writes_on-all}
use Rattle.range_map_blaze.specs.Written.{item_text, range_text}
use Rattle.range_map_blaze.proofs.map.text.write_items.Goals as goal

pub loop-range-init : goal.loop-range-init
loop-range-init g c = (
  search rules,
  writes_on-none g.W.Write.write_str_gives (item_text g.T.Debug.debug_output g.V.Debug.debug_output)
      c.args.f.now c.args.items.now,
)

pub loop-range-preserved : goal.loop-range-preserved
loop-range-preserved g c =
    let text = item_text g.T.Debug.debug_output g.V.Debug.debug_output in
    let had = subst (λ (rest : List (RangeInclusive g.row.T.Denot × g.row.V.Denot)).
    WritesOn g.W.Write.write_str_gives text c.args.f.now c.loop-range.f c.loop-range.separator.now
    rest c.args.items.now) c.in-Some.ensures.steps c.loop-range.invariant.1 in
    let start = ap g.T.Debug.debug_output c.start.ensures in
    let end = ap g.T.Debug.debug_output c.end.ensures in (
      search rules,
      writes_on-more g.W.Write.write_str_gives text c.args.f.now c.loop-range.f c.write.new.self
          c.loop-range.separator.now (c.in-Some.range, c.in-Some.value.now) c.next.new.self
          c.args.items.now had (λ bs is plain.
          if_some_at _ _ bs c.in_ok-write.ensures.writes
          ((λ i. Some c.loop-range.separator.now ++? range_text (start i) (end i)
          (g.V.Debug.debug_output c.in-Some.value.now)) ∙ is) plain refl),
    )

pub returns : goal.returns
returns g c =
    let text = item_text g.T.Debug.debug_output g.V.Debug.debug_output in
    if_some (debug_items text [] c.args.items.now)
    (λ bs. WritesOnOk g.W.Write.write_str_gives c.args.f.now (Ok tt) bs c.loop-range.f)
    (λ whole is plain ok. writes_on-all g.W.Write.write_str_gives text c.args.f.now c.loop-range.f
    c.loop-range.separator.now c.loop-range.items c.args.items.now c.in_default.ensures.steps.0
    c.loop-range.invariant.1 whole is plain)
