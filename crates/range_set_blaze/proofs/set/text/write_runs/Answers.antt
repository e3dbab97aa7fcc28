use Rattle.std.proofs.Common.{List, [], Ok, refl, subst, rules}
use Rattle.std.specs.Fmt.{WritesOnOk, debug_items}
use Rattle.range_set_blaze.specs.Written.{ends_text}
use Rattle.range_set_blaze.proofs.lemmas.texts.Pieces.{WritesOn, if_some, if_some_at, writes_on-none, writes_on-more, writes_on-all}
use Rattle.range_set_blaze.proofs.set.text.write_runs.Goals as goal

pub loop-run-init : goal.loop-run-init
loop-run-init g c = (
  search rules,
  writes_on-none g.W.Write.write_str_gives
      (λ entry. ends_text (g.T.Debug.debug_output entry.0) (g.T.Debug.debug_output entry.1))
      c.args.f.now c.args.entries.now,
)

pub loop-run-preserved : goal.loop-run-preserved
loop-run-preserved g c =
    let text = λ (entry : g.row.T.Denot × g.row.T.Denot).
    ends_text (g.T.Debug.debug_output entry.0) (g.T.Debug.debug_output entry.1) in
    let run = c.in-Some.run' in
    let had = subst (λ (rest : List (g.row.T.Denot × g.row.T.Denot)).
    WritesOn g.W.Write.write_str_gives text c.args.f.now c.loop-run.f c.loop-run.separator.now
    rest c.args.entries.now) c.in-Some.ensures c.loop-run.invariant.1 in (
      search rules,
      writes_on-more g.W.Write.write_str_gives text c.args.f.now c.loop-run.f c.write.new.self
          c.loop-run.separator.now (run.start, run.end) c.next_run.new.entries
          c.args.entries.now had (λ bs is plain.
          if_some_at _ _ bs c.in_ok-write.ensures.writes is plain refl),
    )

pub returns : goal.returns
returns g c =
    let text = λ (entry : g.row.T.Denot × g.row.T.Denot).
    ends_text (g.T.Debug.debug_output entry.0) (g.T.Debug.debug_output entry.1) in
    if_some (debug_items text [] c.args.entries.now)
    (λ bs. WritesOnOk g.W.Write.write_str_gives c.args.f.now (Ok tt) bs c.loop-run.f)
    (λ whole is plain ok. writes_on-all g.W.Write.write_str_gives text c.args.f.now c.loop-run.f
    c.loop-run.separator.now c.loop-run.entries c.args.entries.now c.in_default.ensures
    c.loop-run.invariant.1 whole is plain)
