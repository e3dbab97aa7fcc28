use Rattle.std.proofs.Common.{◌∙◌, ap, subst, sym}
use Rattle.range_map_blaze.specs.Map.{value_at, IsMapIn}
use Rattle.range_map_blaze.proofs.lemmas.Windows.{held-starts, window-left, window-map, window-value}
use Rattle.range_map_blaze.proofs.windows.pairs_between.Goals as goal

-- What is left is canonical.
pub invariant_of-result : goal.invariant_of-result
invariant_of-result g c =
    let rank = g.T.Integer.rank in
    let seen = g.V.MapValue.seen in
    let n = g.T.Integer.value_count in
    let window = c.args.window in
    subst (IsMapIn n)
    (sym (window-left rank seen (rank window.end) n (rank window.start) c.args.pieces.now c.requires.canonical
    c.requires.order c.requires.value c.reaching_in-front.result c.starting_in-entries.result
    c.reaching_in-front.ensures.from
    (held-starts rank seen (rank window.end) c.reaching_in-front.result window.start
    c.reaching_in-front.ensures.starts c.requires.order)
    c.starting_in-entries.ensures c.last_left-last.new.front c.last_left-last.new.entries c.ended-back.result
    c.last_left-last.result c.last_left-last.ensures.taken c.ended-back.ensures))
    (window-map n c.args.pieces.now c.requires.canonical (rank window.start) (rank window.end) c.requires.order
    c.requires.value)

-- It has what the map has in the window.
pub returns : goal.returns
returns g c other =
    let rank = g.T.Integer.rank in
    let seen = g.V.MapValue.seen in
    let n = g.T.Integer.value_count in
    let window = c.args.window in
    ap (λ list. value_at list other)
    (window-left rank seen (rank window.end) n (rank window.start) c.args.pieces.now c.requires.canonical
    c.requires.order c.requires.value c.reaching_in-front.result c.starting_in-entries.result
    c.reaching_in-front.ensures.from
    (held-starts rank seen (rank window.end) c.reaching_in-front.result window.start
    c.reaching_in-front.ensures.starts c.requires.order)
    c.starting_in-entries.ensures c.last_left-last.new.front c.last_left-last.new.entries c.ended-back.result
    c.last_left-last.result c.last_left-last.ensures.taken c.ended-back.ensures)
    ∙ window-value n c.args.pieces.now c.requires.canonical (rank window.start) (rank window.end) c.requires.order
    c.requires.value other
