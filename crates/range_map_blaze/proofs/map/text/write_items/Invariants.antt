-- What was written, followed by the texts of the items that are left, is the text of all. The
-- separator before an item is UTF-8.
use Rattle.std.proofs.Common.{length}
use Rattle.range_set_blaze.proofs.lemmas.texts.Pieces.{WritesOn}
use Rattle.range_map_blaze.specs.Written.{item_text}
use Rattle.range_map_blaze.proofs.map.text.write_items.Given as goal
use denote.Shadow.{shadow}
use denote.Text.{Utf8}

abbrev pub invariant-loop-range : goal.invariant-loop-range
invariant-loop-range g l = shadow (Utf8 l.separator) × WritesOn g.W.Write.write_str_gives
    (item_text g.T.Debug.debug_output g.V.Debug.debug_output)
    l.fn.f l.f l.separator l.items l.fn.items

abbrev pub decreases-loop-range : goal.decreases-loop-range
decreases-loop-range g l = length l.items
