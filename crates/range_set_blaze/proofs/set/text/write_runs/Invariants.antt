use Rattle.std.proofs.Common.{length}
use Rattle.range_set_blaze.specs.Written.{ends_text}
use Rattle.range_set_blaze.proofs.lemmas.texts.Pieces.{WritesOn}
use Rattle.range_set_blaze.proofs.set.text.write_runs.Given as goal
use denote.Shadow.{shadow}
use denote.Text.{Utf8}

-- What was written, followed by the texts of the entries that are left, is the text of all. The
-- separator before an entry is UTF-8.
abbrev pub invariant-loop-run : goal.invariant-loop-run
invariant-loop-run g l = shadow (Utf8 l.separator) × WritesOn g.W.Write.write_str_gives
    (λ entry. ends_text (g.T.Debug.debug_output entry.0) (g.T.Debug.debug_output entry.1))
    l.fn.f l.f l.separator l.entries l.fn.entries

abbrev pub decreases-loop-run : goal.decreases-loop-run
decreases-loop-run g l = length l.entries
