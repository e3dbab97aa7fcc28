use Rattle.std.proofs.lemmas.List.{take_rest}
use Rattle.ip_sets.specs.Line.{IsLine}
use Rattle.ip_sets.specs.LineParts.{Reads}
use Rattle.ip_sets.proofs.lemmas.spelling.Plain.{line_to_feed}
use Rattle.ip_sets.proofs.line.first_line.Goals as goal

-- The line ends at the first line feed.
pub returns : goal.returns
returns c =
    rw take_rest
    (line_to_feed (λ line. Reads c.parse_line-meaning.result (IsLine line)) c.args.bytes.now c.in_ok-end.end
    c.in_ok-end.ensures c.parse_line-meaning.ensures)
