use Rattle.std.proofs.Common.{◌≡◌, ◌<◌, length, subst, sym}
use Rattle.std.specs.List.{position}
use Rattle.std.specs.Option.{IfSome}
use Rattle.memchr.specs.Find.{TakesFirst, is_byte}
use Rattle.rsb_command_parser.proofs.lemmas.reading.Cuts.{position-places, position-within}
use Rattle.rsb_command_parser.proofs.parse.line_feed.Goals as goal

-- The place is the first of all places of a line feed.
pub returns : goal.returns
returns c =
    let bytes = c.args.bytes.now in
    let place : c.next.result ≡ position (is_byte 10) bytes =
    position-places (is_byte 10) bytes c.next.new.self c.next.result
    (subst (λ all. TakesFirst all c.next.result c.next.new.self) c.memchr_iter.ensures.value
    c.next.ensures.steps) in record {
      place = place;
      within = subst (λ first. IfSome first (λ i. i < length bytes)) (sym place)
          (position-within (is_byte 10) bytes);
    }
