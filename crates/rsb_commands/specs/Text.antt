-- The text of replies.
use Rattle.std.specs.Prelude.{ℕ, ℤ, Bool, List, [], ◌∷◌, ◌++◌, if◌then◌else◌, codes, decimal, flat_map}
use Rattle.std.specs.Fmt.{signed_decimal}
use Rattle.std.specs.Range.{range_inclusive_start, range_inclusive_end}
use Rattle.std.specs.declared.ops.RangeInclusive.{RangeInclusive}
use Rattle.std.specs.declared.cmp.Ordering.{Ordering}
use Rattle.std.specs.declared.cmp.Ordering.TheVariants.{Less, Equal, Greater}
use Rattle.rsb_commands.specs.Interpreter.{Content, flag, number, order, piece, ranges, runs}

-- Two numbers in decimal with `..=` between them.
abbrev pub ends_text : ℤ → ℤ → List ℕ
ends_text start end = signed_decimal start ++ codes "..=" ++ signed_decimal end

-- The text of a range: its start and its end.
abbrev pub range_text : RangeInclusive ℤ → List ℕ
range_text range = ends_text (range_inclusive_start range) (range_inclusive_end range)

-- The text of a range that follows another.
abbrev pub next_range_text : RangeInclusive ℤ → List ℕ
next_range_text range = codes ", " ++ range_text range

-- The text of ranges, with a comma and a space between them.
abbrev pub ranges_text : List (RangeInclusive ℤ) → List ℕ
ranges_text [] = []
ranges_text (first ∷ others) = range_text first ++ flat_map next_range_text others

-- The text of a flag.
abbrev pub flag_text : Bool → List ℕ
flag_text is = if is then codes "true" else codes "false"

-- The text of an order.
abbrev pub order_text : Ordering → List ℕ
order_text Less = codes "less"
order_text Equal = codes "equal"
order_text Greater = codes "greater"

-- The text of a reply: true or false, the ends of a run or a gap and which it is, a number in
-- decimal, ranges, or an order.
abbrev pub reply_text : Content ℤ → List ℕ
reply_text (flag is) = flag_text is
reply_text (piece first last present) = ends_text first last ++ codes " " ++ flag_text present
reply_text (number many) = decimal many
reply_text (ranges all) = ranges_text all
reply_text (runs many) = decimal many
reply_text (order is) = order_text is

-- The text of a reply and a line feed.
abbrev pub line_text : Content ℤ → List ℕ
line_text reply = reply_text reply ++ codes "\n"

-- A line for each reply.
abbrev pub text : List (Content ℤ) → List ℕ
text replies = flat_map line_text replies
