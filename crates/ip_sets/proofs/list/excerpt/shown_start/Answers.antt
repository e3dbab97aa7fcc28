use Rattle.std.proofs.Common.{arith, length-take-le}
use Rattle.ip_sets.proofs.list.excerpt.shown_start.Goals as goal

pub slice_bounds-all_shown-end : goal.slice_bounds-all_shown-end
slice_bounds-all_shown-end c =
    omega (arith, length-take-le 60 c.args.text.now (omega arith))

-- The first sixty bytes are sixty.
pub all_shown-start-requires : goal.all_shown-start-requires
all_shown-start-requires c = omega (arith, length-take-le 60 c.args.text.now (omega arith))

-- There is room for them and three dots.
pub push_str-requires : goal.push_str-requires
push_str-requires c = omega (
  arith,
  length-take-le 60 c.args.text.now (omega arith),
  c.all_shown-start.ensures.within,
)
