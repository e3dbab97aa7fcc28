use Rattle.std.proofs.Common.{◌≡◌, ◌∷◌, [], ap, rules}
use Rattle.std.specs.Prelude.{flat_map}
use Rattle.rsb_commands.specs.Text.{next_range_text, range_text, ranges_text}
use Rattle.rsb_commands.proofs.lemmas.writing.LaidText.{lays-cut, lays-nothing, lays-then}
use Rattle.rsb_commands.proofs.text.write_list.Goals as goal

-- The first range was cut short.
pub returns-in_err-write_range : goal.returns-in_err-write_range
returns-in_err-write_range g c =
    let split : c.args.ranges.now ≡ c.in-Some.first.now ∷ c.in-Some.others.now = search rules in
    lays-cut _ _ _ _ _ _ [] (range_text c.in-Some.first.now)
    (flat_map next_range_text c.in-Some.others.now) _ c.from_residual.ensures.1
    (ap (λ ranges. ranges_text ranges) split) (lays-nothing _ _) c.in_err-write_range.ensures

-- The other ranges come after the first.
pub returns : goal.returns
returns g c =
    let split : c.args.ranges.now ≡ c.in-Some.first.now ∷ c.in-Some.others.now = search rules in
    lays-then _ _ _ _ _ (range_text c.in-Some.first.now)
    (flat_map next_range_text c.in-Some.others.now) _ (ap (λ ranges. ranges_text ranges) split)
    c.in_ok-write_range.ensures c.write_others.ensures
