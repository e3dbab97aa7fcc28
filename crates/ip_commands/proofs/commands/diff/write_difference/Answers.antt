use Rattle.std.proofs.Common.{◌^◌}
use Rattle.range_set_blaze.specs.Runs.{members}
use Rattle.range_set_blaze.specs.Selection.{difference}
use Rattle.ip_sets.proofs.lemmas.Selecting.{selects-difference}
use Rattle.ip_commands.proofs.lemmas.Differing.{only-runs}
use Rattle.ip_commands.proofs.commands.diff.write_difference.Goals as goal

-- The difference of each family was written.
pub returns : goal.returns
returns g c =
    let one = c.args.one.now in
    let other = c.args.other.now in
    c.write_streams.ensures (difference (members one.v4) (members other.v4))
    (difference (members one.v6) (members other.v6))
    (selects-difference (2 ^ 32) (members one.v4) (members other.v4) _ _ _
    (only-runs (2 ^ 32) _ one.v4 c.ranges-2.ensures.ranges c.ranges-2.ensures.runs)
    (only-runs (2 ^ 32) _ other.v4 c.ranges-3.ensures.ranges c.ranges-3.ensures.runs)
    c.difference-v4.ensures.made.gives)
    (selects-difference (2 ^ 128) (members one.v6) (members other.v6) _ _ _
    (only-runs (2 ^ 128) _ one.v6 c.ranges-4.ensures.ranges c.ranges-4.ensures.runs)
    (only-runs (2 ^ 128) _ other.v6 c.ranges-5.ensures.ranges c.ranges-5.ensures.runs)
    c.difference-v6.ensures.made.gives)
