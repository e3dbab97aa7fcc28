use Rattle.std.proofs.Common.{◌^◌}
use Rattle.ip_commands.proofs.lemmas.Differing.{applied}
use Rattle.ip_commands.proofs.laws.diff_applies.Goals as goal

pub returns-clause-v4 : goal.returns-clause-v4
returns-clause-v4 c = λ form families old new text diff.
    applied (2 ^ 32) old.v4 new.v4 _ _ diff.out4_made diff.in4_made

pub returns-clause-v6 : goal.returns-clause-v6
returns-clause-v6 c = λ form families old new text diff.
    applied (2 ^ 128) old.v6 new.v6 _ _ diff.out6_made diff.in6_made
