-- A list of one range is canonical.
use Rattle.std.proofs.Common.{rules}
use Rattle.rsb_streams.proofs.lemmas.sources.Arrays.{array-apart}
use Rattle.test_streams.proofs.streams.weekends.weekends_come_each_seven_days_and_leave_the_others.Goals as goal

pub new-september-requires : goal.new-september-requires
new-september-requires g c = λ iter is. array-apart _ _ _ _ (search rules) iter is.0
