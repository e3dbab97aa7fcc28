-- The calls starting at the first day of the year return all weekends.
use Rattle.rsb_user_types.proofs.lemmas.Weekends.{gives-weekends}
use Rattle.rsb_user_types.proofs.ordinal_weekends.OrdinalWeekends.new.Goals as goal

pub returns-clause-gives : goal.returns-clause-gives
returns-clause-gives c = gives-weekends
