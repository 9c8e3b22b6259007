use Rattle.relay_laws.proofs.Standing.{periods_stand}
use Rattle.relay_laws.proofs.laws.spectators_periods_stand_for_one.Goals as goal

pub returns : goal.returns
returns c = periods_stand c.copies_show_reads.ensures.reads c.own_lists_hold.ensures
