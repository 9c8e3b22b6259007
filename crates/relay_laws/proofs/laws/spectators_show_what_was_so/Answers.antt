use Rattle.relay_laws.proofs.Seeing.{spectators_show}
use Rattle.relay_laws.proofs.laws.spectators_show_what_was_so.Goals as goal

pub returns : goal.returns
returns c = spectators_show c.copies_show_values.ensures c.copies_show_reads.ensures.reads c.events_in_order.ensures c.own_lists_hold.ensures
