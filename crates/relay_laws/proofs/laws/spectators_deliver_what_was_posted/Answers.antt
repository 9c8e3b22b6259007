use Rattle.relay_laws.proofs.Delivering.{spectators_deliver}
use Rattle.relay_laws.proofs.laws.spectators_deliver_what_was_posted.Goals as goal

pub returns : goal.returns
returns c = spectators_deliver c.events_in_order.ensures c.own_lists_hold.ensures
