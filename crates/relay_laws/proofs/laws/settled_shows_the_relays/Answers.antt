use Rattle.relay_laws.proofs.Settling.{settled_shows}
use Rattle.relay_laws.proofs.laws.settled_shows_the_relays.Goals as goal

pub returns : goal.returns
returns c =
    settled_shows c.copies_show_values.ensures c.settled_is_newest.ensures c.copies_show_reads.ensures.newest c.events_in_order.ensures c.own_lists_hold.ensures
